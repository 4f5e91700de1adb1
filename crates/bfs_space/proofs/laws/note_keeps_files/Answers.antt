use Rattle.bfs_space.proofs.KnownBlocks.{note_keeps_files}
use Rattle.bfs_space.proofs.laws.note_keeps_files.Goals as goal

pub returns : goal.returns
returns c = note_keeps_files
