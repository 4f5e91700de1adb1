use Rattle.bfs_space.proofs.KnownBlocks.{entered_keeps_files}
use Rattle.bfs_space.proofs.laws.entered_keeps_files.Goals as goal

pub returns : goal.returns
returns c = entered_keeps_files
