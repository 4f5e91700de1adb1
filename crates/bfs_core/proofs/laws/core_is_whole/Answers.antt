use Rattle.bfs_core.proofs.Wholes.{face_whole}
use Rattle.bfs_core.proofs.laws.core_is_whole.Goals as goal

pub returns : goal.returns
returns c = face_whole
