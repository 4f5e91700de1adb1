use Rattle.bfs_core.proofs.Images.{numbers_of}
use Rattle.bfs_core.proofs.laws.core_is_ordered.Goals as goal

pub returns : goal.returns
returns c = numbers_of
