use Rattle.bfs_sound.proofs.Owning.{reach_by_owners}
use Rattle.bfs_sound.proofs.laws.reach_is_by_owners.Goals as goal

pub returns : goal.returns
returns c = λ v tree. reach_by_owners v tree
