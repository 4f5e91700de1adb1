use Rattle.bfs_space.proofs.Held.{held_is_after}
use Rattle.bfs_space.proofs.laws.held_is_after.Goals as goal

pub returns : goal.returns
returns c = held_is_after
