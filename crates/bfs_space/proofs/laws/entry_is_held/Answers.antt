use Rattle.bfs_space.proofs.Held.{entry_is_held}
use Rattle.bfs_space.proofs.laws.entry_is_held.Goals as goal

pub returns : goal.returns
returns c = entry_is_held
