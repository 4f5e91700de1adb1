use Rattle.bfs_shift.proofs.Held.{owner_held}
use Rattle.bfs_shift.proofs.streams.owner_is_held.Goals as goal

pub returns : goal.returns
returns c = owner_held
