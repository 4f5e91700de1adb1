use Rattle.bfs_space.proofs.Held.{entry_keeps_holds}
use Rattle.bfs_space.proofs.laws.entry_keeps_holds.Goals as goal

pub returns : goal.returns
returns c = entry_keeps_holds
