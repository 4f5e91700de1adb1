use Rattle.std.proofs.Common.{sym, subst}
use Rattle.bfs_device.specs.Orders.{AllAscend}
use Rattle.bfs_device.proofs.data.is_waiting.Goals as goal

pub newest_bytes-requires : goal.newest_bytes-requires
newest_bytes-requires c is = subst AllAscend (sym c.deref.ensures.value) (c.requires.ready.ordered is)
