use Rattle.std.proofs.Common.{false}
use Rattle.bfs_attrs.proofs.Single.{left_is}
use Rattle.bfs_attrs.proofs.rows.is_one.Goals as goal

pub loop-row-init : goal.loop-row-init
loop-row-init c = left_is c.args.ranged.now false
