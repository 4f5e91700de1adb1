use Rattle.std.proofs.Common.{arith}
use Rattle.bfs_insert.proofs.Dividing.{rows-some}
use Rattle.bfs_insert.proofs.divide.divide_leaf.Goals as goal

pub overflow_add-i : goal.overflow_add-i
overflow_add-i c = omega (arith, c.requires.row, rows-some c.args.page.now c.requires.page)
