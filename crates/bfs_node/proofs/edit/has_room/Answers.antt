use Rattle.std.proofs.Common.{arith}
use Rattle.bfs_node.proofs.PageLayout.{length-rows_of}
use Rattle.bfs_node.proofs.edit.has_room.Goals as goal

pub overflow_add-result-then-key-le1024-3 : goal.overflow_add-result-then-key-le1024-3
overflow_add-result-then-key-le1024-3 c = omega (arith, c.row_count.ensures, length-rows_of c.args.page.now, c.requires.bounds)

pub overflow_mul-result-then-key-le1024 : goal.overflow_mul-result-then-key-le1024
overflow_mul-result-then-key-le1024 c = omega (arith, c.row_count.ensures, length-rows_of c.args.page.now, c.requires.bounds)

pub overflow_add-result-then-key-le1024-4 : goal.overflow_add-result-then-key-le1024-4
overflow_add-result-then-key-le1024-4 c =
    omega (arith, c.row_count.ensures, length-rows_of c.args.page.now, c.requires.bounds, c.key_bytes-bytes.ensures.field)
