use Rattle.std.proofs.Common.{arith}
use Rattle.bfs_node.proofs.PageLayout.{length-rows_of}
use Rattle.bfs_node.proofs.read.value_place.Goals as goal

pub overflow_mul-result : goal.overflow_mul-result
overflow_mul-result c = omega (arith, c.row_count.ensures, length-rows_of c.args.page.now, c.requires.page.bounds)

pub overflow_add-result : goal.overflow_add-result
overflow_add-result c = omega (arith, c.row_count.ensures, c.ends_base.ensures, length-rows_of c.args.page.now, c.requires.page.bounds)

pub overflow_mul-result-2 : goal.overflow_mul-result-2
overflow_mul-result-2 c = omega (arith, length-rows_of c.args.page.now, c.requires.page.bounds, c.requires.place)

pub overflow_add-result-2 : goal.overflow_add-result-2
overflow_add-result-2 c = omega (arith, c.row_count.ensures, c.ends_base.ensures, length-rows_of c.args.page.now, c.requires.page.bounds, c.requires.place)

pub returns-clause-place : goal.returns-clause-place
returns-clause-place c = omega (arith, c.row_count.ensures, c.ends_base.ensures, length-rows_of c.args.page.now)

pub returns-clause-within : goal.returns-clause-within
returns-clause-within c =
    omega (arith, c.row_count.ensures, c.ends_base.ensures, length-rows_of c.args.page.now, c.requires.page.size, c.requires.page.bounds, c.requires.place)
