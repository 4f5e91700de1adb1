use Rattle.std.proofs.Common.{◌≡◌, ap, arith, length}
use Rattle.bfs_node.specs.Page.{rows_of, keys_of, key_bytes_at, base_of}
use Rattle.bfs_node.proofs.PageLayout.{length-rows_of}
use Rattle.bfs_node.proofs.edit.free_bytes.Goals as goal

pub overflow_mul-result-2 : goal.overflow_mul-result-2
overflow_mul-result-2 c = omega (arith, c.row_count.ensures, length-rows_of c.args.page.now, c.requires.bounds)

pub overflow_add-result-3 : goal.overflow_add-result-3
overflow_add-result-3 c = omega (arith, c.row_count.ensures, length-rows_of c.args.page.now, c.requires.bounds, c.key_bytes.ensures.field)

pub overflow_sub-result : goal.overflow_sub-result
overflow_sub-result c = omega (arith, c.row_count.ensures, length-rows_of c.args.page.now, c.requires.bounds, ap base_of c.key_bytes.ensures.field)

pub returns : goal.returns
returns c =
    let field : base_of c.key_bytes.result ≡ base_of (key_bytes_at c.args.page.now) = ap base_of c.key_bytes.ensures.field in
    let rows : base_of c.key_bytes.result ≡ base_of (length (keys_of (rows_of c.args.page.now))) = ap base_of c.key_bytes.ensures.rows in
    omega (arith, c.row_count.ensures, length-rows_of c.args.page.now, c.requires.bounds, field, rows)
