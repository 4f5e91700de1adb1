use Rattle.std.proofs.Common.{◌≡◌, ◌≤◌, ◌+◌, ◌-◌, ◌*◌, ◌∙◌, length, take, drop, [], arith, refl, rules, length-take, length-drop}
use Rattle.bfs_base.specs.Images.{IsBytes}
use Rattle.bfs_node.specs.Page.{rows_of, keys_of, taken_by}
use Rattle.bfs_node.specs.Written.{Holds, IsNumber}
use Rattle.bfs_node.proofs.AllRows.{all-part, keys-part}
use Rattle.bfs_node.proofs.Begun.{links-head}
use Rattle.bfs_node.proofs.Made.{made}
use Rattle.bfs_node.proofs.PageLayout.{holds-rows}
use Rattle.bfs_node.proofs.RowsRead.{keys-le, nothing-written}
use Rattle.bfs_node.proofs.write.make_part.Goals as goal

pub overflow_sub-bytes : goal.overflow_sub-bytes
overflow_sub-bytes c = omega (arith, c.key_start.ensures.rows, c.key_start-2.ensures.rows, keys-part (rows_of c.args.old.now) c.args.from c.args.to c.requires.order c.requires.within)

pub begin-table-requires-clause-fits : goal.begin-table-requires-clause-fits
begin-table-requires-clause-fits c =
    let small : IsBytes c.args.old.now = λ i. omega (arith, c.type_inv.old i) in
    let old : Holds c.args.old.now (rows_of c.args.old.now) = holds-rows c.args.old.now c.requires.old small in
    omega (arith, c.key_start.ensures.rows, c.key_start-2.ensures.rows, keys-le (rows_of c.args.old.now) c.args.to, old.fits, c.requires.within)

pub copy_rows-requires-clause-ends : goal.copy_rows-requires-clause-ends
copy_rows-requires-clause-ends c =
    let small : IsBytes c.args.old.now = λ i. omega (arith, c.type_inv.old i) in
    let old : Holds c.args.old.now (rows_of c.args.old.now) = holds-rows c.args.old.now c.requires.old small in
    omega (arith, c.key_start.ensures.rows, c.key_start-2.ensures.rows, keys-le (rows_of c.args.old.now) c.args.to, old.fits, c.requires.within, c.begin-table.ensures.base, c.begin-table.ensures.count)

pub returns-clause-links : goal.returns-clause-links
returns-clause-links c = links-head c.copy_rows.new.page c.begin-table.new.page c.copy_rows.ensures.head ∙ c.begin-table.ensures.links ∙ (search rules)

pub returns-clause-rows : goal.returns-clause-rows
returns-clause-rows c =
    let small : IsBytes c.args.old.now = λ i. omega (arith, c.type_inv.old i) in
    let old : Holds c.args.old.now (rows_of c.args.old.now) = holds-rows c.args.old.now c.requires.old small in
    let w = c.copy_rows.ensures.written [] refl refl (nothing-written c.begin-table.new.page c.begin-table.result.base (c.begin-table.result.base + 2 * c.begin-table.result.count)) in
    let n : c.args.to - c.args.from ≡ length (take (c.args.to - c.args.from) (drop c.args.from (rows_of c.args.old.now))) =
    omega (arith, length-take (c.args.to - c.args.from) (drop c.args.from (rows_of c.args.old.now)), length-drop c.args.from (rows_of c.args.old.now), c.requires.within) in
    let b : c.key_start.result - c.key_start-2.result ≡ length (keys_of (take (c.args.to - c.args.from) (drop c.args.from (rows_of c.args.old.now)))) =
    omega (arith, c.key_start.ensures.rows, c.key_start-2.ensures.rows, keys-part (rows_of c.args.old.now) c.args.from c.args.to c.requires.order c.requires.within) in
    let room : taken_by (c.args.to - c.args.from) (c.key_start.result - c.key_start-2.result) ≤ 1024 =
    omega (arith, c.key_start.ensures.rows, c.key_start-2.ensures.rows, keys-le (rows_of c.args.old.now) c.args.to, old.fits, c.requires.within) in
    made c.begin-table.new.page c.copy_rows.new.page c.begin-table.result.base c.begin-table.result.count (c.args.to - c.args.from) (c.key_start.result - c.key_start-2.result)
    (take (c.args.to - c.args.from) (drop c.args.from (rows_of c.args.old.now))) (take (c.args.to - c.args.from) (drop c.args.from (rows_of c.args.old.now))) refl
    n b c.begin-table.ensures.base c.begin-table.ensures.count c.copy_rows.ensures.size c.copy_rows.ensures.head c.begin-table.ensures.count_field c.begin-table.ensures.bytes_field
    (all-part IsNumber (rows_of c.args.old.now) c.args.from (c.args.to - c.args.from) old.small) room w
