use Rattle.std.proofs.Common.{◌≡◌, ◌≤◌, ◌+◌, ◌-◌, ◌*◌, ap, ◌∙◌, length, take, drop, remove, [], ◌++◌, arith, refl, ℕ, subst, length-take}
use Rattle.bfs_base.specs.Images.{IsBytes}
use Rattle.bfs_node.specs.Page.{rows_of, row_in, key_of, keys_of, taken_by}
use Rattle.bfs_node.specs.Written.{Written, Holds, IsNumber}
use Rattle.bfs_node.proofs.AllRows.{all-remove, length-removed, keys-removed}
use Rattle.bfs_node.proofs.Begun.{links-head}
use Rattle.bfs_node.proofs.Made.{made, same-removed}
use Rattle.bfs_node.proofs.PageLayout.{holds-rows, length-rows_of}
use Rattle.bfs_node.proofs.RowsRead.{keys-le, keys-next, nothing-written}
use Rattle.bfs_node.proofs.write.make_without_row.Goals as goal

pub overflow_sub-bytes : goal.overflow_sub-bytes
overflow_sub-bytes c = omega (arith, ap length c.row_key.ensures, keys-removed (rows_of c.args.old.now) c.args.i c.requires.place, c.key_bytes.ensures.rows)

pub begin-table-requires-clause-fits : goal.begin-table-requires-clause-fits
begin-table-requires-clause-fits c =
    omega (arith, c.key_bytes.ensures.field, c.row_count-count.ensures, length-rows_of c.args.old.now, c.requires.old.bounds)

pub copy_rows-start-requires-clause-room : goal.copy_rows-start-requires-clause-room
copy_rows-start-requires-clause-room c =
    omega (arith, keys-le (rows_of c.args.old.now) c.args.i, keys-le (rows_of c.args.old.now) (c.args.i + 1), keys-next (rows_of c.args.old.now) c.args.i c.requires.place, ap length c.row_key.ensures, c.key_bytes.ensures.rows, c.begin-table.ensures.base)

pub copy_rows-start-requires-clause-ends : goal.copy_rows-start-requires-clause-ends
copy_rows-start-requires-clause-ends c =
    omega (arith, c.key_bytes.ensures.field, c.row_count-count.ensures, length-rows_of c.args.old.now, c.requires.old.bounds, c.begin-table.ensures.base, c.begin-table.ensures.count)

pub copy_rows-requires-clause-room : goal.copy_rows-requires-clause-room
copy_rows-requires-clause-room c =
    omega (arith, keys-le (rows_of c.args.old.now) c.row_count-count.result, keys-next (rows_of c.args.old.now) c.args.i c.requires.place, ap length c.row_key.ensures, c.key_bytes.ensures.rows, c.begin-table.ensures.base, c.copy_rows-start.ensures.end)

pub copy_rows-requires-clause-ends : goal.copy_rows-requires-clause-ends
copy_rows-requires-clause-ends c =
    omega (arith, c.key_bytes.ensures.field, c.row_count-count.ensures, length-rows_of c.args.old.now, c.requires.old.bounds, c.begin-table.ensures.base, c.begin-table.ensures.count)

pub returns-clause-links : goal.returns-clause-links
returns-clause-links c =
    links-head c.copy_rows.new.page c.begin-table.new.page (c.copy_rows.ensures.head ∙ c.copy_rows-start.ensures.head) ∙ c.begin-table.ensures.links ∙ c.page_links.ensures

pub returns-clause-rows : goal.returns-clause-rows
returns-clause-rows c =
    let small : IsBytes c.args.old.now = λ i. omega (arith, c.type_inv.old i) in
    let old : Holds c.args.old.now (rows_of c.args.old.now) = holds-rows c.args.old.now c.requires.old small in
    let minus : c.args.i - 0 ≡ c.args.i = omega arith in
    let w1 = subst (λ (k : ℕ). Written c.copy_rows-start.new.page c.begin-table.result.base (c.begin-table.result.base + 2 * c.begin-table.result.count) (take k (rows_of c.args.old.now))) minus
    (c.copy_rows-start.ensures.written [] refl refl (nothing-written c.begin-table.new.page c.begin-table.result.base (c.begin-table.result.base + 2 * c.begin-table.result.count))) in
    let i_len : length (take c.args.i (rows_of c.args.old.now)) ≡ c.args.i = omega (arith, length-take c.args.i (rows_of c.args.old.now), c.requires.place) in
    let start_is : length (keys_of (take c.args.i (rows_of c.args.old.now))) ≡ c.copy_rows-start.result = omega (arith, c.copy_rows-start.ensures.end) in
    let w2 = c.copy_rows.ensures.written (take c.args.i (rows_of c.args.old.now)) i_len start_is w1 in
    let key : length c.row_key.result.now ≡ length (key_of (row_in (rows_of c.args.old.now) c.args.i)) = ap length c.row_key.ensures in
    let n : c.row_count-count.result - 1 ≡ length (remove (rows_of c.args.old.now) c.args.i) = omega (arith, c.row_count-count.ensures, length-removed (rows_of c.args.old.now) c.args.i c.requires.place) in
    let b : c.key_bytes.result - length c.row_key.result.now ≡ length (keys_of (remove (rows_of c.args.old.now) c.args.i)) =
    omega (arith, c.key_bytes.ensures.rows, key, keys-removed (rows_of c.args.old.now) c.args.i c.requires.place) in
    let room : taken_by (c.row_count-count.result - 1) (c.key_bytes.result - length c.row_key.result.now) ≤ 1024 =
    omega (arith, c.key_bytes.ensures.field, c.row_count-count.ensures, length-rows_of c.args.old.now, c.requires.old.bounds) in
    made c.begin-table.new.page c.copy_rows.new.page c.begin-table.result.base c.begin-table.result.count (c.row_count-count.result - 1) (c.key_bytes.result - length c.row_key.result.now)
    (remove (rows_of c.args.old.now) c.args.i) (take c.args.i (rows_of c.args.old.now) ++ take (c.row_count-count.result - (c.args.i + 1)) (drop (c.args.i + 1) (rows_of c.args.old.now)))
    (same-removed (rows_of c.args.old.now) c.args.i c.row_count-count.result c.row_count-count.ensures c.requires.place)
    n b c.begin-table.ensures.base c.begin-table.ensures.count c.copy_rows.ensures.size
    (c.copy_rows.ensures.head ∙ c.copy_rows-start.ensures.head) c.begin-table.ensures.count_field c.begin-table.ensures.bytes_field
    (all-remove IsNumber (rows_of c.args.old.now) c.args.i old.small) room w2
