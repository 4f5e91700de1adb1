use Rattle.std.proofs.Common.{◌≡◌, ◌≤◌, ◌+◌, ◌-◌, ◌*◌, ap, ◌∙◌, length, take, drop, insert, [], ◌∷◌, ◌++◌, arith, refl, ℕ, subst, to_z, of_z, rules, length-append, length-take}
use Rattle.std.specs.Int.{w64}
use Rattle.bfs_base.specs.Images.{IsBytes}
use Rattle.bfs_node.specs.Page.{rows_of, keys_of, base_of, taken_by}
use Rattle.bfs_node.specs.Written.{Written, Holds, IsNumber}
use Rattle.bfs_node.proofs.AllRows.{all-insert, length-inserted, keys-inserted}
use Rattle.bfs_node.proofs.Begun.{links-head}
use Rattle.bfs_node.proofs.Made.{made, same-inserted}
use Rattle.bfs_node.proofs.PageLayout.{holds-rows}
use Rattle.bfs_node.proofs.RowsRead.{keys-le, key_pushed, nothing-written}
use Rattle.bfs_node.proofs.write.make_with_row.Goals as goal

pub copy_rows-start-requires-clause-room : goal.copy_rows-start-requires-clause-room
copy_rows-start-requires-clause-room c = omega (arith, keys-le (rows_of c.args.old.now) c.args.i, c.key_bytes.ensures.rows, c.begin-table.ensures.base)

pub write_row-end-requires-clause-key : goal.write_row-end-requires-clause-key
write_row-end-requires-clause-key c =
    omega (arith, keys-le (rows_of c.args.old.now) c.args.i, c.key_bytes.ensures.rows, c.begin-table.ensures.base, c.copy_rows-start.ensures.end)

pub returns-clause-links : goal.returns-clause-links
returns-clause-links c =
    links-head c.copy_rows.new.page c.begin-table.new.page (c.copy_rows.ensures.head ∙ c.write_row-end.ensures.head ∙ c.copy_rows-start.ensures.head) ∙ c.begin-table.ensures.links ∙ c.page_links.ensures

pub returns-clause-rows : goal.returns-clause-rows
returns-clause-rows c =
    let small : IsBytes c.args.old.now = λ i. omega (arith, c.type_inv.old i) in
    let old : Holds c.args.old.now (rows_of c.args.old.now) = holds-rows c.args.old.now c.requires.old small in
    let minus : c.args.i - 0 ≡ c.args.i = omega arith in
    let whole : to_z w64 (of_z w64 c.args.value) ≡ c.args.value = search rules in
    let w1 = subst (λ (k : ℕ). Written c.copy_rows-start.new.page c.begin-table.result.base (c.begin-table.result.base + 2 * c.begin-table.result.count) (take k (rows_of c.args.old.now))) minus
    (c.copy_rows-start.ensures.written [] refl refl (nothing-written c.begin-table.new.page c.begin-table.result.base (c.begin-table.result.base + 2 * c.begin-table.result.count))) in
    let i_len : length (take c.args.i (rows_of c.args.old.now)) ≡ c.args.i = omega (arith, length-take c.args.i (rows_of c.args.old.now), c.requires.place) in
    let start_is : length (keys_of (take c.args.i (rows_of c.args.old.now))) ≡ c.copy_rows-start.result = omega (arith, c.copy_rows-start.ensures.end) in
    let w2 = c.write_row-end.ensures.written (take c.args.i (rows_of c.args.old.now)) i_len start_is w1 in
    let w3 = c.copy_rows.ensures.written (take c.args.i (rows_of c.args.old.now) ++ (c.args.key.now, to_z w64 (of_z w64 c.args.value)) ∷ [])
    (omega (arith, length-append (take c.args.i (rows_of c.args.old.now)) ((c.args.key.now, to_z w64 (of_z w64 c.args.value)) ∷ []), i_len))
    (key_pushed (take c.args.i (rows_of c.args.old.now)) c.args.key.now (to_z w64 (of_z w64 c.args.value)) ∙ omega (arith, start_is, c.write_row-end.ensures.end)) w2 in
    let n : c.row_count-count.result + 1 ≡ length (insert (rows_of c.args.old.now) c.args.i (c.args.key.now, c.args.value)) =
    omega (arith, c.row_count-count.ensures, length-inserted (rows_of c.args.old.now) c.args.i (c.args.key.now, c.args.value) c.requires.place) in
    let b : c.key_bytes.result + length c.args.key.now ≡ length (keys_of (insert (rows_of c.args.old.now) c.args.i (c.args.key.now, c.args.value))) =
    omega (arith, c.key_bytes.ensures.rows, keys-inserted (rows_of c.args.old.now) c.args.i (c.args.key.now, c.args.value)) in
    let room : taken_by (c.row_count-count.result + 1) (c.key_bytes.result + length c.args.key.now) ≤ 1024 =
    omega (arith, c.requires.room, c.row_count-count.ensures, ap (λ k. base_of (k + length c.args.key.now)) c.key_bytes.ensures.rows) in
    made c.begin-table.new.page c.copy_rows.new.page c.begin-table.result.base c.begin-table.result.count (c.row_count-count.result + 1) (c.key_bytes.result + length c.args.key.now)
    (insert (rows_of c.args.old.now) c.args.i (c.args.key.now, c.args.value))
    ((take c.args.i (rows_of c.args.old.now) ++ (c.args.key.now, to_z w64 (of_z w64 c.args.value)) ∷ []) ++ take (c.row_count-count.result - c.args.i) (drop c.args.i (rows_of c.args.old.now)))
    (same-inserted (rows_of c.args.old.now) c.args.i c.row_count-count.result c.args.key.now c.args.value (to_z w64 (of_z w64 c.args.value)) whole c.row_count-count.ensures c.requires.place)
    n b c.begin-table.ensures.base c.begin-table.ensures.count c.copy_rows.ensures.size
    (c.copy_rows.ensures.head ∙ c.write_row-end.ensures.head ∙ c.copy_rows-start.ensures.head) c.begin-table.ensures.count_field c.begin-table.ensures.bytes_field
    (all-insert IsNumber (rows_of c.args.old.now) c.args.i (c.args.key.now, c.args.value) old.small c.ranges.value) room w3
