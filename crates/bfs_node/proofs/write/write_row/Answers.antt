use Rattle.std.proofs.Common.{◌≡◌, ◌+◌, ◌*◌, ap, ◌∙◌, arith, length, subst, ℤ}
use Rattle.std.specs.Int.{w64}
use Rattle.std.proofs.lemmas.Int.{to_z-of_z}
use Rattle.bfs_bytes.specs.Fields.{Puts, signed64_bytes}
use Rattle.bfs_bytes.proofs.Lengths.{length-unsigned_bytes, length-signed64_bytes}
use Rattle.bfs_node.specs.Written.{part, with_part, two, eight}
use Rattle.bfs_node.proofs.Parts.{part-before}
use Rattle.bfs_node.proofs.RowsWritten.{written-more}
use Rattle.bfs_node.proofs.write.write_row.Goals as goal

third : (c : goal.After-slice_known-4-1) → c.put_i64.new.bytes ≡ with_part c.put_u16.new.bytes (c.args.table.base + 2 * c.args.table.count + 8 * c.args.j) (eight c.args.value)
third c =
    subst (λ (z : ℤ). Puts (c.args.table.base + 2 * c.args.table.count + 8 * c.args.j) (signed64_bytes z) c.put_u16.new.bytes c.put_i64.new.bytes) (to_z-of_z w64 c.args.value c.ranges.value) c.put_i64.ensures

pub returns-clause-head : goal.returns-clause-head
returns-clause-head c =
    let l2 : length (two (c.args.end + length c.args.key.now)) ≡ 2 = length-unsigned_bytes 2 (c.args.end + length c.args.key.now) in
    let l8 : length (eight c.args.value) ≡ 8 = length-signed64_bytes c.args.value in
    ap (λ q. part q 0 28) (third c) ∙ part-before c.put_u16.new.bytes (eight c.args.value) (c.args.table.base + 2 * c.args.table.count + 8 * c.args.j) 0 28 (omega arith) (omega arith)
    ∙ ap (λ q. part q 0 28) c.put_u16.ensures ∙ part-before c.put_bytes.new.bytes (two (c.args.end + length c.args.key.now)) (c.args.table.base + 2 * c.args.j) 0 28 (omega arith) (omega arith)
    ∙ ap (λ q. part q 0 28) c.put_bytes.ensures ∙ part-before c.args.page.now c.args.key.now (28 + c.args.end) 0 28 (omega arith) (omega arith)

pub returns-clause-written : goal.returns-clause-written
returns-clause-written c rows len ks w =
    written-more c.args.page.now c.put_bytes.new.bytes c.put_u16.new.bytes c.put_i64.new.bytes c.args.table.base c.args.table.count c.args.j c.args.end c.args.key.now c.args.value rows
    c.requires.page c.requires.key c.requires.ends c.requires.place c.put_bytes.ensures c.put_u16.ensures (third c) (omega arith) (omega arith) len ks w
