use Rattle.std.proofs.Common.{◌+◌, ◌*◌, ℕ, ℤ, subst, arith, to_z, of_z}
use Rattle.std.specs.Int.{w64}
use Rattle.std.proofs.lemmas.Int.{to_z-of_z}
use Rattle.bfs_bytes.specs.Fields.{Puts, signed64_bytes}
use Rattle.bfs_node.specs.Page.{base_at, count_at}
use Rattle.bfs_node.proofs.PageLayout.{length-rows_of}
use Rattle.bfs_node.proofs.Valued.{rows-valued, layout-valued, links-valued}
use Rattle.bfs_node.proofs.edit.set_row_value.Goals as goal

pub returns-clause-page : goal.returns-clause-page
returns-clause-page c = layout-valued c.args.page.now c.put_i64.new.bytes c.requires.page c.args.i c.args.value (omega (arith, length-rows_of c.args.page.now, c.requires.place))
    (subst (λ (z : ℤ). Puts (base_at c.args.page.now + 2 * count_at c.args.page.now + 8 * c.args.i) (signed64_bytes z) c.args.page.now c.put_i64.new.bytes) (to_z-of_z w64 c.args.value c.ranges.value)
    (subst (λ (a : ℕ). Puts a (signed64_bytes (to_z w64 (of_z w64 c.args.value))) c.args.page.now c.put_i64.new.bytes) c.value_place-at.ensures.place c.put_i64.ensures))
    c.ranges.value

pub returns-clause-rows : goal.returns-clause-rows
returns-clause-rows c = rows-valued c.args.page.now c.put_i64.new.bytes c.requires.page c.args.i c.args.value (omega (arith, length-rows_of c.args.page.now, c.requires.place))
    (subst (λ (z : ℤ). Puts (base_at c.args.page.now + 2 * count_at c.args.page.now + 8 * c.args.i) (signed64_bytes z) c.args.page.now c.put_i64.new.bytes) (to_z-of_z w64 c.args.value c.ranges.value)
    (subst (λ (a : ℕ). Puts a (signed64_bytes (to_z w64 (of_z w64 c.args.value))) c.args.page.now c.put_i64.new.bytes) c.value_place-at.ensures.place c.put_i64.ensures))
    c.ranges.value

pub returns-clause-links : goal.returns-clause-links
returns-clause-links c = links-valued c.args.page.now c.put_i64.new.bytes c.requires.page c.args.i c.args.value (omega (arith, length-rows_of c.args.page.now, c.requires.place))
    (subst (λ (z : ℤ). Puts (base_at c.args.page.now + 2 * count_at c.args.page.now + 8 * c.args.i) (signed64_bytes z) c.args.page.now c.put_i64.new.bytes) (to_z-of_z w64 c.args.value c.ranges.value)
    (subst (λ (a : ℕ). Puts a (signed64_bytes (to_z w64 (of_z w64 c.args.value))) c.args.page.now c.put_i64.new.bytes) c.value_place-at.ensures.place c.put_i64.ensures))
    c.ranges.value
