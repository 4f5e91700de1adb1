use Rattle.std.proofs.Common.{ℤ, subst, arith}
use Rattle.std.specs.Int.{w64}
use Rattle.std.proofs.lemmas.Int.{to_z-of_z}
use Rattle.bfs_bytes.specs.Fields.{Puts, signed64_bytes}
use Rattle.bfs_node.proofs.Linked.{left-linked, rows-linked, layout-linked}
use Rattle.bfs_node.proofs.edit.set_left_link.Goals as goal

pub returns-clause-links : goal.returns-clause-links
returns-clause-links c = left-linked c.args.page.now c.put_i64.new.bytes c.args.link
    (subst (λ (z : ℤ). Puts 0 (signed64_bytes z) c.args.page.now c.put_i64.new.bytes) (to_z-of_z w64 c.args.link c.ranges.link) c.put_i64.ensures)
    c.requires c.ranges.link

pub returns-clause-rows : goal.returns-clause-rows
returns-clause-rows c = rows-linked 0 c.args.page.now c.put_i64.new.bytes c.args.link
    (subst (λ (z : ℤ). Puts 0 (signed64_bytes z) c.args.page.now c.put_i64.new.bytes) (to_z-of_z w64 c.args.link c.ranges.link) c.put_i64.ensures)
    c.requires (omega arith)

pub returns-clause-page : goal.returns-clause-page
returns-clause-page c = layout-linked 0 c.args.page.now c.put_i64.new.bytes c.args.link
    (subst (λ (z : ℤ). Puts 0 (signed64_bytes z) c.args.page.now c.put_i64.new.bytes) (to_z-of_z w64 c.args.link c.ranges.link) c.put_i64.ensures)
    c.requires (omega arith)
