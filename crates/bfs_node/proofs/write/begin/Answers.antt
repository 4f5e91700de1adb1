use Rattle.std.proofs.Common.{ℤ, subst, rules}
use Rattle.std.specs.Int.{w64}
use Rattle.std.proofs.lemmas.Int.{to_z-of_z}
use Rattle.bfs_bytes.specs.Fields.{Puts, signed64_bytes}
use Rattle.bfs_node.proofs.Begun.{begun, headed}
use Rattle.bfs_node.proofs.write.begin.Goals as goal

pub returns-clause-links : goal.returns-clause-links
returns-clause-links c =
    (begun c.args.page.now c.put_i64.new.bytes c.put_i64-2.new.bytes c.put_i64-3.new.bytes c.put_u16.new.bytes c.put_u16-2.new.bytes c.args.links c.args.count c.args.bytes c.requires.size
    (subst (λ (z : ℤ). Puts 0 (signed64_bytes z) c.args.page.now c.put_i64.new.bytes) (to_z-of_z w64 c.args.links.left (search rules)) c.put_i64.ensures)
    (subst (λ (z : ℤ). Puts 8 (signed64_bytes z) c.put_i64.new.bytes c.put_i64-2.new.bytes) (to_z-of_z w64 c.args.links.right (search rules)) c.put_i64-2.ensures)
    (subst (λ (z : ℤ). Puts 16 (signed64_bytes z) c.put_i64-2.new.bytes c.put_i64-3.new.bytes) (to_z-of_z w64 c.args.links.overflow (search rules)) c.put_i64-3.ensures)
    c.put_u16.ensures c.put_u16-2.ensures (search rules) (search rules) (search rules)).0

pub returns-clause-count_field : goal.returns-clause-count_field
returns-clause-count_field c =
    (begun c.args.page.now c.put_i64.new.bytes c.put_i64-2.new.bytes c.put_i64-3.new.bytes c.put_u16.new.bytes c.put_u16-2.new.bytes c.args.links c.args.count c.args.bytes c.requires.size
    (subst (λ (z : ℤ). Puts 0 (signed64_bytes z) c.args.page.now c.put_i64.new.bytes) (to_z-of_z w64 c.args.links.left (search rules)) c.put_i64.ensures)
    (subst (λ (z : ℤ). Puts 8 (signed64_bytes z) c.put_i64.new.bytes c.put_i64-2.new.bytes) (to_z-of_z w64 c.args.links.right (search rules)) c.put_i64-2.ensures)
    (subst (λ (z : ℤ). Puts 16 (signed64_bytes z) c.put_i64-2.new.bytes c.put_i64-3.new.bytes) (to_z-of_z w64 c.args.links.overflow (search rules)) c.put_i64-3.ensures)
    c.put_u16.ensures c.put_u16-2.ensures (search rules) (search rules) (search rules)).1

pub returns-clause-bytes_field : goal.returns-clause-bytes_field
returns-clause-bytes_field c =
    (begun c.args.page.now c.put_i64.new.bytes c.put_i64-2.new.bytes c.put_i64-3.new.bytes c.put_u16.new.bytes c.put_u16-2.new.bytes c.args.links c.args.count c.args.bytes c.requires.size
    (subst (λ (z : ℤ). Puts 0 (signed64_bytes z) c.args.page.now c.put_i64.new.bytes) (to_z-of_z w64 c.args.links.left (search rules)) c.put_i64.ensures)
    (subst (λ (z : ℤ). Puts 8 (signed64_bytes z) c.put_i64.new.bytes c.put_i64-2.new.bytes) (to_z-of_z w64 c.args.links.right (search rules)) c.put_i64-2.ensures)
    (subst (λ (z : ℤ). Puts 16 (signed64_bytes z) c.put_i64-2.new.bytes c.put_i64-3.new.bytes) (to_z-of_z w64 c.args.links.overflow (search rules)) c.put_i64-3.ensures)
    c.put_u16.ensures c.put_u16-2.ensures (search rules) (search rules) (search rules)).2

pub returns-clause-head : goal.returns-clause-head
returns-clause-head c =
    headed c.args.page.now c.put_i64.new.bytes c.put_i64-2.new.bytes c.put_i64-3.new.bytes c.put_u16.new.bytes c.put_u16-2.new.bytes c.args.links c.args.count c.args.bytes c.requires.size
    (subst (λ (z : ℤ). Puts 0 (signed64_bytes z) c.args.page.now c.put_i64.new.bytes) (to_z-of_z w64 c.args.links.left (search rules)) c.put_i64.ensures)
    (subst (λ (z : ℤ). Puts 8 (signed64_bytes z) c.put_i64.new.bytes c.put_i64-2.new.bytes) (to_z-of_z w64 c.args.links.right (search rules)) c.put_i64-2.ensures)
    (subst (λ (z : ℤ). Puts 16 (signed64_bytes z) c.put_i64-2.new.bytes c.put_i64-3.new.bytes) (to_z-of_z w64 c.args.links.overflow (search rules)) c.put_i64-3.ensures)
    c.put_u16.ensures c.put_u16-2.ensures
