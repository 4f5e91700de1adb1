use Rattle.std.proofs.Common.{ℤ, subst, rules, arith}
use Rattle.std.specs.Int.{w64}
use Rattle.std.proofs.lemmas.Int.{to_z-of_z}
use Rattle.bfs_bytes.specs.Fields.{Puts, signed64_bytes}
use Rattle.bfs_node.specs.Header.{header_bytes}
use Rattle.bfs_node.proofs.Headers.{header-put, header-again}
use Rattle.bfs_node.proofs.header.Header.print.Goals as goal

pub returns-clause-puts : goal.returns-clause-puts
returns-clause-puts c =
    header-put c.args.self.now c.args.page.now c.put_u32.new.bytes c.put_u32-2.new.bytes c.put_u32-3.new.bytes c.put_u32-4.new.bytes c.put_i64.new.bytes c.put_i64-2.new.bytes c.put_i64-3.new.bytes c.requires
    c.put_u32.ensures
    c.put_u32-2.ensures
    c.put_u32-3.ensures
    c.put_u32-4.ensures
    (subst (λ (z : ℤ). Puts 16 (signed64_bytes z) c.put_u32-4.new.bytes c.put_i64.new.bytes) (to_z-of_z w64 c.args.self.now.root_pointer (search rules)) c.put_i64.ensures)
    (subst (λ (z : ℤ). Puts 24 (signed64_bytes z) c.put_i64.new.bytes c.put_i64-2.new.bytes) (to_z-of_z w64 c.args.self.now.free_pointer (search rules)) c.put_i64-2.ensures)
    (subst (λ (z : ℤ). Puts 32 (signed64_bytes z) c.put_i64-2.new.bytes c.put_i64-3.new.bytes) (to_z-of_z w64 c.args.self.now.maximum_size (search rules)) c.put_i64-3.ensures)

pub returns-clause-again : goal.returns-clause-again
returns-clause-again c =
    let puts : Puts 0 (header_bytes c.args.self.now) c.args.page.now c.put_i64-3.new.bytes =
    header-put c.args.self.now c.args.page.now c.put_u32.new.bytes c.put_u32-2.new.bytes c.put_u32-3.new.bytes c.put_u32-4.new.bytes c.put_i64.new.bytes c.put_i64-2.new.bytes c.put_i64-3.new.bytes c.requires
    c.put_u32.ensures
    c.put_u32-2.ensures
    c.put_u32-3.ensures
    c.put_u32-4.ensures
    (subst (λ (z : ℤ). Puts 16 (signed64_bytes z) c.put_u32-4.new.bytes c.put_i64.new.bytes) (to_z-of_z w64 c.args.self.now.root_pointer (search rules)) c.put_i64.ensures)
    (subst (λ (z : ℤ). Puts 24 (signed64_bytes z) c.put_i64.new.bytes c.put_i64-2.new.bytes) (to_z-of_z w64 c.args.self.now.free_pointer (search rules)) c.put_i64-2.ensures)
    (subst (λ (z : ℤ). Puts 32 (signed64_bytes z) c.put_i64-2.new.bytes c.put_i64-3.new.bytes) (to_z-of_z w64 c.args.self.now.maximum_size (search rules)) c.put_i64-3.ensures) in
    header-again c.args.self.now c.args.page.now c.put_i64-3.new.bytes puts (omega (arith, c.requires))
    (search rules) (search rules) (search rules) (search rules) (search rules) (search rules) (search rules)
