use Rattle.std.proofs.Common.{◌≡◌, ◌≤◌, ◌+◌, length, arith, ℤ, subst}
use Rattle.std.specs.Int.{w64}
use Rattle.std.proofs.lemmas.Int.{to_z-of_z}
use Rattle.bfs_bytes.specs.Fields.{Puts, signed64_bytes}
use Rattle.bfs_bytes.proofs.Lengths.{length-signed64_bytes}
use Rattle.bfs_inode.proofs.Whole.{max_indirect_range-put, inode-in_stream, outside-kept}
use Rattle.bfs_inode.proofs.edit.InodeMut.set_max_indirect_range.Goals as goal

pub returns-clause-inode : goal.returns-clause-inode
returns-clause-inode c =
    let size : length (signed64_bytes c.args.value) ≡ 8 = length-signed64_bytes c.args.value in
    let fits : 184 + length (signed64_bytes c.args.value) ≤ length c.args.self.now.block.now = omega (arith, c.args.self.now.long) in
    inode-in_stream 184 (signed64_bytes c.args.value) c.args.self.now.block.now c.put_i64.new.bytes (subst (λ (z : ℤ). Puts 184 (signed64_bytes z) c.args.self.now.block.now c.put_i64.new.bytes) (to_z-of_z w64 c.args.value c.ranges.value) c.put_i64.ensures) fits (omega arith) (omega arith)

pub returns-clause-outside : goal.returns-clause-outside
returns-clause-outside c =
    let size : length (signed64_bytes c.args.value) ≡ 8 = length-signed64_bytes c.args.value in
    let fits : 184 + length (signed64_bytes c.args.value) ≤ length c.args.self.now.block.now = omega (arith, c.args.self.now.long) in
    outside-kept 184 (signed64_bytes c.args.value) c.args.self.now.block.now c.put_i64.new.bytes (subst (λ (z : ℤ). Puts 184 (signed64_bytes z) c.args.self.now.block.now c.put_i64.new.bytes) (to_z-of_z w64 c.args.value c.ranges.value) c.put_i64.ensures) fits (omega arith) (omega arith)

pub returns-clause-stream : goal.returns-clause-stream
returns-clause-stream c =
    max_indirect_range-put c.args.self.now.block.now c.put_i64.new.bytes c.args.value (subst (λ (z : ℤ). Puts 184 (signed64_bytes z) c.args.self.now.block.now c.put_i64.new.bytes) (to_z-of_z w64 c.args.value c.ranges.value) c.put_i64.ensures) c.args.self.now.long c.ranges.value
