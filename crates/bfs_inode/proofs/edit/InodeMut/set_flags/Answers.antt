use Rattle.std.proofs.Common.{◌≡◌, ◌≤◌, ◌+◌, length, arith, inr, ℤ, subst}
use Rattle.std.specs.Int.{w32}
use Rattle.std.proofs.lemmas.Int.{to_z-of_z}
use Rattle.bfs_bytes.specs.Fields.{Puts, signed32_bytes}
use Rattle.bfs_bytes.proofs.Lengths.{length-signed32_bytes}
use Rattle.bfs_inode.proofs.Whole.{flags-put, stream-kept}
use Rattle.bfs_inode.proofs.edit.InodeMut.set_flags.Goals as goal

pub returns-clause-inode : goal.returns-clause-inode
returns-clause-inode c =
    flags-put c.args.self.now.block.now c.put_i32.new.bytes c.args.value (subst (λ (z : ℤ). Puts 24 (signed32_bytes z) c.args.self.now.block.now c.put_i32.new.bytes) (to_z-of_z w32 c.args.value c.ranges.value) c.put_i32.ensures) c.args.self.now.long c.ranges.value

pub returns-clause-stream : goal.returns-clause-stream
returns-clause-stream c =
    let size : length (signed32_bytes c.args.value) ≡ 4 = length-signed32_bytes c.args.value in
    let fits : 24 + length (signed32_bytes c.args.value) ≤ length c.args.self.now.block.now = omega (arith, c.args.self.now.long) in
    stream-kept 24 (signed32_bytes c.args.value) c.args.self.now.block.now c.put_i32.new.bytes (subst (λ (z : ℤ). Puts 24 (signed32_bytes z) c.args.self.now.block.now c.put_i32.new.bytes) (to_z-of_z w32 c.args.value c.ranges.value) c.put_i32.ensures) fits (inr (omega arith))
