use Rattle.std.proofs.Common.{◌≡◌, ◌≤◌, ◌+◌, length, arith, inr}
use Rattle.bfs_bytes.specs.Fields.{unsigned_bytes}
use Rattle.bfs_bytes.proofs.Lengths.{length-unsigned_bytes}
use Rattle.bfs_inode.proofs.Whole.{etc-put, stream-kept}
use Rattle.bfs_inode.proofs.edit.InodeMut.set_etc.Goals as goal

pub returns-clause-inode : goal.returns-clause-inode
returns-clause-inode c =
    etc-put c.args.self.now.block.now c.put_u32.new.bytes c.args.value c.put_u32.ensures c.args.self.now.long (omega (arith, c.ranges.value))

pub returns-clause-stream : goal.returns-clause-stream
returns-clause-stream c =
    let size : length (unsigned_bytes 4 c.args.value) ≡ 4 = length-unsigned_bytes 4 c.args.value in
    let fits : 68 + length (unsigned_bytes 4 c.args.value) ≤ length c.args.self.now.block.now = omega (arith, c.args.self.now.long) in
    stream-kept 68 (unsigned_bytes 4 c.args.value) c.args.self.now.block.now c.put_u32.new.bytes c.put_u32.ensures fits (inr (omega arith))
