use Rattle.std.proofs.Common.{◌≤◌, ◌+◌, length, arith}
use Rattle.bfs_inode.proofs.Whole.{stream_bytes-put, outside-kept}
use Rattle.bfs_inode.proofs.edit.InodeMut.set_stream_bytes.Goals as goal

pub returns-clause-inode : goal.returns-clause-inode
returns-clause-inode c =
    stream_bytes-put c.args.self.now.block.now c.put_bytes.new.bytes c.args.value.now c.put_bytes.ensures c.args.self.now.long c.requires

pub returns-clause-outside : goal.returns-clause-outside
returns-clause-outside c =
    let size = c.requires in
    let fits : 72 + length c.args.value.now ≤ length c.args.self.now.block.now = omega (arith, size, c.args.self.now.long) in
    outside-kept 72 c.args.value.now c.args.self.now.block.now c.put_bytes.new.bytes c.put_bytes.ensures fits (omega arith) (omega (arith, size))
