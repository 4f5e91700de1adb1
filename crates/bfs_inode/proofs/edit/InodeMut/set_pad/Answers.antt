use Rattle.std.proofs.Common.{◌≡◌, ◌≤◌, ◌+◌, length, arith, inl}
use Rattle.bfs_inode.proofs.Whole.{pad-put, stream-kept}
use Rattle.bfs_inode.proofs.edit.InodeMut.set_pad.Goals as goal

pub returns-clause-inode : goal.returns-clause-inode
returns-clause-inode c =
    pad-put c.args.self.now.block.now c.put_bytes.new.bytes c.args.value.now c.put_bytes.ensures c.args.self.now.long c.requires

pub returns-clause-stream : goal.returns-clause-stream
returns-clause-stream c =
    let size : length c.args.value.now ≡ 8 = c.requires in
    let fits : 224 + length c.args.value.now ≤ length c.args.self.now.block.now = omega (arith, c.args.self.now.long) in
    stream-kept 224 c.args.value.now c.args.self.now.block.now c.put_bytes.new.bytes c.put_bytes.ensures fits (inl (omega arith))
