use Rattle.std.proofs.Common.{◌≡◌, ◌≤◌, ◌+◌, ◌-◌, length, arith, inl}
use Rattle.bfs_inode.proofs.Whole.{small_data-put, stream-kept}
use Rattle.bfs_inode.proofs.edit.InodeMut.set_small_data.Goals as goal

pub returns-clause-inode : goal.returns-clause-inode
returns-clause-inode c =
    small_data-put c.args.self.now.block.now c.put_bytes.new.bytes c.args.value.now c.put_bytes.ensures c.args.self.now.long c.requires

pub returns-clause-stream : goal.returns-clause-stream
returns-clause-stream c =
    let size : length c.args.value.now ≡ length c.args.self.now.block.now - 232 = c.requires in
    let fits : 232 + length c.args.value.now ≤ length c.args.self.now.block.now = omega (arith, c.args.self.now.long) in
    stream-kept 232 c.args.value.now c.args.self.now.block.now c.put_bytes.new.bytes c.put_bytes.ensures fits (inl (omega arith))
