use Rattle.std.proofs.Common.{◌≡◌, ◌≤◌, ◌+◌, length, arith, rules, inr}
use Rattle.bfs_bytes.specs.Fields.{run_bytes}
use Rattle.bfs_bytes.proofs.Lengths.{length-run_bytes}
use Rattle.bfs_inode.proofs.Whole.{inode_num-put, stream-kept}
use Rattle.bfs_inode.proofs.edit.InodeMut.set_inode_num.Goals as goal

pub returns-clause-inode : goal.returns-clause-inode
returns-clause-inode c =
    inode_num-put c.args.self.now.block.now c.put_run.new.bytes c.args.value c.put_run.ensures c.args.self.now.long (search rules) (search rules) (search rules)

pub returns-clause-stream : goal.returns-clause-stream
returns-clause-stream c =
    let size : length (run_bytes c.args.value) ≡ 8 = length-run_bytes c.args.value in
    let fits : 4 + length (run_bytes c.args.value) ≤ length c.args.self.now.block.now = omega (arith, c.args.self.now.long) in
    stream-kept 4 (run_bytes c.args.value) c.args.self.now.block.now c.put_run.new.bytes c.put_run.ensures fits (inr (omega arith))
