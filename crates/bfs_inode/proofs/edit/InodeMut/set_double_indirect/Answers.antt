use Rattle.std.proofs.Common.{◌≡◌, ◌≤◌, ◌+◌, length, arith, rules}
use Rattle.bfs_bytes.specs.Fields.{run_bytes}
use Rattle.bfs_bytes.proofs.Lengths.{length-run_bytes}
use Rattle.bfs_inode.proofs.Whole.{double_indirect-put, inode-in_stream, outside-kept}
use Rattle.bfs_inode.proofs.edit.InodeMut.set_double_indirect.Goals as goal

pub returns-clause-inode : goal.returns-clause-inode
returns-clause-inode c =
    let size : length (run_bytes c.args.value) ≡ 8 = length-run_bytes c.args.value in
    let fits : 192 + length (run_bytes c.args.value) ≤ length c.args.self.now.block.now = omega (arith, c.args.self.now.long) in
    inode-in_stream 192 (run_bytes c.args.value) c.args.self.now.block.now c.put_run.new.bytes c.put_run.ensures fits (omega arith) (omega arith)

pub returns-clause-outside : goal.returns-clause-outside
returns-clause-outside c =
    let size : length (run_bytes c.args.value) ≡ 8 = length-run_bytes c.args.value in
    let fits : 192 + length (run_bytes c.args.value) ≤ length c.args.self.now.block.now = omega (arith, c.args.self.now.long) in
    outside-kept 192 (run_bytes c.args.value) c.args.self.now.block.now c.put_run.new.bytes c.put_run.ensures fits (omega arith) (omega arith)

pub returns-clause-stream : goal.returns-clause-stream
returns-clause-stream c =
    double_indirect-put c.args.self.now.block.now c.put_run.new.bytes c.args.value c.put_run.ensures c.args.self.now.long (search rules) (search rules) (search rules)
