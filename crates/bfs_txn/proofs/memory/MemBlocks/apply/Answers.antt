use Rattle.std.proofs.Common.{◌∙◌, ◌+◌, ◌*◌, ◌≤◌, ◌<◌, ap, sym, subst, ℕ, List, length, arith}
use Rattle.bfs_txn.proofs.InMemory.{applied}
use Rattle.bfs_txn.proofs.memory.MemBlocks.apply.Goals as goal

pub loop-i-preserved : goal.loop-i-preserved
loop-i-preserved c =
    let inside : c.loop-i.i < length c.args.group.now.blocks = omega arith in
    let step =
    applied c.args.self.now.block_size c.args.group.now.blocks c.loop-i.i c.args.self.now.bytes c.loop-i.self-inside.bytes.items c.put_block.new.bytes.items c.block-block.result c.bytes-bytes.result.now inside c.block-block.ensures
    c.bytes-bytes.ensures (ap (λ (l : List ℕ). length l) c.bytes-bytes.ensures ∙ c.requires.sized c.loop-i.i inside)
    (subst (λ (b : ℕ). c.args.self.now.block_size * b + c.args.self.now.block_size ≤ length c.args.self.now.bytes) (sym c.block-block.ensures) (c.requires.inside c.loop-i.i inside)) c.loop-i.invariant.1 c.loop-i.invariant.2
    c.put_block.ensures in
    (c.loop-i.invariant.0, step.0, step.1)
