use Rattle.std.proofs.Common.{◌≡◌, ◌-◌, arith, rules}
use Rattle.bfs_txn.specs.Changed.{number_at}
use Rattle.bfs_device.proofs.Ordered.{found_from_end}
use Rattle.bfs_device.proofs.look_up.find_from_end.Goals as goal

pub returns-then-block : goal.returns-then-block
returns-then-block c =
    let here : c.args.block ≡ number_at c.args.blocks.now (c.loop-i.i - 1) = search (rules, c.if-block.true, c.block.ensures) in
    found_from_end c.args.blocks.now c.loop-i.i c.args.block c.bytes.result.now (omega (arith, c.loop-i-test.true)) c.loop-i.invariant.0 c.loop-i.invariant.1 here c.bytes.ensures
