use Rattle.std.proofs.Common.{◌+◌, arith, length-set}
use Rattle.bfs_block_tests.proofs.bitmap_tests.memory.Goals as goal

pub new-requires : goal.new-requires
new-requires c = let e = c.loop-i.invariant in (c.args.blocks, omega (arith, length-set c.loop-i.bytes.items (1024 + c.args.full) c.args.last))
