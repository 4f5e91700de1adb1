use Rattle.std.proofs.Common.{◌≡◌, ◌*◌, length}
use Rattle.bfs_block_tests.proofs.bitmap_tests.memory.Given as goal

abbrev pub invariant-loop-i : goal.invariant-loop-i
invariant-loop-i l = length l.bytes.items ≡ 1024 * l.blocks
