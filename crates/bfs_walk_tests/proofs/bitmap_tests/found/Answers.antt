use Rattle.std.proofs.Common.{arith}
use Rattle.bfs_walk_tests.proofs.bitmap_tests.found.Goals as goal

pub new-under-requires : goal.new-under-requires
new-under-requires c = (4, let e = c.in_ok-bytes.ensures in omega (arith, e))
