use Rattle.std.proofs.Common.{arith}
use Rattle.bfs_walk_tests.proofs.stream_tests.fault_of.Goals as goal

pub new-under-requires : goal.new-under-requires
new-under-requires c = (14, let e = c.requires.length in omega (arith, e))
