use Rattle.std.proofs.Common.{arith}
use Rattle.bfs_block_tests.proofs.change_tests.an_overlay_reads_its_changes_and_keeps_them_or_not.Goals as goal

pub new-memory-requires : goal.new-memory-requires
new-memory-requires g c = (3, omega (arith, c.in_ok-bytes.ensures.len))
