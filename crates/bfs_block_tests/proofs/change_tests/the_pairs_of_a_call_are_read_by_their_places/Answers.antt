use Rattle.std.proofs.Common.{arith}
use Rattle.bfs_block_tests.proofs.change_tests.the_pairs_of_a_call_are_read_by_their_places.Goals as goal

pub new-memory-requires : goal.new-memory-requires
new-memory-requires g c = (3, omega (arith, c.in_ok-bytes.ensures.len))
