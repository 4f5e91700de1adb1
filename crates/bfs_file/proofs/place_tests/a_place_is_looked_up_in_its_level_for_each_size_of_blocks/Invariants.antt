use Rattle.std.proofs.Common.{◌≡◌}
use Rattle.bfs_file.proofs.place_tests.a_place_is_looked_up_in_its_level_for_each_size_of_blocks.Given as goal

abbrev pub invariant-loop-place : goal.invariant-loop-place
invariant-loop-place g l = l.under.block_size ≡ l.stream.sizes.block_size
