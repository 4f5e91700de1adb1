use Rattle.std.proofs.Common.{◌≡◌}
use Rattle.bfs_call_tests.proofs.place_tests.are_found.Given as goal

abbrev pub invariant-loop-at : goal.invariant-loop-at
invariant-loop-at l = l.under.block_size ≡ l.fn.under.block_size
