use Rattle.std.proofs.Common.{◌≡◌}
use Rattle.bfs_file.proofs.tests.are_at_their_blocks.Given as goal

abbrev pub invariant-loop-at : goal.invariant-loop-at
invariant-loop-at l = (l.file ≡ l.fn.file) × (l.under.block_size ≡ l.fn.under.block_size)
