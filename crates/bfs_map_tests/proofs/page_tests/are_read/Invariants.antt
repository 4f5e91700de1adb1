use Rattle.std.proofs.Common.{◌≡◌}
use Rattle.bfs_map_tests.proofs.page_tests.are_read.Given as goal

-- the size of a block stays, and of the bitmap all but its lower bound
abbrev pub invariant-loop-i : goal.invariant-loop-i
invariant-loop-i l = (l.edits.under.now.blocks.block_size ≡ l.fn.edits.under.now.blocks.block_size) × (l.bitmap ≡ record l.fn.bitmap { tally = l.bitmap.tally })
