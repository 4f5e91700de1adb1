use Rattle.std.proofs.Common.{◌≡◌}
use Rattle.bfs_block_tests.proofs.change_tests.write_each.Given as goal

abbrev pub invariant-loop-k : goal.invariant-loop-k
invariant-loop-k g l = (g.E.Blocks.size l.edits ≡ g.E.Blocks.size l.fn.edits) × (g.E.Blocks.frame l.edits ≡ g.E.Blocks.frame l.fn.edits)
