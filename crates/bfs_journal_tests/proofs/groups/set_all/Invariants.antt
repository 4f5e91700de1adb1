use Rattle.std.proofs.Common.{◌≡◌}
use Rattle.bfs_journal_tests.proofs.groups.set_all.Given as goal

abbrev pub invariant-loop-block : goal.invariant-loop-block
invariant-loop-block g l = (g.E.Blocks.size l.edits ≡ g.E.Blocks.size l.initial.edits) × (g.E.Blocks.frame l.edits ≡ g.E.Blocks.frame l.initial.edits)
