use Rattle.bfs_device.specs.Layouts.{IsSameVolume}
use Rattle.bfs_journal_tests.proofs.groups.step_on.Given as goal

abbrev pub invariant-loop : goal.invariant-loop
invariant-loop g l = IsSameVolume l.initial.device.books.sup l.device.books.sup
