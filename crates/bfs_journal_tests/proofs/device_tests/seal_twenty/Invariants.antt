use Rattle.std.proofs.Common.{◌≡◌, ◌≤◌}
use Rattle.bfs_device.specs.Books.{sealed_of}
use Rattle.bfs_device.specs.Seals.{last_used}
use Rattle.bfs_journal_tests.proofs.device_tests.seal_twenty.Given as goal

abbrev pub invariant-loop-i : goal.invariant-loop-i
invariant-loop-i g l = record {
  few : l.count ≤ l.i;
  sealed : sealed_of l.device.books ≡ l.count;
  used : last_used l.device.books ≡ l.used;
  sup : l.device.books.sup ≡ l.initial.device.books.sup;
}
