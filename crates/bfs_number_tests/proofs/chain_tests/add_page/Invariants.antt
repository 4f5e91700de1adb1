use Rattle.std.proofs.Common.{◌≡◌, length}
use Rattle.bfs_number_tests.proofs.chain_tests.add_page.Given as goal

abbrev pub invariant-loop-i : goal.invariant-loop-i
invariant-loop-i l = length l.page ≡ 1024
