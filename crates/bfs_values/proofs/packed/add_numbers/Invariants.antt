use Rattle.std.proofs.Common.{◌≡◌, ◌+◌, ◌*◌, ◌-◌, ◌++◌}
use Rattle.bfs_values.specs.Values.{numbers_from}
use Rattle.bfs_values.proofs.packed.add_numbers.Given as goal

abbrev pub invariant-loop-i : goal.invariant-loop-i
invariant-loop-i l = l.numbers.items ++ numbers_from l.page (l.at + 8 * l.i) (l.count - l.i) ≡ l.fn.numbers.items ++ numbers_from l.page l.at l.count
