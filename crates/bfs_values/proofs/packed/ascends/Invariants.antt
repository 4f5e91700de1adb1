use Rattle.std.proofs.Common.{◌≡◌, ◌≤◌, ◌+◌, ◌*◌, ◌-◌}
use Rattle.bfs_values.specs.Values.{numbers_from, is_ascending}
use Rattle.bfs_values.proofs.packed.ascends.Given as goal

abbrev pub invariant-loop-i : goal.invariant-loop-i
invariant-loop-i l = record {
  within : l.i ≤ l.count;
  same : is_ascending (numbers_from l.page (l.at + 8 * l.i) (l.count - l.i)) ≡ is_ascending (numbers_from l.page l.at l.count);
}

abbrev pub decreases-loop-i : goal.decreases-loop-i
decreases-loop-i l = l.count - l.i
