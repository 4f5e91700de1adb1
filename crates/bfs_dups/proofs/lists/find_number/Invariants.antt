use Rattle.std.proofs.Common.{◌≡◌, ◌≤◌, ◌+◌, ◌*◌, ◌-◌, ◌++◌}
use Rattle.bfs_base.specs.Lists.{times}
use Rattle.bfs_values.specs.Values.{numbers_from, placed}
use Rattle.bfs_dups.proofs.lists.find_number.Given as goal

abbrev pub invariant-loop-i : goal.invariant-loop-i
invariant-loop-i l = record {
  within : l.i ≤ l.count;
  place : placed l.number (numbers_from l.page l.at l.count) ≡ numbers_from l.page l.at l.i ++ placed l.number (numbers_from l.page (l.at + 8 * l.i) (l.count - l.i));
  absent : times l.number (numbers_from l.page l.at l.count) ≡ times l.number (numbers_from l.page (l.at + 8 * l.i) (l.count - l.i));
}

abbrev pub decreases-loop-i : goal.decreases-loop-i
decreases-loop-i l = l.count - l.i
