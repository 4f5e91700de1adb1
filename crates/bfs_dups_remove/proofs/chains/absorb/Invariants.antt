use Rattle.std.proofs.Common.{◌≡◌, ◌≤◌, ◌+◌, ◌*◌, ◌-◌, ◌++◌, length}
use Rattle.bfs_base.specs.Lists.{IsOnce}
use Rattle.bfs_pages.specs.Trees.{neighbours_in}
use Rattle.bfs_values.specs.Values.{IsDuplicates, page_count, page_numbers, numbers_from, in_order}
use Rattle.bfs_dups_remove.proofs.chains.absorb.Given as goal

abbrev pub invariant-loop-left : goal.invariant-loop-left
invariant-loop-left l = record {
  length : length l.page ≡ 1024;
  good : IsDuplicates l.page;
  within : l.left ≤ page_count l.from;
  room : page_count l.page + l.left ≤ 125;
  links : neighbours_in l.page ≡ neighbours_in l.fn.page;
  numbers : IsOnce (page_numbers l.from ++ page_numbers l.fn.page) → page_numbers l.page ≡ in_order (numbers_from l.from (24 + 8 * l.left) (page_count l.from - l.left) ++ page_numbers l.fn.page);
}

abbrev pub decreases-loop-left : goal.decreases-loop-left
decreases-loop-left l = l.left
