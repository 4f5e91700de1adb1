use Rattle.std.proofs.Common.{◌≡◌, ◌<◌, ◌≤◌, ◌-◌, ℕ, length, true}
use Rattle.bfs_node.specs.Page.{rows_of}
use Rattle.bfs_node.specs.Search.{key_at}
use Rattle.bfs_pages.specs.Order.{comes_before, at_most}
use Rattle.bfs_pages.specs.Ways.{KeysRise}
use Rattle.bfs_pages.proofs.look.place_for.Given as goal

abbrev pub invariant-loop-low : goal.invariant-loop-low
invariant-loop-low l = record {
  order : l.low ≤ l.high;
  within : l.high ≤ length (rows_of l.page);
  less : KeysRise l.kind (rows_of l.page) → (j : ℕ) → j < l.low → comes_before l.kind (key_at (rows_of l.page) j) l.key ≡ true;
  least : KeysRise l.kind (rows_of l.page) → (j : ℕ) → l.high ≤ j → j < length (rows_of l.page) → at_most l.kind l.key (key_at (rows_of l.page) j) ≡ true;
}

abbrev pub decreases-loop-low : goal.decreases-loop-low
decreases-loop-low l = l.high - l.low
