use Rattle.std.proofs.Common.{◌≡◌, ◌<◌, ◌≤◌, ◌-◌, ℕ, length}
use Rattle.std.specs.declared.cmp.Ordering.TheVariants.{Less}
use Rattle.bfs_base.specs.Keys.{key_cmp}
use Rattle.bfs_node.specs.Page.{rows_of}
use Rattle.bfs_node.specs.Search.{Ascends, key_at}
use Rattle.bfs_node.proofs.lookup.search.Given as goal

abbrev pub invariant-loop-low : goal.invariant-loop-low
invariant-loop-low l = record {
  order : l.low ≤ l.high;
  within : l.high ≤ length (rows_of l.page);
  less : Ascends l.kind (rows_of l.page) → (j : ℕ) → j < l.low → key_cmp l.kind (key_at (rows_of l.page) j) l.sought ≡ Less;
  greater : Ascends l.kind (rows_of l.page) → (j : ℕ) → l.high ≤ j → j < length (rows_of l.page) → key_cmp l.kind l.sought (key_at (rows_of l.page) j) ≡ Less;
}

abbrev pub decreases-loop-low : goal.decreases-loop-low
decreases-loop-low l = l.high - l.low
