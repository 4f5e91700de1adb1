-- A tree in a stream but for the order of its keys and what its values reach.
use Rattle.std.specs.Prelude.{◌≡◌, ℕ, List}
use Rattle.std.specs.List.{AllByRecursion, flat_map}
use Rattle.bfs_base.specs.declared.kind.KeyKind.{KeyKind}
use Rattle.bfs_pages.specs.Trees.{state_of, Linked}
use Rattle.bfs_finding.specs.Walks.{leaves_in, entries_met}
use Rattle.bfs_walk.specs.Walked.{IsGoodBelow}
use Rattle.bfs_tree_check.specs.Freed.{IsFreed}
use Rattle.bfs_tree_check.specs.Levels.{met_in}
use Rattle.bfs_tree_check.specs.Ordered.{IsKnown}
use Rattle.bfs_tree_check.specs.declared.item.Item.{Item}

-- From the root down each page is of its kind; these are the leaves, and the lowest level has them with the keys between them. The leaves
-- are linked, and the free list ends. `seen` says how often a page is the header, interior, a leaf or free.
pub record IsShaped (kind : KeyKind) (bytes : List ℕ) (level : List Item) (leaves : List ℕ) (seen : ℕ → ℕ) : Type 0 where
  pub met : entries_met kind bytes ≡ flat_map (met_in (state_of kind bytes).bodies 0) level
  pub known : AllByRecursion (IsKnown kind bytes) level
  pub leaves_are : leaves_in kind bytes ≡ leaves
  pub good : IsGoodBelow (state_of kind bytes).bodies (state_of kind bytes).levels (state_of kind bytes).root
  pub linked : Linked (state_of kind bytes).links 0 (leaves_in kind bytes) 0
  pub freed : IsFreed kind bytes seen
