-- The leaves of a tree from left to right, and those that a range reads.
use Rattle.std.specs.Prelude.{ℕ, ◌+◌, List, [], ◌∷◌, ◌++◌, Option, Some, None, ◌==◌, if◌then◌else◌}
use Rattle.bfs_base.specs.declared.kind.KeyKind.{KeyKind}
use Rattle.bfs_node.specs.Page.{Row}
use Rattle.bfs_pages.specs.Order.{Key}
use Rattle.bfs_pages.specs.Shapes.{Shape, Shapes, leaf_shape, node_shape, last_shape, more_shapes, place, leaves_of}
use Rattle.bfs_pages.specs.Trees.{head_or}
use Rattle.bfs_pages.specs.Ways.{under}
use Rattle.bfs_range.specs.Ranges.{has_above}

-- a leaf: its place and its rows
abbrev pub LeafAt : Type 0
LeafAt = ℕ × List Row

-- the leaves of a tree, from left to right
abbrev mutual
  pub leaf_list : Shape → List LeafAt
  leaf_list (leaf_shape at rows) = (at, rows) ∷ []
  leaf_list (node_shape at below) = leaf_lists below

  pub leaf_lists : Shapes → List LeafAt
  leaf_lists (last_shape t) = leaf_list t
  leaf_lists (more_shapes t key ts) = leaf_list t ++ leaf_lists ts

-- where the first leaf of a range is: on the way of its lower end, or the leftmost
abbrev pub first_leaf : KeyKind → ℕ → Shape → Option Key → ℕ
first_leaf kind levels t None = head_or 0 (leaves_of t)
first_leaf kind levels t (Some low) = place (under kind levels t low)

-- the leaves to the right of the one at a place
abbrev pub right_of : ℕ → List LeafAt → List LeafAt
right_of x [] = []
right_of x (l ∷ ls) = if l.0 == x then ls else right_of x ls

-- how many leaves there are up to and with the first that has a key above the upper end
abbrev pub leaves_upto : KeyKind → Option Key → List LeafAt → ℕ
leaves_upto kind high [] = 0
leaves_upto kind high (l ∷ ls) = 1 + (if has_above kind high l.1 then 0 else leaves_upto kind high ls)
