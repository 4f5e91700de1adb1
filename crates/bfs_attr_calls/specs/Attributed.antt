-- A node with other attributes.
use Rattle.std.specs.Prelude.{◌≡◌, ◌≤◌, ℕ, List, length, drop, Some, true}
use Rattle.std.specs.List.{AllByRecursion}
use Rattle.std.specs.FinMap.{insert}
use Rattle.bfs_smalldata.specs.Items.{Item, items_of}
use Rattle.bfs_smalldata.specs.Edits.{named}
use Rattle.bfs_tree.specs.Trees.{Node, Tree, Attributes}
use Rattle.bfs_sound.specs.Attributes.{own_name, is_name_item}

-- the tree, where a node has these attributes
abbrev pub with_attributes : Tree → ℕ → Node → Attributes → Tree
with_attributes tree id n attributes = record tree { nodes = insert tree.nodes id (record n { attributes = attributes }) }

-- The second block is as long as the first, and its small data is a list of items, each with a name that isn't too long; and where the
-- first has an item that is a node's own name, this one is the first of that name here too.
pub record KeepsName (old new : List ℕ) : Type 0 where
  pub long : length new ≡ length old
  pub items : List Item
  pub area : items_of (drop 232 new) ≡ Some items
  pub short : AllByRecursion (λ item. length item.name ≤ 255) items
  pub own : (before : List Item) (item : Item) → items_of (drop 232 old) ≡ Some before → named own_name before ≡ Some item → is_name_item item ≡ true → named own_name items ≡ Some item
