-- A node that gets another name of its own.
use Rattle.std.specs.Prelude.{◌≡◌, ◌≢◌, ℕ, List, [], drop, Bool, Option}
use Rattle.std.specs.FinMap.{insert}
use Rattle.std.specs.Option.{option_map}
use Rattle.bfs_base.specs.Lists.{Has}
use Rattle.bfs_super.specs.declared.geometry.Geometry.{Geometry}
use Rattle.bfs_bitmap.specs.Runs.{Room}
use Rattle.bfs_smalldata.specs.Items.{Item, items_of}
use Rattle.bfs_smalldata.specs.Edits.{with_item}
use Rattle.bfs_stream.specs.Told.{contents}
use Rattle.bfs_tree.specs.Trees.{Node, Tree, IsNode}
use Rattle.bfs_shift.specs.Lists.{Lists}
use Rattle.bfs_shift.specs.Work.{IsAtWork}
use Rattle.bfs_attr.specs.Bearers.{Bearer, volume_at, attributes_at}
use Rattle.bfs_attr.specs.Changed.{attribute_blocks, AttributesNow, name_item}
use Rattle.bfs_set_name.specs.Renamed.{without_each}

-- the tree, where a node has this name
abbrev pub with_name : Tree → ℕ → Node → List ℕ → Tree
with_name tree id n name = record tree { nodes = insert tree.nodes id (record n { name = name }) }

-- a node that isn't the root stands at this block of a volume at work
pub record HoldsProper (g : Geometry) (v : Room) (m : ℕ → Option (List ℕ)) (id : ℕ) : Type 0 where
  pub tree : Tree
  pub lists : Lists
  pub work : IsAtWork g v m tree lists []
  pub n : Node
  pub there : IsNode tree id n
  pub apart : id ≢ g.root

-- Named: the attributes are those before, and none of their blocks has gone; the small data has the items before, but for some that have
-- moved out, with the node's own name in the place of the old one.
pub record IsNamed (b : Bearer) (v now : Room) (m : ℕ → Option (List ℕ)) (name : List ℕ) (told : Option (ℕ → Option (List ℕ))) (old new : ℕ → Bool) : Type 0 where
  pub now_are : AttributesNow b v now m (attributes_at (volume_at b.geometry m) b.id) told old new
  pub moved : List Item
  pub items : items_of (drop 232 (contents now_are.map b.id)) ≡ option_map (λ items. with_item (name_item name) (without_each moved items)) (items_of (drop 232 (contents m b.id)))
  pub all : (k : ℕ) → Has (attribute_blocks b.geometry m b.id) k → Has (attribute_blocks b.geometry now_are.map b.id) k
