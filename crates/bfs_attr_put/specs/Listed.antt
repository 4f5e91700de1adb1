-- A node that has an attribute anew, and the index that is to list it under the attribute's key.
use Rattle.std.specs.Prelude.{◌≡◌, ℕ, ℤ, pos, List, [], Option, Some, None, Bool, false}
use Rattle.bfs_base.specs.declared.kind.KeyKind.TheVariants.{Text}
use Rattle.bfs_super.specs.declared.geometry.Geometry.{Geometry}
use Rattle.bfs_bitmap.specs.Runs.{Room}
use Rattle.bfs_pages.specs.Maps.{assoc}
use Rattle.bfs_tree.specs.Listings.{key_of_attribute}
use Rattle.bfs_tree.specs.Refusals.{is_built_in}
use Rattle.bfs_tree.specs.Trees.{Attribute, Node, Tree, IsNode}
use Rattle.bfs_shift.specs.Lists.{Lists, Agrees}
use Rattle.bfs_shift.specs.Work.{IsAtWork, IsStepped}
use Rattle.bfs_attr_calls.specs.Removed.{UnlistsUnder}
use Rattle.bfs_attr_put.specs.Written.{ListsUnder}
use Rattle.bfs_attr_put.specs.declared.due.Due.{Due}

-- The index of the attribute's name is to list a node under this key of the attribute; or there is none that is to: the name is that of a
-- built-in index, or no index has it, or the attribute has no key there.
abbrev pub IsDue : Lists → List ℕ → Attribute → Option Due → Type 0
IsDue lists name attribute None = is_built_in name ≡ false → (value : ℤ) → assoc Text lists.names name ≡ Some value → key_of_attribute (lists.kinds name) attribute ≡ None
IsDue lists name attribute (Some due) = (is_built_in name ≡ false) × (assoc Text lists.names name ≡ Some (pos due.inode)) × (due.kind ≡ lists.kinds name) × (key_of_attribute (lists.kinds name) attribute ≡ Some due.key)

-- A node has an attribute anew, and the index of its name lists the node no more: the volume at work stands for a tree since, and the lists
-- are those of the tree before but for that.
pub record IsPutOnly (g : Geometry) (v : Room) (m : ℕ → Option (List ℕ)) (tree since : Tree) (lists begun : Lists) (id : ℕ) (n : Node) (name : List ℕ) : Type 0 where
  pub work : IsAtWork g v m since begun []
  pub agrees : Agrees tree lists
  pub there : IsNode tree id n
  pub unlists : UnlistsUnder tree lists begun id n name

-- some node has, and is to be listed so
pub record HasPutOnly (g : Geometry) (v : Room) (m : ℕ → Option (List ℕ)) (id : ℕ) (due : Option Due) : Type 0 where
  pub tree : Tree
  pub since : Tree
  pub lists : Lists
  pub begun : Lists
  pub n : Node
  pub name : List ℕ
  pub attribute : Attribute
  pub put : IsPutOnly g v m tree since lists begun id n name
  pub is_due : IsDue lists name attribute due

-- The index lists the node under the attribute's key, if it is to.
pub record HasListedUnder (g : Geometry) (v now : Room) (m : ℕ → Option (List ℕ)) (since : Tree) (lists : Lists) (id : ℕ) (name : List ℕ) (attribute : Attribute) (told : Option (ℕ → Option (List ℕ))) (old new : ℕ → Bool) : Type 0 where
  pub last : Lists
  pub step : IsStepped g v now m since since last [] told old new
  pub under : ListsUnder lists last id name attribute
