-- A file is listed under its new size and stamp.
use Rattle.std.specs.Prelude.{◌≡◌, ℕ, ℤ, List, [], Option, Some, Bool, true}
use Rattle.bfs_base.specs.declared.kind.KeyKind.{KeyKind}
use Rattle.bfs_base.specs.declared.kind.KeyKind.TheVariants.{Text}
use Rattle.bfs_super.specs.declared.geometry.Geometry.{Geometry}
use Rattle.bfs_bitmap.specs.Runs.{Room}
use Rattle.bfs_pages.specs.Maps.{assoc}
use Rattle.bfs_tree.specs.Trees.{Node, Tree, IsNode, IsPlain, is_file}
use Rattle.bfs_maps.specs.NumberTrees.{IsNumberAt}
use Rattle.bfs_shift.specs.Lists.{Lists, Agrees, with_pairs}
use Rattle.bfs_shift.specs.TreeLaws.{Rekeys}
use Rattle.bfs_shift.specs.Work.{IsAtWork, IsStepped}
use Rattle.bfs_moves.specs.Written.{ListsMore}
use Rattle.bfs_leave.specs.Unlisted.{ListsLess}
use Rattle.bfs_calls.specs.Made.{AreBuiltIn}
use Rattle.bfs_calls.specs.declared.indices.BuiltIn.{BuiltIn}

-- the file's record with this size and the stamp of its change
abbrev pub resized_node : Node → ℕ → ℤ → Node
resized_node n size stamp = record n { size = size; modified = stamp; changed = stamp }

-- what is read of a file before its size changes: the built-in indices, and the keys under which they list it
pub record AreBefore (lists : Lists) (n : Node) (b : BuiltIn) (size : ℕ) (modified : ℤ) : Type 0 where
  pub indices : AreBuiltIn lists b
  pub size_is : n.size ≡ size
  pub modified_is : n.modified ≡ modified

-- From the pairs of an index of this kind, where it is there, that of a node under its old key goes, which leaves the first of these lists;
-- and one under its new key comes, which makes it the second.
pub record IsRelisting (lists : Lists) (index : List ℕ) (inode : Option ℕ) (kind : KeyKind) (old new : List ℕ) (id : ℕ) (left pairs : List (List ℕ × ℕ)) : Type 0 where
  pub row : IsNumberAt Text lists.names index inode
  pub kind_is : (value : ℤ) → assoc Text lists.names index ≡ Some value → lists.kinds index ≡ kind
  pub less : ListsLess lists kind index old id left
  pub more : ListsMore (with_pairs lists index left) kind index new id pairs

-- some index of a volume at work is to list a node so
pub record HasRelisting (g : Geometry) (v : Room) (m : ℕ → Option (List ℕ)) (inode : Option ℕ) (kind : KeyKind) (old new : List ℕ) (id : ℕ) : Type 0 where
  pub tree : Tree
  pub lists : Lists
  pub index : List ℕ
  pub left : List (List ℕ × ℕ)
  pub pairs : List (List ℕ × ℕ)
  pub work : IsAtWork g v m tree lists []
  pub relisting : IsRelisting lists index inode kind old new id left pairs

-- A file has another size, and the indices list it under the keys that it had: the volume at work stands for a tree since, and the lists are
-- those of the tree before.
pub record IsResizedOnly (g : Geometry) (v : Room) (m : ℕ → Option (List ℕ)) (tree since : Tree) (lists : Lists) (id : ℕ) (n : Node) (b : BuiltIn) : Type 0 where
  pub work : IsAtWork g v m since lists []
  pub agrees : Agrees tree lists
  pub plain : IsPlain tree
  pub there : IsNode tree id n
  pub file : is_file n.kind ≡ true
  pub built_in : AreBuiltIn lists b

-- some file has, whose size and stamp were these
pub record HasResizedOnly (g : Geometry) (v : Room) (m : ℕ → Option (List ℕ)) (id size : ℕ) (modified : ℤ) (b : BuiltIn) : Type 0 where
  pub tree : Tree
  pub since : Tree
  pub lists : Lists
  pub n : Node
  pub resized : IsResizedOnly g v m tree since lists id n b
  pub size_is : n.size ≡ size
  pub modified_is : n.modified ≡ modified

-- The indices list the file under its new keys.
pub record HasListedAnew (g : Geometry) (v now : Room) (m : ℕ → Option (List ℕ)) (tree since : Tree) (lists : Lists) (id : ℕ) (n later : Node) (told : Option (ℕ → Option (List ℕ))) (old new : ℕ → Bool) : Type 0 where
  pub last : Lists
  pub step : IsStepped g v now m since since last [] told old new
  pub rekeys : Rekeys tree lists last id n later
