-- The pairs of a new index, as they are put into it one after the other.
use Rattle.std.specs.Prelude.{◌≡◌, ◌<◌, ℕ, pos, List, [], ◌∷◌, ◌++◌, Option, Some}
use Rattle.std.specs.List.{AllByRecursion}
use Rattle.std.specs.List.Sorted.{IsStrictlySortedBy}
use Rattle.bfs_base.specs.Keys.{IsKey}
use Rattle.bfs_base.specs.declared.kind.KeyKind.{KeyKind}
use Rattle.bfs_base.specs.declared.kind.KeyKind.TheVariants.{Text}
use Rattle.bfs_super.specs.declared.geometry.Geometry.{Geometry}
use Rattle.bfs_bitmap.specs.Runs.{Room}
use Rattle.bfs_pages.specs.Maps.{assoc}
use Rattle.bfs_tree.specs.Listings.{pair_cmp}
use Rattle.bfs_tree.specs.Trees.{Tree}
use Rattle.bfs_shift.specs.Lists.{Lists}
use Rattle.bfs_shift.specs.Work.{IsAtWork}

-- a pair may stand in an index: its key is one of the kind, and its number a block of the volume
abbrev pub MayStand : KeyKind → ℕ → List ℕ × ℕ → Type 0
MayStand kind blocks pair = IsKey kind pair.0 × (pair.1 < blocks)

-- it is above those before it, and may stand
pub record IsNextPair (kind : KeyKind) (blocks : ℕ) (front : List (List ℕ × ℕ)) (pair : List ℕ × ℕ) : Type 0 where
  pub sorted : IsStrictlySortedBy (pair_cmp kind) (front ++ (pair ∷ []))
  pub may : MayStand kind blocks pair

-- An index of the volume at work lists nothing, and these pairs are to be listed in it, in order.
pub record IsToFill (g : Geometry) (v : Room) (m : ℕ → Option (List ℕ)) (tree : Tree) (lists : Lists) (name : List ℕ) (inode : ℕ) (kind : KeyKind) (pairs : List (List ℕ × ℕ)) : Type 0 where
  pub work : IsAtWork g v m tree lists []
  pub row : assoc Text lists.names name ≡ Some (pos inode)
  pub kind_is : lists.kinds name ≡ kind
  pub none : lists.pairs name ≡ []
  pub sorted : IsStrictlySortedBy (pair_cmp kind) pairs
  pub may : AllByRecursion (MayStand kind g.blocks) pairs

-- some index with some tree and lists is
pub record HasToFill (g : Geometry) (v : Room) (m : ℕ → Option (List ℕ)) (inode : ℕ) (kind : KeyKind) (pairs : List (List ℕ × ℕ)) : Type 0 where
  pub tree : Tree
  pub lists : Lists
  pub name : List ℕ
  pub ready : IsToFill g v m tree lists name inode kind pairs
