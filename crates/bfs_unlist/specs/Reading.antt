-- What is read of an index before a node is taken out of it.
use Rattle.std.specs.Prelude.{◌≡◌, ◌≢◌, ◌⊎◌, ℕ, ℤ, List, ◌∷◌, [], Option, Some, None, Bool}
use Rattle.std.specs.List.{AllByRecursion}
use Rattle.std.specs.FinMap.{get}
use Rattle.bfs_base.specs.declared.kind.KeyKind.TheVariants.{Text}
use Rattle.bfs_super.specs.declared.geometry.Geometry.{Geometry}
use Rattle.bfs_bitmap.specs.Runs.{Room}
use Rattle.bfs_pages.specs.Maps.{assoc}
use Rattle.bfs_tree.specs.Answers.{info_of}
use Rattle.bfs_tree.specs.Listings.{key_at, listed}
use Rattle.bfs_tree.specs.Trees.{Node, Tree, IsNode, HasPlainIndices}
use Rattle.bfs_tree.specs.declared.reply.Info.{Info}
use Rattle.bfs_attr.specs.declared.directory.InodeRow.{InodeRow}
use Rattle.bfs_query.specs.Indices.{IsIndexRowOf}
use Rattle.bfs_shift.specs.Lists.{Lists}
use Rattle.bfs_shift.specs.Work.{IsAtWork, IsStepped}
use Rattle.bfs_leave.specs.Leaving.{tree_without}
use Rattle.bfs_unlist.specs.declared.reading.Listing.{Listing}

-- a row of the index directory, the index to which it leads, and the key under which that lists the node; or it doesn't list it
abbrev pub IsListingOf : Tree → Lists → ℕ → InodeRow → Option Listing → Type 0
IsListingOf tree lists id row None = key_at tree row.name (lists.kinds row.name) id ≡ None
IsListingOf tree lists id row (Some l) =
    (l.at.inode ≡ row.id) × (l.at.kind ≡ lists.kinds row.name) × (key_at tree row.name (lists.kinds row.name) id ≡ Some l.key)

-- one of these rows has the name
abbrev pub IsNamed : List InodeRow → List ℕ → Type 0
IsNamed [] name = ⊥
IsNamed (row ∷ rows) name = (name ≡ row.name) ⊎ IsNamed rows name

-- The lists, where some indices list the node no more: each that still may has one of these rows. All else is as it was.
pub record IsPartly (tree : Tree) (lists now : Lists) (id : ℕ) (rest : List InodeRow) : Type 0 where
  pub rows : (d : ℕ) → now.rows d ≡ lists.rows d
  pub names : now.names ≡ lists.names
  pub kinds : (index : List ℕ) → now.kinds index ≡ lists.kinds index
  pub pairs : (index : List ℕ) (value : ℤ) → assoc Text lists.names index ≡ Some value
      → (now.pairs index ≡ listed (tree_without tree id) index (lists.kinds index)) ⊎ ((now.pairs index ≡ listed tree index (lists.kinds index)) × IsNamed rest index)

-- What is known of the node and of the indices, whatever was taken out: the node is there, isn't the root, and has this record; the
-- kinds of the indices are the tree's; and each row leads to an index.
pub record IsRead (tree : Tree) (lists : Lists) (id : ℕ) (info : Info) (rows : List InodeRow) : Type 0 where
  pub node : Node
  pub there : IsNode tree id node
  pub apart : id ≢ tree.root
  pub info_is : info ≡ info_of node
  pub plain : HasPlainIndices tree.indices
  pub kinds : (index : List ℕ) (value : ℤ) → assoc Text lists.names index ≡ Some value → get tree.indices index ≡ Some (lists.kinds index)
  pub lead : AllByRecursion (IsIndexRowOf lists) rows

-- A volume at work, whose indices were those of these lists, and of which those with these rows may list the node still.
pub record IsUnlisting (g : Geometry) (v : Room) (m : ℕ → Option (List ℕ)) (tree : Tree) (lists now : Lists) (id : ℕ) (info : Info) (rest : List InodeRow) : Type 0 where
  pub work : IsAtWork g v m tree now []
  pub read : IsRead tree lists id info rest
  pub partly : IsPartly tree lists now id rest

-- it is such a volume, of some tree and lists
pub record HasUnlisting (g : Geometry) (v : Room) (m : ℕ → Option (List ℕ)) (id : ℕ) (info : Info) (rest : List InodeRow) : Type 0 where
  pub tree : Tree
  pub lists : Lists
  pub now : Lists
  pub unlisting : IsUnlisting g v m tree lists now id info rest

-- the same, where this row comes first
abbrev pub IsUnlistingAt : Geometry → Room → (ℕ → Option (List ℕ)) → ℕ → Info → InodeRow → Type 0
IsUnlistingAt g v m id info row = (rest : List InodeRow) × HasUnlisting g v m id info (row ∷ rest)

-- a step from such a volume to one of which the indices with these rows alone may list the node still
pub record HasPartly (g : Geometry) (v now : Room) (m : ℕ → Option (List ℕ)) (tree : Tree) (lists : Lists) (id : ℕ) (rest : List InodeRow) (told : Option (ℕ → Option (List ℕ))) (old new : ℕ → Bool) : Type 0 where
  pub last : Lists
  pub step : IsStepped g v now m tree tree last [] told old new
  pub partly : IsPartly tree lists last id rest
