-- What a search of an index rests on: the index directory, that index, and the inodes of the nodes that it answers.
use Rattle.std.specs.Prelude.{◌≡◌, ◌&&◌, ℕ, ℤ, List, Option, Some, None, true, nat_lt, if◌then◌else◌}
use Rattle.std.specs.List.{AllByRecursion}
use Rattle.std.specs.FinMap.{get}
use Rattle.bfs_base.specs.Lists.{Has}
use Rattle.bfs_base.specs.declared.kind.KeyKind.{KeyKind}
use Rattle.bfs_super.specs.Conditions.{natural}
use Rattle.bfs_super.specs.Geometry.{geometry_of}
use Rattle.bfs_super.specs.declared.geometry.Geometry.{Geometry}
use Rattle.bfs_super.specs.declared.sup.Super.{Super}
use Rattle.bfs_bitmap.specs.Runs.{Room}
use Rattle.bfs_txn.specs.Told.{AreSized}
use Rattle.bfs_tree.specs.Listings.{kind_of_key, rows_between}
use Rattle.bfs_tree.specs.Refusals.{is_kind}
use Rattle.bfs_tree.specs.Trees.{Tree}
use Rattle.bfs_tree.specs.declared.rows.FoundRow.{FoundRow}
use Rattle.bfs_tree.specs.declared.rows.Key.{Key}
use Rattle.bfs_sound.specs.Inodes.{inode_blocks, index_directory}
use Rattle.bfs_sound.specs.Listings.{IsIndexRow}
use Rattle.bfs_shift.specs.Lists.{Lists}
use Rattle.bfs_shift.specs.Shifts.{volume_in}
use Rattle.bfs_look.specs.Ready.{IsReady, HasNodeAt}
use Rattle.bfs_index.specs.declared.found.Pair.{Pair}

-- a second map says what the first one does of each block of an inode and its stream, as the first has them
abbrev pub SaysInode : Geometry → (ℕ → Option (List ℕ)) → (ℕ → Option (List ℕ)) → ℕ → Type 0
SaysInode g w m id = (k : ℕ) → Has (inode_blocks (volume_in g w) id) k → m k ≡ w k

-- It says so of the index directory, and of the index of this name, where there are such.
pub record SaysIndex (g : Geometry) (w m : ℕ → Option (List ℕ)) (name : List ℕ) : Type 0 where
  pub directory : (id : ℕ) → index_directory (volume_in g w) ≡ Some id → SaysInode g w m id
  pub index : (value : ℤ) → IsIndexRow (volume_in g w) name value → SaysInode g w m (natural value)

-- It says so of these, and of the inode of each node that the index of the name lists between two keys of its kind. Of other blocks nothing is said.
pub record SaysFound (g : Geometry) (w m : ℕ → Option (List ℕ)) (tree : Tree) (name : List ℕ) (low high : Key) : Type 0 where
  pub sized : AreSized g.block_size (Some w)
  pub index : SaysIndex g w m name
  pub nodes : (kind : KeyKind) → get tree.indices name ≡ Some kind → (is_kind (kind_of_key low) kind && is_kind (kind_of_key high) kind) ≡ true → AllByRecursion (λ (row : FoundRow). m row.id ≡ w row.id) (rows_between tree name kind low high)

-- a map says so of the blocks of some volume that stands for a tree
pub record HasFound (g : Geometry) (m : ℕ → Option (List ℕ)) (name : List ℕ) (low high : Key) : Type 0 where
  pub room : Room
  pub whole : ℕ → Option (List ℕ)
  pub tree : Tree
  pub lists : Lists
  pub ready : IsReady g room whole tree lists
  pub says : SaysFound g whole m tree name low high

-- each of these pairs is a node's, and of its inode the second map says what the first one does
abbrev pub AreSaid : (ℕ → Option (List ℕ)) → (ℕ → Option (List ℕ)) → Tree → List Pair → Type 0
AreSaid w m tree pairs = AllByRecursion (λ pair. HasNodeAt tree pair.id × (m pair.id ≡ w pair.id)) pairs

-- what an image tells of its blocks: the bytes of each block of the volume, and nothing else
abbrev pub told_of : Super → (ℕ → List ℕ) → ℕ → Option (List ℕ)
told_of image blocks k = if nat_lt k (natural image.num_blocks) then Some (blocks k) else None

-- a superblock says of its volume what another one does, but for the count of used blocks
abbrev pub IsOfOne : Super → Super → Type 0
IsOfOne sup image = geometry_of image ≡ record (geometry_of sup) { used = (geometry_of image).used }
