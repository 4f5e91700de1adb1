-- Reach: the blocks of a volume that are reached, each as often as it is, and which of them are metadata.
use Rattle.std.specs.Prelude.{◌≡◌, ◌↔◌, ◌⊎◌, ℕ, List, [], ◌∷◌, ◌++◌, length, Bool, false, ◌&&◌, if◌then◌else◌, map}
use Rattle.std.specs.List.{flat_map}
use Rattle.std.specs.FinMap.{entries}
use Rattle.bfs_base.specs.Lists.{times, Has, IsOnce}
use Rattle.bfs_tree.specs.Trees.{Node, Tree, is_file, is_link}
use Rattle.bfs_sound.specs.Volumes.{Volume, bitmap_blocks, log_blocks, IsMarked}
use Rattle.bfs_sound.specs.Inodes.{is_short, stream_blocks, inode_blocks, inodes_of, index_directory}
use Rattle.bfs_sound.specs.Attributes.{attribute_directory, attribute_inodes}

-- a short link keeps its target in the inode and has no stream
abbrev pub has_no_stream : Volume → ℕ × Node → Bool
has_no_stream v e = is_link e.1.kind && is_short v e.0

-- the blocks of a node by itself: the inode, its array blocks and those of its stream
abbrev pub own_blocks : Volume → ℕ × Node → List ℕ
own_blocks v e = if has_no_stream v e then e.0 ∷ [] else inode_blocks v e.0

-- these, and those of its attribute directory and of each attribute
unfoldable pub node_blocks : Volume → ℕ × Node → List ℕ
node_blocks v e = own_blocks v e ++ flat_map (inode_blocks v) (attribute_inodes v (attribute_directory v e.0))

-- the blocks of the index directory and of each index, where there is an index directory
unfoldable pub index_blocks : Volume → List ℕ
index_blocks v = flat_map (inode_blocks v) (inodes_of v (index_directory v))

-- block 0 and the log
abbrev pub fixed_blocks : Volume → List ℕ
fixed_blocks v = 0 ∷ log_blocks v.geometry

-- Reach: block 0, the log, the bitmap, and the blocks of each node and each index
abbrev pub reach : Volume → Tree → List ℕ
reach v tree = fixed_blocks v ++ (bitmap_blocks v.geometry ++ (flat_map (node_blocks v) (entries tree.nodes) ++ index_blocks v))

-- An owner of blocks: the number of an inode, and whether it has that block alone, as a short link has. The blocks of an
-- owner: the inode, and unless that is all, its array blocks and those of its stream.
abbrev pub Owner : Type 0
Owner = ℕ × Bool

abbrev pub owner_blocks : Volume → Owner → List ℕ
owner_blocks v o = if o.1 then o.0 ∷ [] else inode_blocks v o.0

-- inodes that have a stream, as owners
abbrev pub with_streams : List ℕ → List Owner
with_streams ids = map (λ id. (id, false)) ids

-- the owners of a node: the node by itself, its attribute directory and each attribute
unfoldable pub node_owners : Volume → ℕ × Node → List Owner
node_owners v e = (e.0, has_no_stream v e) ∷ with_streams (attribute_inodes v (attribute_directory v e.0))

-- all owners: those of each node, and where there is an index directory, that and each index
unfoldable pub owners : Volume → Tree → List Owner
owners v tree = flat_map (node_owners v) (entries tree.nodes) ++ with_streams (inodes_of v (index_directory v))

-- the blocks of all owners
unfoldable pub owned : Volume → Tree → List ℕ
owned v tree = flat_map (owner_blocks v) (owners v tree)

-- x is a member of the list
abbrev pub In : {X : Type 0} → X → List X → Type 0
In x [] = ⊥
In x (y ∷ ys) = (x ≡ y) ⊎ In x ys

-- the blocks of a node that are file data: those of a regular file's stream
abbrev pub data_blocks : Volume → ℕ × Node → List ℕ
data_blocks v e = if is_file e.1.kind then stream_blocks v e.0 else []

abbrev pub file_data : Volume → Tree → List ℕ
file_data v tree = flat_map (data_blocks v) (entries tree.nodes)

-- a block that is reached is metadata unless it is one of a regular file's stream
abbrev pub IsMetadata : Volume → Tree → ℕ → Type 0
IsMetadata v tree k = Has (reach v tree) k × (times k (file_data v tree) ≡ 0)

-- the bitmap marks exactly these blocks
abbrev pub Marks : Volume → List ℕ → Type 0
Marks v xs = (k : ℕ) → IsMarked v k ↔ Has xs k

-- the superblock's count of used blocks is theirs
abbrev pub Counts : Volume → List ℕ → Type 0
Counts v xs = v.geometry.used ≡ length xs

-- no block is there twice, the bitmap marks exactly these blocks, and the count is theirs
pub record Accounts (v : Volume) (xs : List ℕ) : Type 0 where
  pub once : IsOnce xs
  pub marks : Marks v xs
  pub used : Counts v xs
