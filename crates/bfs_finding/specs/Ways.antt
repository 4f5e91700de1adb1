-- How an inode is reached from the superblock, and by which inode a block. Nothing is asked of what stands on the way but the
-- rows that lead on, so that a broken volume has ways too.
use Rattle.std.specs.Prelude.{◌≡◌, ◌≢◌, ◌≤◌, ◌⊎◌, ◌&&◌, ℕ, pos, List, ◌++◌, ◌/◌, ◌%◌, ◌==◌, Some, Bool, true}
use Rattle.bfs_base.specs.Lists.{times, Has}
use Rattle.bfs_tree.specs.declared.call.Kind.{Kind}
use Rattle.bfs_tree.specs.declared.call.Kind.TheVariants.{Dir, Link}
use Rattle.bfs_sound.specs.Volumes.{Volume, bitmap_blocks}
use Rattle.bfs_sound.specs.Inodes.{kind_bits, mode_bits, is_short, inode_blocks, proper_rows, rows_of, index_directory}
use Rattle.bfs_sound.specs.Attributes.{attribute_directory}
use Rattle.bfs_sound.specs.Listings.{index_rows}
use Rattle.bfs_sound.specs.Owners.{In, fixed_blocks, owner_blocks}

-- the system, which is block 0, the bitmap and the log; the root; a row of a directory; the attribute directory of a node, or
-- a row of it; the index directory, or a row of it
pub data Way : Type 0 where
  to_system : Way
  to_root : Way
  to_child : ℕ → List ℕ → Way
  to_directory : ℕ → Way
  to_attribute : ℕ → List ℕ → Way
  to_indices : Way
  to_index : List ℕ → Way

-- the four bits of a mode say that the node is of this kind
abbrev pub says : Volume → ℕ → Kind → Bool
says v id kind = mode_bits v id / 4096 % 16 == kind_bits kind

-- the id is the root's, or a row of a directory that is reached names it
pub data IsReached (v : Volume) : ℕ → Type 0 where
  root_reached : IsReached v v.geometry.root
  row_reached : (d : ℕ) (name : List ℕ) (id : ℕ) → IsReached v d → says v d Dir ≡ true → In (name, pos id) (proper_rows v d) → IsReached v id

-- the way leads to the inode with this number; the system goes by 0
abbrev pub Arrives : Volume → Way → ℕ → Type 0
Arrives v to_system b = b ≡ 0
Arrives v to_root b = b ≡ v.geometry.root
Arrives v (to_child d name) b = IsReached v d × (says v d Dir ≡ true) × In (name, pos b) (proper_rows v d)
Arrives v (to_directory id) b = IsReached v id × (attribute_directory v id ≡ Some b)
Arrives v (to_attribute id name) b = IsReached v id × In (name, pos b) (rows_of v (attribute_directory v id))
Arrives v to_indices b = index_directory v ≡ Some b
Arrives v (to_index name) b = In (name, pos b) (index_rows v)

-- a short link has no stream
abbrev pub lacks_stream : Volume → ℕ → Bool
lacks_stream v b = says v b Link && is_short v b

-- the blocks that an inode has which is reached by this way
abbrev pub blocks_by : Volume → Way → ℕ → List ℕ
blocks_by v to_system b = fixed_blocks v ++ bitmap_blocks v.geometry
blocks_by v to_root b = owner_blocks v (b, lacks_stream v b)
blocks_by v (to_child d name) b = owner_blocks v (b, lacks_stream v b)
blocks_by v (to_directory id) b = inode_blocks v b
blocks_by v (to_attribute id name) b = inode_blocks v b
blocks_by v to_indices b = inode_blocks v b
blocks_by v (to_index name) b = inode_blocks v b

-- shared: two ways lead to owners of the block, or one leads to an owner that has it twice
pub record IsShared (v : Volume) (block first second : ℕ) : Type 0 where
  pub one : Way
  pub other : Way
  pub there : Arrives v one first
  pub here : Arrives v other second
  pub twice : ((one ≢ other) × Has (blocks_by v one first) block × Has (blocks_by v other second) block) ⊎ ((one ≡ other) × (2 ≤ times block (blocks_by v one first)))

-- an owner that a way leads to has the block
abbrev pub IsOwned : Volume → ℕ → ℕ → Type 0
IsOwned v owner block = (way : Way) × Arrives v way owner × Has (blocks_by v way owner) block

-- an inode whose stream has a tree of names: a directory, an attribute directory, or the index directory
pub data HasNames (v : Volume) : ℕ → Type 0 where
  of_node : (d : ℕ) → IsReached v d → says v d Dir ≡ true → HasNames v d
  of_attributes : (id d : ℕ) → Arrives v (to_directory id) d → HasNames v d
  of_indices : (d : ℕ) → Arrives v to_indices d → HasNames v d

-- an inode whose stream has the tree of an index
abbrev pub IsListed : Volume → ℕ → Type 0
IsListed v b = (name : List ℕ) × Arrives v (to_index name) b

-- an inode that has a stream: all but short links
pub data IsStreamed (v : Volume) : ℕ → Type 0 where
  by_node : (b : ℕ) → IsReached v b → lacks_stream v b ≡ Bool.false → IsStreamed v b
  by_directory : (id b : ℕ) → Arrives v (to_directory id) b → IsStreamed v b
  by_attribute : (id : ℕ) (name : List ℕ) (b : ℕ) → Arrives v (to_attribute id name) b → IsStreamed v b
  by_indices : (b : ℕ) → Arrives v to_indices b → IsStreamed v b
  by_index : (name : List ℕ) (b : ℕ) → Arrives v (to_index name) b → IsStreamed v b
