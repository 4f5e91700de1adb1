-- IsFinding: when a finding is true of an image. Each pass says what the passes before it found.
use Rattle.std.specs.Prelude.{◌≡◌, ◌≢◌, ◌≤◌, ◌<◌, ◌*◌, ◌⊎◌, ℕ, ℤ, pos, List, [], length, Some, codes}
use Rattle.std.specs.List.{flat_map}
use Rattle.std.specs.FinMap.{get, empty}
use Rattle.bfs_base.specs.Lists.{Has}
use Rattle.bfs_base.specs.declared.kind.KeyKind.{KeyKind}
use Rattle.bfs_base.specs.declared.kind.KeyKind.TheVariants.{Text, I64}
use Rattle.bfs_super.specs.Conditions.{natural, IsRefusal}
use Rattle.bfs_super.specs.declared.sup.Super.{Super}
use Rattle.bfs_super.specs.declared.fault.SuperFault.{SuperFault}
use Rattle.bfs_log.specs.Replay.{super_of, blocks_of, Valid}
use Rattle.bfs_sound.specs.Places.{HasStream}
use Rattle.bfs_tree.specs.Listings.{listed, kind_of_key, bytes_of_key}
use Rattle.bfs_tree.specs.Trees.{Tree}
use Rattle.bfs_values.specs.Reached.{pairs_of}
use Rattle.bfs_values.specs.Rows.{rows_in}
use Rattle.bfs_sound.specs.Volumes.{Volume, sizes, IsMarked}
use Rattle.bfs_sound.specs.Inodes.{content, proper_rows, index_directory}
use Rattle.bfs_sound.specs.Listings.{IsIndexRow}
use Rattle.bfs_sound.specs.Owners.{In, reach, Marks}
use Rattle.bfs_sound.specs.Whole.{volume_of, HasSoundNodes, HasSoundIndices}
use Rattle.bfs_finding.specs.declared.finding.Finding.{Finding}
use Rattle.bfs_finding.specs.declared.finding.Finding.TheVariants as finds
use Rattle.bfs_finding.specs.Ways.{IsShared, IsOwned}
use Rattle.bfs_finding.specs.NodeFaults.{IsInodeFault, IsNameFault, IsParentFault, IsRowFault, IsAttributeFault}
use Rattle.bfs_finding.specs.StreamFaults.{IsStreamFault}
use Rattle.bfs_finding.specs.TreeFaults.{IsTreePageFault, IsTreeLinkFault, IsTreeOrderFault}

-- the stream of an inode keeps its format
abbrev pub IsStreamOf : Volume → ℕ → Type 0
IsStreamOf v b = HasStream (sizes v.geometry) v.blocks b

-- Pass 3: a volume is wrong in its inodes, streams, trees, rows or names.
abbrev pub IsBroken : Volume → Finding → Type 0
IsBroken v (finds.Inode block part found) = IsInodeFault v block part found
IsBroken v (finds.Stream owner found wanted) = IsStreamFault v owner found wanted
IsBroken v (finds.Shared block first second) = IsShared v block first second
IsBroken v (finds.TreeOrder owner page index) = IsStreamOf v owner × IsTreeOrderFault v owner page index
IsBroken v (finds.TreeLink owner page found wanted) = IsStreamOf v owner × IsTreeLinkFault v owner page found wanted
IsBroken v (finds.TreePage owner page part) = IsStreamOf v owner × IsTreePageFault v owner page part
IsBroken v (finds.Row owner value) = IsRowFault v owner value
IsBroken v (finds.Name id row item) = IsNameFault v id row item
IsBroken v (finds.Parent id found wanted) = IsParentFault v id found wanted
IsBroken v (finds.Attribute id name) = IsAttributeFault v id name
IsBroken v _ = ⊥

-- what pass 3 leaves: a tree stands on the volume, and the blocks that are reached lie in it, each once
pub record Standing (v : Volume) (tree : Tree) : Type 0 where
  pub nodes : HasSoundNodes v tree
  pub inside : (k : ℕ) → Has (reach v tree) k → k < v.geometry.blocks

-- a built-in index: `name` has text, `size` and `last_modified` have numbers of eight bytes
abbrev pub IsBuiltIn : List ℕ → KeyKind → Type 0
IsBuiltIn name kind = ((name ≡ codes "name") × (kind ≡ Text)) ⊎ ((name ≡ codes "size") × (kind ≡ I64)) ⊎ ((name ≡ codes "last_modified") × (kind ≡ I64))

-- the index directory is there and has no row
abbrev pub IsRowless : Volume → Type 0
IsRowless v = (d : ℕ) × (index_directory v ≡ Some d) × (proper_rows v d ≡ [])

-- an index of a tree with this kind of keys, and the number of its inode
pub record IsIndexAt (v : Volume) (tree : Tree) (index : List ℕ) (kind : KeyKind) (id : ℕ) : Type 0 where
  pub value : ℤ
  pub row : IsIndexRow v index value
  pub there : get tree.indices index ≡ Some kind
  pub number : id ≡ natural value

-- the pairs of keys and numbers that stand in an index
abbrev pub pairs_at : Volume → KeyKind → ℕ → List (List ℕ × ℕ)
pairs_at v kind id = flat_map (pairs_of (content v id)) (rows_in kind (content v id))

-- Pass 4, of a volume on which a tree stands: it has indices, but not this built-in one, or with keys of another kind; a pair
-- that an index has to list isn't there, or one is there that it doesn't list.
abbrev pub IsUnlisted : Volume → Tree → Finding → Type 0
IsUnlisted v tree (finds.IndexMissing name) = (tree.indices ≢ empty) × (kind : KeyKind) × IsBuiltIn name kind × (get tree.indices name ≢ Some kind)
IsUnlisted v tree (finds.RowMissing index key id) = (d : ℕ) × IsIndexAt v tree index (kind_of_key key) d × In (bytes_of_key key, id) (listed tree index (kind_of_key key)) × ¬ In (bytes_of_key key, id) (pairs_at v (kind_of_key key) d)
IsUnlisted v tree (finds.RowExtra index key id) = (d : ℕ) × IsIndexAt v tree index (kind_of_key key) d × In (bytes_of_key key, id) (pairs_at v (kind_of_key key) d) × ¬ In (bytes_of_key key, id) (listed tree index (kind_of_key key))
IsUnlisted v tree _ = ⊥

-- Pass 5, where besides each index lists what it has to: a block that is reached isn't marked, or one that is marked isn't reached.
abbrev pub IsMismarked : Volume → Tree → Finding → Type 0
IsMismarked v tree (finds.BitUnset block owner) = IsOwned v owner block × ¬ IsMarked v block
IsMismarked v tree (finds.BitExtra block) = IsMarked v block × ¬ Has (reach v tree) block
IsMismarked v tree _ = ⊥

-- Pass 6, where besides the bitmap marks what is reached: the superblock counts another number of used blocks.
abbrev pub IsMiscounted : Super → Volume → Tree → Finding → Type 0
IsMiscounted s v tree (finds.Used found wanted) = (found ≡ s.used_blocks) × (wanted ≡ length (reach v tree)) × (found ≢ pos wanted)
IsMiscounted s v tree _ = ⊥

-- Passes 2 to 6, of a valid superblock and a volume: the log isn't empty; or it is, and one of the passes behind finds this, where
-- the volume passes all that stand before.
pub data IsFindingOf (s : Super) (v : Volume) (f : Finding) : Type 0 where
  in_log : s.log_start ≢ s.log_end → f ≡ finds.Log s.log_start s.log_end → IsFindingOf s v f
  in_parts : s.log_start ≡ s.log_end → IsBroken v f → IsFindingOf s v f
  in_directory : s.log_start ≡ s.log_end → ((g : Finding) → ¬ IsBroken v g) → IsRowless v → (name : List ℕ) (kind : KeyKind) → IsBuiltIn name kind → f ≡ finds.IndexMissing name → IsFindingOf s v f
  in_indices : s.log_start ≡ s.log_end → (tree : Tree) → Standing v tree → IsUnlisted v tree f → IsFindingOf s v f
  in_bitmap : s.log_start ≡ s.log_end → (tree : Tree) → Standing v tree → HasSoundIndices v tree → IsMismarked v tree f → IsFindingOf s v f
  in_count : s.log_start ≡ s.log_end → (tree : Tree) → Standing v tree → HasSoundIndices v tree → Marks v (reach v tree) → IsMiscounted s v tree f → IsFindingOf s v f

-- Pass 1 and those behind, of an image that has two sectors, and where the superblock counts no more than there are: the superblock
-- is refused; or it is valid, and a later pass finds this.
pub data IsFinding (image : List ℕ) (f : Finding) : Type 0 where
  of_super : 512 * 2 ≤ length image → (fault : SuperFault) → f ≡ finds.Super fault → IsRefusal (super_of image) fault → IsFinding image f
  of_volume : Valid image → IsFindingOf (super_of image) (volume_of (super_of image) (blocks_of image)) f → IsFinding image f
