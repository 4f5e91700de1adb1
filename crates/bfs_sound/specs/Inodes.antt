-- An inode of a volume: mode and flags, its blocks and its bytes, and the rows of its tree.
use Rattle.std.specs.Prelude.{◌≡◌, ℕ, ◌/◌, ◌%◌, ◌^◌, List, [], ◌∷◌, Option, Some, None, Bool, not, ◌||◌, ◌==◌, if◌then◌else◌, map, codes}
use Rattle.std.specs.List.{filter}
use Rattle.std.specs.Str.{bytes_eq}
use Rattle.bfs_base.specs.declared.kind.KeyKind.TheVariants.{Text}
use Rattle.bfs_bytes.specs.Fields.{unsigned_at}
use Rattle.bfs_super.specs.Conditions.{natural}
use Rattle.bfs_inode.specs.Refusals.{IsInode}
use Rattle.bfs_node.specs.Page.{Row}
use Rattle.bfs_stream.specs.Places.{places_at, frame_at, whole_at, bytes_at, HasStream}
use Rattle.bfs_tree.specs.declared.call.Kind.{Kind}
use Rattle.bfs_tree.specs.declared.call.Kind.TheVariants.{File, Dir, Link}
use Rattle.bfs_values.specs.Rows.{rows_in}
use Rattle.bfs_sound.specs.Volumes.{Volume, sizes}

-- the bit with this number is set
abbrev pub HasBit : ℕ → ℕ → Type 0
HasBit bits i = bits / 2 ^ i % 2 ≡ 1

-- the four bits of a mode that say what a node is
abbrev pub kind_bits : Kind → ℕ
kind_bits File = 8
kind_bits Dir = 4
kind_bits Link = 10

module _ (v : Volume) (id : ℕ) where
  abbrev pub mode_bits : ℕ
  mode_bits = unsigned_at 4 (v.blocks id) 20

  abbrev pub flag_bits : ℕ
  flag_bits = unsigned_at 4 (v.blocks id) 24

  -- not flagged as a long link, whose target is in its stream
  abbrev pub is_short : Bool
  is_short = flag_bits / 64 % 2 == 0

  -- the blocks of its stream, its own block with the array blocks, and all of these
  abbrev pub stream_blocks : List ℕ
  stream_blocks = places_at (sizes v.geometry) v.blocks id

  abbrev pub frame_blocks : List ℕ
  frame_blocks = frame_at (sizes v.geometry) v.blocks id

  abbrev pub inode_blocks : List ℕ
  inode_blocks = whole_at (sizes v.geometry) v.blocks id

  -- the bytes of its stream
  abbrev pub content : List ℕ
  content = bytes_at (sizes v.geometry) v.blocks id

-- an inode of this number, in use, whose stream keeps its format
pub record IsOwner (v : Volume) (id : ℕ) : Type 0 where
  pub inode : IsInode (v.blocks id) id v.geometry.shift
  pub stream : HasStream (sizes v.geometry) v.blocks id

-- a name but `.` and `..`
abbrev pub is_proper : List ℕ → Bool
is_proper name = not (bytes_eq name (codes ".") || bytes_eq name (codes ".."))

-- the rows of an inode's tree of names, where `.` and `..` are passed over
abbrev pub proper_rows : Volume → ℕ → List Row
proper_rows v id = filter (λ row. is_proper row.0) (rows_in Text (content v id))

-- the number of the inode that a row names
abbrev pub id_of : Row → ℕ
id_of row = natural row.1

-- A directory of inodes may be missing. Its rows, and its own inode with those that its rows name; none where it is missing.
abbrev pub rows_of : Volume → Option ℕ → List Row
rows_of v None = []
rows_of v (Some d) = proper_rows v d

abbrev pub inodes_of : Volume → Option ℕ → List ℕ
inodes_of v None = []
inodes_of v (Some d) = d ∷ map id_of (proper_rows v d)

-- the inode of the index directory, or none where the volume has no index directory
abbrev pub index_directory : Volume → Option ℕ
index_directory v = if v.geometry.indices == 0 then None else Some v.geometry.indices
