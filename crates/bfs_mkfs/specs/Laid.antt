-- What a new volume holds, block by block. Nothing is said of the log, the free blocks, and block 0 outside the
-- superblock's sector.
use Rattle.std.specs.Prelude.{◌≡◌, ◌≤◌, ℕ, ℤ, pos, negsuc, ◌+◌, ◌-◌, ◌*◌, ◌/◌, ◌%◌, ◌^◌, List, [], ◌∷◌, ◌++◌, length, take, drop, replicate, codes, ◌==◌, if◌then◌else◌}
use Rattle.std.specs.Int.{w32, cast_signed}
use Rattle.bfs_base.specs.declared.kind.KeyKind.{KeyKind}
use Rattle.bfs_base.specs.declared.kind.KeyKind.TheVariants.{Text, I64}
use Rattle.bfs_base.specs.Images.{sector}
use Rattle.bfs_bytes.specs.declared.Run.{Run}
use Rattle.bfs_inode.specs.Inode.{inode_at, stream_at}
use Rattle.bfs_node.specs.declared.header.Header.{Header}
use Rattle.bfs_node.specs.Header.{header_at, code_of}
use Rattle.bfs_node.specs.Page.{Row, HasLayout, rows_of, links_of, null_links}
use Rattle.bfs_super.specs.declared.sup.Super.{Super}
use Rattle.bfs_super.specs.declared.geometry.Geometry.{Geometry}
use Rattle.bfs_super.specs.Conditions.{ceil}
use Rattle.bfs_super.specs.Geometry.{IsBlockSize, IsPlan, bitmap_length}
use Rattle.bfs_super.specs.Label.{name_of}
use Rattle.bfs_super.specs.Layout.{sector_of}
use Rattle.bfs_mkfs.specs.declared.tree.NewTree.{NewTree}

-- the logarithm of a block size
abbrev pub shift_of_size : ℕ → ℕ
shift_of_size size = if size == 1024 then 10 else if size == 2048 then 11 else if size == 4096 then 12 else 13

-- the address of an inode: those of a new volume all lie in the first allocation group
abbrev pub address : ℕ → Run
address id = record { group = pos 0; start = id; len = 1 }

abbrev pub zero_run : Run
zero_run = record { group = pos 0; start = 0; len = 0 }

-- the superblock: clean, with an empty log
abbrev pub made : Geometry → List ℕ → Super
made g label = record {
  name = name_of label;
  magic1 = cast_signed w32 0x42465331;
  fs_byte_order = cast_signed w32 0x42494745;
  block_size = g.block_size;
  block_shift = shift_of_size g.block_size;
  num_blocks = pos g.blocks;
  used_blocks = pos g.used;
  inode_size = pos g.block_size;
  magic2 = cast_signed w32 0xdd121031;
  blocks_per_ag = pos g.per_group;
  ag_shift = pos g.shift;
  num_ags = pos g.groups;
  flags = cast_signed w32 0x434c454e;
  log_blocks = g.log;
  log_start = pos 0;
  log_end = pos 0;
  magic3 = cast_signed w32 0x15b6830e;
  root_dir = address g.root;
  indices = address g.indices;
  rest = replicate 380 0;
}

-- the bitmap's n bytes: a set bit, the lowest first, for each block that is used, which are the first ones
unfoldable pub bitmap_bytes : ℕ → ℕ → List ℕ
bitmap_bytes used n = replicate (used / 8) 255 ++ (2 ^ (used % 8) - 1) ∷ replicate (n - used / 8 - 1) 0

-- the blocks of a tree's two pages
abbrev pub pages_length : ℕ → ℕ
pages_length size = ceil 2048 size

-- a block is the inode of a new tree
pub record IsNewInode (size : ℕ) (t : NewTree) (bytes : List ℕ) : Type 0 where
  pub fields : inode_at bytes ≡ record {
    magic1 = pos 0x3bbe0ad9;
    inode_num = address t.id;
    uid = pos 0;
    gid = pos 0;
    mode = t.mode;
    flags = pos 1;
    create_time = t.stamp;
    last_modified_time = t.stamp;
    parent = address t.parent;
    attributes = zero_run;
    type_code = 0;
    inode_size = pos size;
    etc = 0;
    stream_bytes = take 144 (drop 72 bytes);
    status_change_time = t.stamp;
    pad = replicate 8 0;
    small_data = replicate (size - 232) 0;
  }
  pub stream : stream_at bytes ≡ record {
    direct = record { group = pos 0; start = t.id + 1; len = pages_length size } ∷ replicate 11 zero_run;
    max_direct_range = pos (pages_length size * size);
    indirect = zero_run;
    max_indirect_range = pos 0;
    double_indirect = zero_run;
    max_double_indirect_range = pos 0;
    size = pos 2048;
  }

-- the header of a tree with one leaf
abbrev pub new_header : KeyKind → Header
new_header kind = record {
  magic = 0x69f6c2e8;
  node_size = 1024;
  levels = 1;
  data_type = code_of kind;
  root_pointer = pos 1024;
  free_pointer = negsuc 0;
  maximum_size = pos 2048;
}

-- a page is a leaf with these rows and no neighbours
pub record IsLeaf (expected : List Row) (page : List ℕ) : Type 0 where
  pub layout : HasLayout page
  pub rows : rows_of page ≡ expected
  pub links : links_of page ≡ null_links

-- an inode's block and the blocks of its tree: header, leaf, and zeros up to a block's end
pub record IsNewTree (size : ℕ) (t : NewTree) (rows : List Row) (bytes : List ℕ) : Type 0 where
  pub long : length bytes ≡ size + pages_length size * size
  pub inode : IsNewInode size t (take size bytes)
  pub header : header_at (take 1024 (drop size bytes)) ≡ new_header t.kind
  pub header_rest : drop 40 (take 1024 (drop size bytes)) ≡ replicate 984 0
  pub leaf : IsLeaf rows (take 1024 (drop (size + 1024) bytes))
  pub rest : drop (size + 2048) bytes ≡ replicate (pages_length size * size - 2048) 0

-- n blocks of an image
abbrev pub blocks_in : ℕ → ℕ → ℕ → List ℕ → List ℕ
blocks_in size first n image = take (n * size) (drop (first * size) image)

abbrev pub root_rows : Geometry → List Row
root_rows g = (codes ".", pos g.root) ∷ (codes "..", pos g.root) ∷ []

-- the blocks of a tree of a new volume, and the places of the indices
abbrev pub tree_blocks : Geometry → ℕ
tree_blocks g = 1 + pages_length g.block_size

abbrev pub name_at : Geometry → ℕ
name_at g = g.indices + tree_blocks g

abbrev pub size_at : Geometry → ℕ
size_at g = name_at g + tree_blocks g

abbrev pub modified_at : Geometry → ℕ
modified_at g = size_at g + tree_blocks g

abbrev pub index_rows : Geometry → List Row
index_rows g = (codes "last_modified", pos (modified_at g)) ∷ (codes "name", pos (name_at g)) ∷ (codes "size", pos (size_at g)) ∷ []

-- modes, in octal: a directory 040755; the index directory and an index of text 04100040700, of 64 bit numbers 04010040700
abbrev pub directory_mode : ℤ
directory_mode = pos 0x41ed

abbrev pub text_mode : ℤ
text_mode = pos 0x210041c0

abbrev pub long_mode : ℤ
long_mode = pos 0x202041c0

-- the five trees
abbrev pub root_tree : Geometry → ℤ → NewTree
root_tree g stamp = record { id = g.root; parent = g.root; mode = directory_mode; kind = Text; stamp = stamp }

abbrev pub indices_tree : Geometry → ℤ → NewTree
indices_tree g stamp = record { id = g.indices; parent = g.root; mode = text_mode; kind = Text; stamp = stamp }

abbrev pub name_tree : Geometry → ℤ → NewTree
name_tree g stamp = record { id = name_at g; parent = g.indices; mode = text_mode; kind = Text; stamp = stamp }

abbrev pub size_tree : Geometry → ℤ → NewTree
size_tree g stamp = record { id = size_at g; parent = g.indices; mode = long_mode; kind = I64; stamp = stamp }

abbrev pub modified_tree : Geometry → ℤ → NewTree
modified_tree g stamp = record { id = modified_at g; parent = g.indices; mode = long_mode; kind = I64; stamp = stamp }

-- a geometry that the layout of a new volume can be
pub record IsPlanned (g : Geometry) : Type 0 where
  pub size : IsBlockSize g.block_size
  pub few : g.blocks ≤ 4194304
  pub log_low : 2 ≤ g.log.len
  pub log_high : g.log.len ≤ 2048
  pub plan : IsPlan g.blocks g.block_size g.log.len g

-- the five trees, end to end
pub record HasTrees (g : Geometry) (stamp : ℤ) (bytes : List ℕ) : Type 0 where
  pub root : List ℕ
  pub indices : List ℕ
  pub name : List ℕ
  pub size : List ℕ
  pub last_modified : List ℕ
  pub parts : bytes ≡ root ++ (indices ++ (name ++ (size ++ last_modified)))
  pub root_is : IsNewTree g.block_size (root_tree g stamp) (root_rows g) root
  pub indices_is : IsNewTree g.block_size (indices_tree g stamp) (index_rows g) indices
  pub name_is : IsNewTree g.block_size (name_tree g stamp) [] name
  pub size_is : IsNewTree g.block_size (size_tree g stamp) [] size
  pub modified_is : IsNewTree g.block_size (modified_tree g stamp) [] last_modified

-- Laid: the image of a new volume. The bitmap follows block 0, and from the root directory's block on the five trees
-- stand one after the other.
pub record IsLaid (g : Geometry) (label : List ℕ) (stamp : ℤ) (image : List ℕ) : Type 0 where
  pub super : sector 1 image ≡ sector_of (made g label)
  pub bitmap : blocks_in g.block_size 1 (bitmap_length g.blocks g.block_size) image ≡ bitmap_bytes g.used (bitmap_length g.blocks g.block_size * g.block_size)
  pub trees : HasTrees g stamp (blocks_in g.block_size g.root (5 * tree_blocks g) image)
