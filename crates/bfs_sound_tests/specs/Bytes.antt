-- The bytes of blocks of 1,024 bytes, put together from their parts.
use Rattle.std.specs.Prelude.{ℕ, ℤ, ◌+◌, ◌-◌, ◌*◌, ◌/◌, ◌%◌, ◌^◌, pos, negsuc, List, [], ◌∷◌, ◌++◌, length, replicate}
use Rattle.std.specs.List.{flat_map}
use Rattle.bfs_base.specs.declared.kind.KeyKind.{KeyKind}
use Rattle.bfs_bytes.specs.declared.Run.{Run}
use Rattle.bfs_bytes.specs.Fields.{unsigned_bytes, run_bytes}
use Rattle.bfs_node.specs.Header.{header_bytes, code_of}
use Rattle.bfs_node.specs.declared.header.Header.{Header}
use Rattle.bfs_node.specs.declared.links.Links.{Links}
use Rattle.bfs_node.specs.Page.{Row, keys_of, base_of, null_links, head_bytes}
use Rattle.bfs_node.specs.Written.{ends_of, values_of}

-- the bytes with zeros behind them, n in all
abbrev pub padded : ℕ → List ℕ → List ℕ
padded n bytes = bytes ++ replicate (n - length bytes) 0

abbrev pub zero_block : List ℕ
zero_block = replicate 1024 0

-- so many blocks of the first allocation group, and the address of an inode there
abbrev pub run : ℕ → ℕ → Run
run start len = record { group = pos 0; start = start; len = len }

abbrev pub address : ℕ → Run
address id = run id 1

abbrev pub no_run : Run
no_run = run 0 0

-- one of the upper levels of a stream: its table's run, and up to which byte its runs reach
pub record Upper : Type 0 where
  pub table : Run
  pub range : ℕ

-- the 144 bytes of a stream: direct runs, up to which byte they reach, the two upper levels, and the size
unfoldable pub level_bytes : List Run → ℕ → Upper → Upper → ℕ → List ℕ
level_bytes direct range indirect double size =
    padded 96 (flat_map run_bytes direct) ++ (unsigned_bytes 8 range ++ (run_bytes indirect.table ++ (unsigned_bytes 8 indirect.range
    ++ (run_bytes double.table ++ (unsigned_bytes 8 double.range ++ unsigned_bytes 8 size)))))

-- the same with nothing at the double indirect level
abbrev pub stream_bytes : List Run → ℕ → Run → ℕ → ℕ → List ℕ
stream_bytes direct range table table_range size = level_bytes direct range (record { table = table; range = table_range }) (record { table = no_run; range = 0 }) size

-- the stream of a tree of so many pages, which stand in the blocks behind the inode
abbrev pub tree_stream : ℕ → ℕ → List ℕ
tree_stream id pages = stream_bytes (run (id + 1) pages ∷ []) (1024 * pages) no_run 0 (1024 * pages)

-- what differs between the inodes here: the mode and the flags, the stamp of the last change, the addresses of the parent and of
-- the attribute directory, the type of an attribute, the 144 bytes of the stream or of a short link's target, and the items of the
-- small data
pub record InodeParts : Type 0 where
  pub mode : ℕ
  pub flags : ℕ
  pub modified : ℕ
  pub parent : ℕ
  pub attributes : Run
  pub code : ℕ
  pub stream : List ℕ
  pub items : List ℕ

-- the inode's block: user and group 0, and the stamp 1000 twice beside that of the last change
unfoldable pub inode_block : ℕ → InodeParts → List ℕ
inode_block id p =
    unsigned_bytes 4 0x3bbe0ad9 ++ (run_bytes (address id) ++ (replicate 8 0 ++ (unsigned_bytes 4 p.mode ++ (unsigned_bytes 4 p.flags
    ++ (unsigned_bytes 8 1000 ++ (unsigned_bytes 8 p.modified ++ (run_bytes (address p.parent) ++ (run_bytes p.attributes ++ (unsigned_bytes 4 p.code
    ++ (unsigned_bytes 4 1024 ++ (replicate 4 0 ++ (p.stream ++ (unsigned_bytes 8 1000 ++ padded 800 (replicate 8 0 ++ p.items))))))))))))))

-- the header of a tree of so many levels, whose root is the page behind it, and without free pages
abbrev pub tree_header : ℕ → KeyKind → ℕ → Header
tree_header levels kind size = record {
  magic = 0x69f6c2e8;
  node_size = 1024;
  levels = levels;
  data_type = code_of kind;
  root_pointer = pos 1024;
  free_pointer = negsuc 0;
  maximum_size = pos size;
}

-- its page, with one level
unfoldable pub header_block : KeyKind → ℕ → List ℕ
header_block kind size = padded 1024 (header_bytes (tree_header 1 kind size))

-- a page's links, left and right, and the overflow link; -1 is none, and an overflow link of -2 marks a free page
abbrev pub linked : ℤ → ℤ → ℤ → Links
linked left right overflow = record { left = left; right = right; overflow = overflow }

abbrev pub none : ℤ
none = negsuc 0

-- a page with these links and rows
abbrev pub page_bytes : Links → List Row → List ℕ
page_bytes links rows =
    padded 1024 (padded (base_of (length (keys_of rows))) (head_bytes links (length rows) (length (keys_of rows)) ++ keys_of rows) ++ (ends_of 0 rows ++ values_of rows))

-- a leaf with these rows and no neighbours
unfoldable pub leaf_block : List Row → List ℕ
leaf_block rows = page_bytes null_links rows

-- the bitmap's block in which the first blocks are marked, so many
unfoldable pub bitmap_block : ℕ → List ℕ
bitmap_block used = padded 1024 (replicate (used / 8) 255 ++ (2 ^ (used % 8) - 1) ∷ [])
