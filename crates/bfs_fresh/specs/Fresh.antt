-- The block of a new node's inode.
use Rattle.std.specs.Prelude.{◌≡◌, ℕ, pos, List, [], ◌∷◌, length, take, drop, replicate, Some}
use Rattle.bfs_bytes.specs.declared.Run.{Run}
use Rattle.bfs_inode.specs.Inode.{Stream, inode_at}
use Rattle.bfs_smalldata.specs.Items.{Item, items_of}
use Rattle.bfs_fresh.specs.declared.fields.NewNode.{NewNode}

abbrev pub zero_run : Run
zero_run = record { group = pos 0; start = 0; len = 0 }

-- a stream without blocks
abbrev pub no_stream : Stream
no_stream = record {
  direct = replicate 12 zero_run;
  max_direct_range = pos 0;
  indirect = zero_run;
  max_indirect_range = pos 0;
  double_indirect = zero_run;
  max_double_indirect_range = pos 0;
  size = pos 0;
}

-- The fields of a block of so many bytes are those of a new inode: it belongs to user and group 0, each of its stamps is the call's,
-- it has no attribute directory and no type, and its small data is this. Nothing is said of its stream.
abbrev pub IsInodeOf : ℕ → NewNode → List ℕ → List ℕ → Type 0
IsInodeOf size n area bytes = inode_at bytes ≡ record {
  magic1 = pos 0x3bbe0ad9;
  inode_num = n.address;
  uid = pos 0;
  gid = pos 0;
  mode = n.mode;
  flags = n.flags;
  create_time = n.stamp;
  last_modified_time = n.stamp;
  parent = n.parent;
  attributes = zero_run;
  type_code = 0;
  inode_size = pos size;
  etc = 0;
  stream_bytes = take 144 (drop 72 bytes);
  status_change_time = n.stamp;
  pad = replicate 8 0;
  small_data = area;
}

-- the item with a node's own name
abbrev pub name_item : List ℕ → Item
name_item name = record { kind = 0x43535452; name = 19 ∷ []; bytes = name }

-- The block is a new inode, with the item of its name alone in its small data.
pub record IsFresh (size : ℕ) (n : NewNode) (name bytes : List ℕ) : Type 0 where
  pub fields : IsInodeOf size n (drop 232 bytes) bytes
  pub area : items_of (drop 232 bytes) ≡ Some (name_item name ∷ [])
  pub long : length bytes ≡ size
