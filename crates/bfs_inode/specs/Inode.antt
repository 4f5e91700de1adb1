-- An inode in its block, and the data stream in the inode, field by field.
use Rattle.std.specs.Prelude.{◌≡◌, ℕ, zero, suc, ◌+◌, ℤ, List, [], ◌∷◌, length, take, drop}
use Rattle.bfs_bytes.specs.declared.Run.{Run}
use Rattle.bfs_bytes.specs.Fields.{unsigned_at, signed32_at, signed64_at, run_in}

-- n runs, from a place on
unfoldable pub runs_in : ℕ → List ℕ → ℕ → List Run
runs_in zero bytes at = []
runs_in (suc n) bytes at = run_in bytes at ∷ runs_in n bytes (at + 8)

-- the fields of an inode
pub record Inode : Type 0 where
  pub magic1 : ℤ
  pub inode_num : Run
  pub uid : ℤ
  pub gid : ℤ
  pub mode : ℤ
  pub flags : ℤ
  pub create_time : ℤ
  pub last_modified_time : ℤ
  pub parent : Run
  pub attributes : Run
  pub type_code : ℕ
  pub inode_size : ℤ
  pub etc : ℕ
  pub stream_bytes : List ℕ
  pub status_change_time : ℤ
  pub pad : List ℕ
  pub small_data : List ℕ

-- the fields of a data stream: three levels of runs, the byte offset up to which each reaches, and the size
pub record Stream : Type 0 where
  pub direct : List Run
  pub max_direct_range : ℤ
  pub indirect : Run
  pub max_indirect_range : ℤ
  pub double_indirect : Run
  pub max_double_indirect_range : ℤ
  pub size : ℤ

-- the inode in a block
abbrev pub inode_at : List ℕ → Inode
inode_at block = record {
  magic1 = signed32_at block 0;
  inode_num = run_in block 4;
  uid = signed32_at block 12;
  gid = signed32_at block 16;
  mode = signed32_at block 20;
  flags = signed32_at block 24;
  create_time = signed64_at block 28;
  last_modified_time = signed64_at block 36;
  parent = run_in block 44;
  attributes = run_in block 52;
  type_code = unsigned_at 4 block 60;
  inode_size = signed32_at block 64;
  etc = unsigned_at 4 block 68;
  stream_bytes = take 144 (drop 72 block);
  status_change_time = signed64_at block 216;
  pad = take 8 (drop 224 block);
  small_data = drop 232 block;
}

-- the data stream of the inode in a block, which stands in the inode's stream bytes
abbrev pub stream_at : List ℕ → Stream
stream_at block = record {
  direct = runs_in 12 block 72;
  max_direct_range = signed64_at block 168;
  indirect = run_in block 176;
  max_indirect_range = signed64_at block 184;
  double_indirect = run_in block 192;
  max_double_indirect_range = signed64_at block 200;
  size = signed64_at block 208;
}

-- A block is as long as another, and the same but for the 144 bytes of the data stream.
abbrev pub KeepsOutside : List ℕ → List ℕ → Type 0
KeepsOutside old new = (length new ≡ length old) × (take 72 new ≡ take 72 old) × (drop 216 new ≡ drop 216 old)
