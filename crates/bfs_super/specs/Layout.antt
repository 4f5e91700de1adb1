-- The superblock's sector, field by field.
use Rattle.std.specs.Prelude.{ℕ, List, ◌++◌, take, drop}
use Rattle.bfs_bytes.specs.Fields.{unsigned_at, signed32_at, signed64_at, run_in, unsigned_bytes, signed32_bytes, signed64_bytes, run_bytes}
use Rattle.bfs_super.specs.declared.sup.Super.{Super}

-- the fields of a sector
abbrev pub super_at : List ℕ → Super
super_at b = record {
  name = take 32 b;
  magic1 = signed32_at b 32;
  fs_byte_order = signed32_at b 36;
  block_size = unsigned_at 4 b 40;
  block_shift = unsigned_at 4 b 44;
  num_blocks = signed64_at b 48;
  used_blocks = signed64_at b 56;
  inode_size = signed32_at b 64;
  magic2 = signed32_at b 68;
  blocks_per_ag = signed32_at b 72;
  ag_shift = signed32_at b 76;
  num_ags = signed32_at b 80;
  flags = signed32_at b 84;
  log_blocks = run_in b 88;
  log_start = signed64_at b 96;
  log_end = signed64_at b 104;
  magic3 = signed32_at b 112;
  root_dir = run_in b 116;
  indices = run_in b 124;
  rest = take 380 (drop 132 b);
}

-- bytes 32 to 63
unfoldable pub sizes_of : Super → List ℕ
sizes_of s = signed32_bytes s.magic1 ++ signed32_bytes s.fs_byte_order ++ unsigned_bytes 4 s.block_size ++ unsigned_bytes 4 s.block_shift ++ signed64_bytes s.num_blocks ++ signed64_bytes s.used_blocks

-- bytes 64 to 87
unfoldable pub groups_of : Super → List ℕ
groups_of s = signed32_bytes s.inode_size ++ signed32_bytes s.magic2 ++ signed32_bytes s.blocks_per_ag ++ signed32_bytes s.ag_shift ++ signed32_bytes s.num_ags ++ signed32_bytes s.flags

-- bytes 88 to 131
unfoldable pub places_of : Super → List ℕ
places_of s = run_bytes s.log_blocks ++ signed64_bytes s.log_start ++ signed64_bytes s.log_end ++ signed32_bytes s.magic3 ++ run_bytes s.root_dir ++ run_bytes s.indices

-- the sector with these fields
abbrev pub sector_of : Super → List ℕ
sector_of s = s.name ++ sizes_of s ++ groups_of s ++ places_of s ++ s.rest
