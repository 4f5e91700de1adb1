-- How a group of changed blocks stands in the ring of the log.
use Rattle.std.specs.Prelude.{Bool, ◌&&◌, ◌||◌, nat_lt, nat_le, ◌≡◌, ◌⊎◌, ◌<◌, ◌≤◌, ℕ, pos, ◌+◌, ◌-◌, ◌*◌, ◌/◌, ◌%◌, ◌==◌, List, length, take, drop, map, if◌then◌else◌}
use Rattle.std.specs.Int.{w32, cast_signed}
use Rattle.bfs_super.specs.declared.sup.Super.{Super}
use Rattle.bfs_super.specs.Conditions.{natural, ceil}
use Rattle.bfs_super.specs.Geometry.{geometry_of}
use Rattle.bfs_log.specs.Ring.{next_place}
use Rattle.bfs_log.specs.Entry.{log_first, entry_bytes}
use Rattle.bfs_log.specs.Replay.{Home, block_sectors, log_from}
use Rattle.bfs_txn.specs.Changed.{bytes_at}
use Rattle.bfs_txn.specs.declared.group.Group.{Group}

-- the sectors of a block, the blocks of the volume, and the log's first block and length
pub record Layout : Type 0 where
  pub sectors : ℕ
  pub blocks : ℕ
  pub first : ℕ
  pub len : ℕ

-- a block has two sectors at least, and the log lies in the volume behind block 0
pub record IsGood (l : Layout) : Type 0 where
  pub two : 2 ≤ l.sectors
  pub behind_zero : 1 ≤ l.first
  pub inside : l.first + l.len ≤ l.blocks
  pub ring : 2 ≤ l.len

abbrev pub layout_of : Super → Layout
layout_of s = record { sectors = block_sectors s; blocks = natural s.num_blocks; first = log_first (geometry_of s); len = s.log_blocks.len }

-- the superblocks are of one volume, with its blocks where they were
pub record IsSameVolume (old new : Super) : Type 0 where
  pub layout : layout_of new ≡ layout_of old
  pub block_size : new.block_size ≡ old.block_size

-- a block of the volume that is neither block 0 nor one of the log
abbrev pub IsData : Layout → ℕ → Type 0
IsData l b = (0 < b) × (b < l.blocks) × ((b < l.first) ⊎ (l.first + l.len ≤ b))

-- is it such a block?
abbrev pub is_data : Layout → ℕ → Bool
is_data l k = nat_lt 0 k && (nat_lt k l.blocks && (nat_lt k l.first || nat_le (l.first + l.len) k))

-- the block of the log that stands so far behind a place
abbrev pub slot : Layout → ℕ → ℕ → ℕ
slot l start j = l.first + next_place start j l.len

-- changed blocks as homes
abbrev pub homes_in : List (ℕ × List ℕ) → List Home
homes_in pairs = map (λ p. record { place = p.0; bytes = p.1 }) pairs

-- how many blocks of the log they take: one each, and an array block for each 126 of them
abbrev pub ring_count : List (ℕ × List ℕ) → ℕ
ring_count pairs = length pairs + ceil (length pairs) 126

-- the blocks that an array block names
abbrev pub named_in : List (ℕ × List ℕ) → ℕ → List ℕ
named_in pairs entry = map (λ p. p.0) (take 126 (drop (126 * entry) pairs))

-- what stands in the log at a place of the group: an array block in front of each 126 of the changed blocks
abbrev pub log_block : Super → List (ℕ × List ℕ) → ℕ → List ℕ
log_block s pairs j = if j % 127 == 0 then entry_bytes (geometry_of s) (named_in pairs (j / 127)) s.block_size else bytes_at pairs (126 * (j / 127) + (j % 127 - 1))

-- the place behind the group
abbrev pub behind : Super → List (ℕ × List ℕ) → ℕ
behind s pairs = next_place (log_from s) (ring_count pairs) s.log_blocks.len

-- the superblock that opens the gate: the log ends behind the group
abbrev pub opened_of : Super → Group → Super
opened_of s g = record s { log_end = pos (behind s g.blocks); flags = cast_signed w32 0x44495254; used_blocks = pos g.used }

-- the superblock once the group has left: the log is empty
abbrev pub closed_of : Super → Group → Super
closed_of s g = record s { log_start = pos (behind s g.blocks); log_end = pos (behind s g.blocks); flags = cast_signed w32 0x434c454e; used_blocks = pos g.used }
