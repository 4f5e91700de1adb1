-- Blocks that were given back, whatever inodes they were of.
use Rattle.std.specs.Prelude.{◌≡◌, ◌<◌, ℕ, ◌/◌, ◌%◌, ◌==◌, ◌&&◌, ◌||◌, List, ◌++◌, Option, Some, IsSome, Bool, not, if◌then◌else◌}
use Rattle.std.specs.List.{flat_map}
use Rattle.bfs_base.specs.Lists.{times, Has, IsOnce}
use Rattle.bfs_bytes.specs.Fields.{unsigned_at}
use Rattle.bfs_super.specs.declared.geometry.Geometry.{Geometry}
use Rattle.bfs_bitmap.specs.Runs.{Room, Fits, IsCounted, per_block, is_reserved, marked}
use Rattle.bfs_stream.specs.Grown.{IsOutside, AreWritten}
use Rattle.bfs_stream.specs.Places.{HasStream}
use Rattle.bfs_stream.specs.Told.{contents}
use Rattle.bfs_stream.specs.Trimmed.{AreMarked}
use Rattle.bfs_tree.specs.Trees.{Tree}
use Rattle.bfs_sound.specs.Inodes.{frame_blocks, inode_blocks}
use Rattle.bfs_sound.specs.Owners.{In}
use Rattle.bfs_sound.specs.Volumes.{sizes}
use Rattle.bfs_shift.specs.Lists.{Lists}
use Rattle.bfs_shift.specs.Shifts.{volume_in}
use Rattle.bfs_shift.specs.Stocked.{Stocked}

-- the inode in a block is a link's that isn't flagged as a long one: it keeps its target in the place of a stream
abbrev pub keeps_target : List ℕ → Bool
keeps_target block = (unsigned_at 4 block 20 / 4096 % 16 == 10) && (unsigned_at 4 block 24 / 64 % 2 == 0)

-- These blocks were given back: none of them has its bit set, and all are reserved; no other bit changed, and nothing else is reserved; but
-- for bits and these blocks nothing changed, block 0 among the rest; and where each was used and is there once, a right count of the
-- used blocks stays right.
pub record AreGivenBack (v now : Room) (xs : List ℕ) (m : ℕ → Option (List ℕ)) (told : Option (ℕ → Option (List ℕ))) (old new : ℕ → Bool) : Type 0 where
  pub map : ℕ → Option (List ℕ)
  pub is : told ≡ Some map
  pub fits : Fits now map
  pub reserved : (k : ℕ) → is_reserved now.given k ≡ (is_reserved v.given k || not (times k xs == 0))
  pub marks : (k : ℕ) → k < v.blocks → marked (per_block v) map k ≡ (if times k xs == 0 then marked (per_block v) m k else 0)
  pub counted : IsOnce xs → AreMarked v xs m → IsCounted v m → IsCounted now map
  pub others : (k : ℕ) → IsOutside v k → times k xs ≡ 0 → map k ≡ m k
  pub first : times 0 xs ≡ 0 → map 0 ≡ m 0
  pub written : AreWritten v old new xs

-- The blocks of these inodes are loose, each once; their streams stand; and told are the inodes and their array blocks.
pub record AreLoose (g : Geometry) (m : ℕ → Option (List ℕ)) (ids : List ℕ) : Type 0 where
  pub tree : Tree
  pub lists : Lists
  pub rest : List ℕ
  pub stocked : Stocked (volume_in g m) tree lists (flat_map (inode_blocks (volume_in g m)) ids ++ rest)
  pub streams : (id : ℕ) → In id ids → HasStream (sizes g) (contents m) id
  pub told : (k : ℕ) → Has (flat_map (frame_blocks (volume_in g m)) ids) k → IsSome (m k)
