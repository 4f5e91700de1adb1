-- A volume: its geometry, and its blocks by their numbers.
use Rattle.std.specs.Prelude.{◌≡◌, ◌<◌, ℕ, ◌*◌, ◌^◌, List, Some}
use Rattle.bfs_base.specs.Lists.{counted_from}
use Rattle.bfs_stream.specs.Runs.{marked}
use Rattle.bfs_super.specs.Geometry.{bitmap_length}
use Rattle.bfs_super.specs.declared.geometry.Geometry.{Geometry}
use Rattle.bfs_stream.specs.Sizes.{Sizes}
use Rattle.bfs_stream.specs.Places.{run_blocks}

pub record Volume : Type 0 where
  pub geometry : Geometry
  pub blocks : ℕ → List ℕ

-- what streams take from the geometry
abbrev pub sizes : Geometry → Sizes
sizes g = record { block_size = g.block_size; blocks = g.blocks; group_blocks = 2 ^ g.shift }

-- the blocks of the bitmap, which stand behind block 0, and those of the log
abbrev pub bitmap_blocks : Geometry → List ℕ
bitmap_blocks g = counted_from 1 (bitmap_length g.blocks g.block_size)

abbrev pub log_blocks : Geometry → List ℕ
log_blocks g = run_blocks (sizes g) g.log

-- Marked: a block of the volume whose bit in the bitmap is set
abbrev pub IsMarked : Volume → ℕ → Type 0
IsMarked v k = (k < v.geometry.blocks) × (marked (8 * v.geometry.block_size) (λ b. Some (v.blocks b)) k ≡ 1)
