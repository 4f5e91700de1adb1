-- The blocks that have a piece of a file.
use Rattle.std.specs.Prelude.{◌<◌, ◌≤◌, ◌⊎◌, ◌+◌, ◌/◌, ◌%◌, ◌==◌, ℕ, List, take, drop, if◌then◌else◌}
use Rattle.bfs_super.specs.Conditions.{ceil, natural}
use Rattle.bfs_super.specs.Geometry.{geometry_of}
use Rattle.bfs_super.specs.declared.sup.Super.{Super}
use Rattle.bfs_log.specs.Entry.{log_first}

-- how many blocks of this size have bytes of a piece of so many bytes from a place on
abbrev pub piece_blocks : ℕ → ℕ → ℕ → ℕ
piece_blocks size at count = if count == 0 then 0 else ceil (at % size + count) size

-- of a file's blocks, in order, those that have them
abbrev pub piece_of : ℕ → ℕ → ℕ → List ℕ → List ℕ
piece_of size at count blocks = take (piece_blocks size at count) (drop (at / size) blocks)

-- a block of the volume that is neither block 0 nor one of the log
abbrev pub IsDataOf : Super → ℕ → Type 0
IsDataOf s k = (0 < k) × (k < natural s.num_blocks) × ((k < log_first (geometry_of s)) ⊎ (log_first (geometry_of s) + s.log_blocks.len ≤ k))
