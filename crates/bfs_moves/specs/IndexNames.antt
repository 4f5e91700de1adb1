-- The stream of the index directory, by the superblock.
use Rattle.std.specs.Prelude.{◌≢◌, ℕ, List, Option}
use Rattle.bfs_super.specs.Conditions.{block_of_run}
use Rattle.bfs_super.specs.declared.sup.Super.{Super}
use Rattle.bfs_stream.specs.Sizes.{Origin, sizes_of}
use Rattle.bfs_make.specs.Mapped.{HasReadable}

-- the stream of the inode that the superblock names
abbrev pub names_at : Super → Origin
names_at s = record { id = block_of_run s s.indices; sizes = sizes_of s }

-- where there is an index directory, its stream can be read; of other blocks nothing is said
abbrev pub HasReadableNames : Super → (ℕ → Option (List ℕ)) → Type 0
HasReadableNames s m = block_of_run s s.indices ≢ 0 → HasReadable (names_at s) m
