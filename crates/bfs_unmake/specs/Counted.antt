-- How many blocks the streams of inodes have.
use Rattle.std.specs.Prelude.{ℕ, List, length, sum_by, Option, IsSome}
use Rattle.std.specs.List.{AllByRecursion}
use Rattle.bfs_super.specs.declared.geometry.Geometry.{Geometry}
use Rattle.bfs_stream.specs.Places.{HasStream}
use Rattle.bfs_stream.specs.Told.{contents}
use Rattle.bfs_sound.specs.Inodes.{stream_blocks}
use Rattle.bfs_sound.specs.Volumes.{Volume, sizes}

-- the inodes are told, and have streams that keep their format
abbrev pub HaveStreams : Geometry → (ℕ → Option (List ℕ)) → List ℕ → Type 0
HaveStreams g m ids = AllByRecursion (λ id. IsSome (m id) × HasStream (sizes g) (contents m) id) ids

-- the blocks of the streams of inodes, array blocks not counted
abbrev pub streams_among : Volume → List ℕ → ℕ
streams_among v ids = sum_by (λ id. length (stream_blocks v id)) ids
