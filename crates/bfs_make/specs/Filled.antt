-- Bytes that are written into a stream which has none yet.
use Rattle.std.specs.Prelude.{◌≡◌, ℕ, ◌-◌, ◌*◌, List, ◌++◌, length, take, drop, replicate, Bool, Option}
use Rattle.std.specs.List.{flat_map}
use Rattle.bfs_base.specs.Lists.{Has}
use Rattle.bfs_stream.specs.Sizes.{Origin}
use Rattle.bfs_stream.specs.Places.{places_at}
use Rattle.bfs_stream.specs.Told.{contents}
use Rattle.bfs_stream_pages.specs.Steps.{IsToldTo, IsToldWhole}

-- the bytes of a block at a place, and a block that begins with them: zeros are behind
abbrev pub chunk : ℕ → List ℕ → ℕ → List ℕ
chunk size bytes at = take size (drop (size * at) bytes)

abbrev pub padded : ℕ → List ℕ → List ℕ
padded size part = part ++ replicate (size - length part) 0

-- The stream's blocks before a place are told now, and have the first of these bytes, as many as they hold.
pub record IsFilledTo (o : Origin) (m : ℕ → Option (List ℕ)) (bytes : List ℕ) (at : ℕ) (told : Option (ℕ → Option (List ℕ))) (old new : ℕ → Bool) : Type 0 where
  pub blocks : IsToldTo o m 0 at told old new
  pub long : (k : ℕ) → Has (take at (places_at o.sizes (contents m) o.id)) k → length (contents blocks.map k) ≡ o.sizes.block_size
  pub are : take (length bytes) (flat_map (contents blocks.map) (take at (places_at o.sizes (contents m) o.id))) ≡ take (o.sizes.block_size * at) bytes

-- All of the stream's blocks are told now, and have these bytes.
pub record IsFilled (o : Origin) (m : ℕ → Option (List ℕ)) (bytes : List ℕ) (told : Option (ℕ → Option (List ℕ))) (old new : ℕ → Bool) : Type 0 where
  pub blocks : IsToldWhole o m 0 told old new
  pub are : take (length bytes) (flat_map (contents blocks.map) (places_at o.sizes (contents m) o.id)) ≡ bytes
