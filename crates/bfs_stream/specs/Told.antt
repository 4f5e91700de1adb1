-- Streams of a volume that is told.
use Rattle.std.specs.Prelude.{ℕ, List, [], Option, IsSome, unwrap_or}
use Rattle.bfs_base.specs.Lists.{Has}
use Rattle.bfs_stream.specs.Sizes.{Origin}
use Rattle.bfs_stream.specs.Places.{frame_at, HasStream}

-- the bytes of a block, or none
abbrev pub contents : (ℕ → Option (List ℕ)) → ℕ → List ℕ
contents m k = unwrap_or (m k) []

-- each of these blocks is told
abbrev pub AreTold : (ℕ → Option (List ℕ)) → List ℕ → Type 0
AreTold m xs = (k : ℕ) → Has xs k → IsSome (m k)

-- the inode and the array blocks are told, and the stream keeps its format
pub record Stands (o : Origin) (m : ℕ → Option (List ℕ)) : Type 0 where
  pub told : AreTold m (frame_at o.sizes (contents m) o.id)
  pub sound : HasStream o.sizes (contents m) o.id
