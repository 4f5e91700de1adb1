-- What is told of a volume whose streams are read, and causes.
use Rattle.std.specs.Prelude.{◌<◌, ℕ, List, Option, IsSome}
use Rattle.bfs_stream.specs.Sizes.{Sizes}

-- each block of the volume is told
abbrev pub IsAllTold : Sizes → (ℕ → Option (List ℕ)) → Type 0
IsAllTold s m = (k : ℕ) → k < s.blocks → IsSome (m k)
