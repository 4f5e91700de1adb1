-- How far a walk over the entries of a log has come.
use Rattle.std.specs.Prelude.{◌≡◌, ℕ, ◌+◌, List, [], ◌∷◌, length}
use Rattle.bfs_super.specs.declared.geometry.Geometry.{Geometry}
use Rattle.bfs_log.specs.Ring.{next_place}
use Rattle.bfs_log.specs.Entry.{IsEntry}
use Rattle.bfs_log.specs.Replay.{Home, homes_at, place_in, logged}

-- from one place to the next there are these entries of the log that ends at `end`
abbrev pub Reaches : Geometry → (ℕ → List ℕ) → ℕ → ℕ → ℕ → List (List Home) → Type 0
Reaches g f end at stop [] = at ≡ stop
Reaches g f end at stop (homes ∷ entries) =
    IsEntry (place_in g f at end) (logged g f at) × (homes ≡ homes_at g f at) × Reaches g f end (next_place at (1 + length homes) g.log.len) stop entries

-- blocks, each with its bytes
abbrev pub homes_with : List ℕ → List (List ℕ) → List Home
homes_with [] bytes = []
homes_with (b ∷ blocks) [] = []
homes_with (b ∷ blocks) (bytes ∷ more) = record { place = b; bytes = bytes } ∷ homes_with blocks more
