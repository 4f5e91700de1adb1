-- What is known of the bytes of files, as a finite map.
use Rattle.std.specs.Prelude.{ℕ, Bool, true, not, ◌&&◌, ◌==◌, ◌-◌, nat_le, nat_lt, if◌then◌else◌, length, slice_index, List}
use Rattle.std.specs.FinMap.{from_entries}
use Rattle.bfs_tree.specs.States.{Known, is_in}
use Rattle.bfs_known.specs.declared.known.Places.{Places}
use Rattle.bfs_known.specs.declared.known.Places.TheVariants.{All, From, Piece}

-- the entries of a map as what is known
abbrev pub known_of : List ((ℕ × ℕ) × ℕ) → Known
known_of es = from_entries es

-- the place is one of these
abbrev pub is_among : Places → ℕ → Bool
is_among All place = true
is_among (From first) place = nat_le first place
is_among (Piece at count) place = nat_le at place && nat_lt (place - at) count

-- the place is not one of these of the file
abbrev pub stays : ℕ → Places → ℕ × ℕ → Bool
stays id places place = not (is_among places place.1 && (place.0 == id))

-- the place stands outside these bytes of the file from `at` on, or the byte there is this one
abbrev pub fits_at : ℕ → ℕ → List ℕ → (ℕ × ℕ) × ℕ → Bool
fits_at id at bytes known =
    if is_in id at (length bytes) known.0 then slice_index bytes (known.0.1 - at) == known.1 else true
