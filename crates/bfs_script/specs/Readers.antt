-- The sessions that hold their last piece for reading, as a list.
use Rattle.std.specs.Prelude.{◌≡◌, ℕ, List, Bool, not, ◌==◌, if◌then◌else◌}
use Rattle.std.specs.List.{filter, list_any}

abbrev pub reads_in : List ℕ → ℕ → Bool
reads_in readers session = list_any (λ reader. reader == session) readers

abbrev pub without : ℕ → List ℕ → List ℕ
without session readers = filter (λ reader. not (reader == session)) readers

-- of this session it is noted whether it reads, and of the others what was noted before
abbrev pub IsNoted : ℕ → Bool → List ℕ → List ℕ → Type 0
IsNoted session reads old new = (s : ℕ) → reads_in new s ≡ (if s == session then reads else reads_in old s)
