-- Runs that were given back.
use Rattle.std.specs.Prelude.{ℕ, ◌+◌, Bool, true, Some, unwrap_or, nat_le}
use Rattle.bfs_bitmap.specs.declared.given.Given.{Given}

-- the run with a group's number, if it has none yet
abbrev pub numbered : ℕ → Given → Given
numbered group g = record g { group = Some (unwrap_or g.group group) }

-- the run of a call that was kept
abbrev pub settled : Given → Given
settled g = record g { kept = true }

-- the run's group has left the log: it has a number, and that is at most this one
abbrev pub is_left : ℕ → Given → Bool
is_left group g = nat_le (unwrap_or g.group (group + 1)) group
