-- What is known of the free space beside the bits, when runs are taken and become free again.
use Rattle.std.specs.Prelude.{◌≤◌, ℕ, ◌+◌, ◌-◌, min, max, List, [], ◌∷◌, ◌==◌, nat_le, nat_lt, if◌then◌else◌}
use Rattle.bfs_bitmap.specs.declared.tally.Tally.{Tally}
use Rattle.bfs_bitmap.specs.declared.given.Given.{Given}
use Rattle.bfs_bitmap.specs.Givens.{is_left}

-- with so many used blocks, before any search
abbrev pub first_tally : ℕ → Tally
first_tally used = record { low = 0; used = used; wide = 0; wide_low = 0 }

-- the places lie in so many blocks, and no more are used
pub record IsWithin (blocks : ℕ) (t : Tally) : Type 0 where
  pub low : t.low ≤ blocks
  pub used : t.used ≤ blocks
  pub wide_low : t.wide_low ≤ blocks

-- where the lowest free run of so many blocks may begin
abbrev pub place_for : ℕ → Tally → ℕ
place_for wanted t = if nat_le t.wide wanted then max t.low t.wide_low else t.low

-- After a run was taken: its blocks are used; where nothing was free before it, nothing is free up to its end; and no free
-- run of as many blocks as were wanted begins before its end.
abbrev pub raised : ℕ → ℕ → ℕ → ℕ → ℕ → Tally → Tally
raised wanted first len low blocks t = record {
  low = if low == first then first + len else low;
  used = min (t.used + len) blocks;
  wide = if nat_lt 1 wanted then wanted else t.wide;
  wide_low = if nat_lt 1 wanted then first + len else t.wide_low;
}

-- After a run became free that begins with a block: this may be free now, and a run of `wide` blocks may end in it.
abbrev pub lowered : ℕ → Tally → Tally
lowered first t = record t { low = min t.low first; wide_low = min t.wide_low (first - (t.wide - 1)) }

-- after those became free whose group has left the log
abbrev pub lowered_by : ℕ → List Given → Tally → Tally
lowered_by group [] t = t
lowered_by group (g ∷ gs) t = lowered_by group gs (if is_left group g then lowered g.first t else t)
