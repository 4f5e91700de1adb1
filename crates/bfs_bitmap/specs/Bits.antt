-- Bits in a list of bytes, the lowest bit of a byte first.
use Rattle.std.specs.Prelude.{◌≡◌, ◌≤◌, ◌<◌, ℕ, ◌+◌, ◌/◌, ◌%◌, List, get_or, Bool, not, ◌==◌, ◌&&◌, nat_le, nat_lt, if◌then◌else◌}
use Rattle.std.specs.Int.{bit_at}

-- the bit with this number: 0 or 1
unfoldable pub bit_of : List ℕ → ℕ → ℕ
bit_of bytes i = bit_at (get_or bytes (i / 8) 0) (i % 8)

-- is the bit 0?
abbrev pub is_clear : List ℕ → ℕ → Bool
is_clear bytes i = bit_of bytes i == 0

-- is the number one of those from `first` on, so many?
abbrev pub in_run : ℕ → ℕ → ℕ → Bool
in_run first len k = nat_le first k && nat_lt k (first + len)

-- the bits between two places are so, and no others change
abbrev pub Fills : ℕ → ℕ → ℕ → List ℕ → List ℕ → Type 0
Fills from to bit old new = (k : ℕ) → bit_of new k ≡ (if nat_le from k && nat_lt k to then bit else bit_of old k)

-- from one place on, all bits up to the second are set, or all are clear, and the bit there isn't
pub record IsFirst (bytes : List ℕ) (from to : ℕ) (clear : Bool) (at : ℕ) : Type 0 where
  pub from_on : from ≤ at
  pub up_to : at ≤ to
  pub before : (k : ℕ) → from ≤ k → k < at → is_clear bytes k ≡ not clear
  pub here : at < to → is_clear bytes at ≡ clear
