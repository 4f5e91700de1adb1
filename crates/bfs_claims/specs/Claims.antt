-- Which blocks are claimed: a bit for each, and how many there are.
use Rattle.std.specs.Prelude.{◌≡◌, ◌≤◌, ◌<◌, ℕ, zero, suc, ◌+◌, ◌/◌, List, length, Bool, true, false, not, if◌then◌else◌}
use Rattle.bfs_base.specs.Lists.{times}
use Rattle.bfs_bitmap.specs.Bits.{is_clear}

pub record Claimed : Type 0 where
  pub bits : List ℕ
  pub blocks : ℕ
  pub count : ℕ

-- is the block claimed?
abbrev pub is_claimed : Claimed → ℕ → Bool
is_claimed c k = not (is_clear c.bits k)

-- how many blocks below a number are claimed
abbrev pub claimed_below : List ℕ → ℕ → ℕ
claimed_below bits zero = 0
claimed_below bits (suc k) = (if is_clear bits k then 0 else 1) + claimed_below bits k

-- there is room for a bit of each block, none past them is set, and the number that is kept is that of the bits
pub record IsKept (c : Claimed) : Type 0 where
  pub few : c.blocks ≤ 4194304
  pub room : length c.bits ≡ (c.blocks + 7) / 8
  pub none_past : (k : ℕ) → c.blocks ≤ k → is_clear c.bits k ≡ true
  pub counted : c.count ≡ claimed_below c.bits c.blocks

-- The claimed blocks are those of a list, in which each stands once; and so many are kept as their number.
pub record AreClaimed (c : Claimed) (xs : List ℕ) : Type 0 where
  pub each : (k : ℕ) → times k xs ≡ (if is_claimed c k then 1 else 0)
  pub number : c.count ≡ length xs

-- of a run this is the first block that is claimed
pub record IsFirstClaimed (c : Claimed) (first len at : ℕ) : Type 0 where
  pub from_on : first ≤ at
  pub inside : at < first + len
  pub here : is_claimed c at ≡ true
  pub before : (k : ℕ) → first ≤ k → k < at → is_claimed c k ≡ false
