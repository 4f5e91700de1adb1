-- How a bitmap and what is claimed differ.
use Rattle.std.specs.Prelude.{◌≡◌, ◌≤◌, ◌<◌, ◌+◌, ◌*◌, ℕ, List, Bool, true, false, not, ◌==◌, Option, IsSome}
use Rattle.bfs_bitmap.specs.Bits.{is_clear}
use Rattle.bfs_bitmap.specs.Runs.{marked}
use Rattle.bfs_txn.specs.Faults.{Counts, IsCauseOf}
use Rattle.bfs_claims.specs.Claims.{Claimed, is_claimed}
use Rattle.bfs_bitmap_check.specs.declared.fault.BitFault.{BitFault}
use Rattle.bfs_bitmap_check.specs.declared.fault.BitFault.TheVariants.{Unset, Extra, Block}

-- the bits of two lists of bytes are the same up to this one, which, if it is below the last, differs
pub record IsFirstDifference (one other : List ℕ) (to at : ℕ) : Type 0 where
  pub up_to : at ≤ to
  pub same : (i : ℕ) → i < at → is_clear one i ≡ is_clear other i
  pub here : at < to → is_clear one at ≡ not (is_clear other at)

-- each block of a bitmap with so many bits a block is told
abbrev pub IsBitmapTold : ℕ → (ℕ → Option (List ℕ)) → ℕ → Type 0
IsBitmapTold bits m blocks = (j : ℕ) → bits * j < blocks → IsSome (m (1 + j))

-- is the bit of a block set?
abbrev pub is_set : ℕ → (ℕ → Option (List ℕ)) → ℕ → Bool
is_set bits m k = not (marked bits m k == 0)

-- between two blocks a bit is set just where its block is claimed
abbrev pub AreSameIn : ℕ → (ℕ → Option (List ℕ)) → Claimed → ℕ → ℕ → Type 0
AreSameIn bits m c from to = (k : ℕ) → from ≤ k → k < to → is_set bits m k ≡ is_claimed c k

-- from a block on this is the first that differs
pub record Differs (bits : ℕ) (m : ℕ → Option (List ℕ)) (c : Claimed) (from block : ℕ) (claimed : Bool) : Type 0 where
  pub from_on : from ≤ block
  pub inside : block < c.blocks
  pub same : AreSameIn bits m c from block
  pub claim : is_claimed c block ≡ claimed
  pub bit : is_set bits m block ≡ not claimed

abbrev pub IsFirstIn : ℕ → (ℕ → Option (List ℕ)) → Claimed → ℕ → BitFault → Type 0
IsFirstIn bits m c from (Unset block) = Differs bits m c from block true
IsFirstIn bits m c from (Extra block) = Differs bits m c from block false
IsFirstIn bits m c from (Block fault) = Unit {0}

-- a block that couldn't be had has its cause
abbrev pub IsBitCause : Counts → Counts → BitFault → Type 0
IsBitCause old new (Unset block) = Unit {0}
IsBitCause old new (Extra block) = Unit {0}
IsBitCause old new (Block fault) = IsCauseOf old new fault
