-- Where the bitmap of a volume differs from what is claimed, or from a list of blocks.
use Rattle.std.specs.Prelude.{◌≡◌, ◌↔◌, ◌<◌, ℕ, List, true, false}
use Rattle.bfs_base.specs.Lists.{Has}
use Rattle.bfs_sound.specs.Volumes.{Volume, IsMarked}
use Rattle.bfs_claims.specs.Claims.{Claimed, is_claimed}
use Rattle.bfs_bitmap_check.specs.declared.fault.BitFault.{BitFault}
use Rattle.bfs_bitmap_check.specs.declared.fault.BitFault.TheVariants.{Unset, Extra, Block}

-- each block below a number is marked just where it is claimed
abbrev pub AreMarkedBelow : Volume → Claimed → ℕ → Type 0
AreMarkedBelow v c n = (k : ℕ) → k < n → IsMarked v k ↔ (is_claimed c k ≡ true)

-- the first block that is claimed and not marked, or marked and not claimed
abbrev pub IsWrongBit : Volume → Claimed → BitFault → Type 0
IsWrongBit v c (Unset block) = (is_claimed c block ≡ true) × ¬ IsMarked v block × AreMarkedBelow v c block
IsWrongBit v c (Extra block) = IsMarked v block × (is_claimed c block ≡ false) × AreMarkedBelow v c block
IsWrongBit v c (Block fault) = Unit {0}

-- a block of a list that isn't marked, or a marked one that isn't in the list
abbrev pub IsMarkFault : Volume → List ℕ → BitFault → Type 0
IsMarkFault v xs (Unset block) = Has xs block × ¬ IsMarked v block
IsMarkFault v xs (Extra block) = IsMarked v block × ¬ Has xs block
IsMarkFault v xs (Block fault) = Unit {0}
