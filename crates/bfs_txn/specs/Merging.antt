-- What is said of lists of pairs while a call's pairs are put among those of the open group.
use Rattle.std.specs.Prelude.{◌≡◌, ◌≢◌, ◌<◌, ◌≤◌, ◌+◌, ◌-◌, ℕ, suc, List, length, take, drop}
use Rattle.std.specs.List.Sorted.{IsPermutation}
use Rattle.bfs_txn.specs.Changed.{newest, number_at, Ascends, AscendsIn}

-- no block stands in both lists
abbrev pub AreApart : List (ℕ × List ℕ) → List (ℕ × List ℕ) → Type 0
AreApart ps qs = (i j : ℕ) → i < length ps → j < length qs → number_at ps i ≢ number_at qs j

-- The pairs before the mark ascend, and so do those from the mark up to `own`, which are of other blocks.
pub record AreSettled (mark own : ℕ) (ps : List (ℕ × List ℕ)) : Type 0 where
  pub from_on : mark ≤ own
  pub up_to : own ≤ length ps
  pub kept : AscendsIn ps 0 mark
  pub fresh : AscendsIn ps mark own
  pub apart : (i j : ℕ) → i < mark → mark ≤ j → j < own → number_at ps i ≢ number_at ps j

-- the pairs before the place are of blocks below the number, and no others
pub record IsCut (ps : List (ℕ × List ℕ)) (number at : ℕ) : Type 0 where
  pub up_to : at ≤ length ps
  pub below : (j : ℕ) → j < at → number_at ps j < number
  pub above : (j : ℕ) → at ≤ j → j < length ps → number ≤ number_at ps j

-- The second list has the first one's pairs, and reads as it does. Those before the place `at + half` are of blocks below
-- that place's, and those behind it of blocks above; both are two parts, of which each ascends and has none of the
-- other's blocks.
pub record IsParted (mid at half : ℕ) (old new : List (ℕ × List ℕ)) : Type 0 where
  pub up_to : at ≤ mid
  pub permutation : IsPermutation old new
  pub reads : (k : ℕ) → newest new k ≡ newest old k
  pub below : (i : ℕ) → i < at + half → number_at new i < number_at new (at + half)
  pub above : (i : ℕ) → at + half < i → i < length new → number_at new (at + half) < number_at new i
  pub front : Ascends (take at (take (at + half) new))
  pub front_back : Ascends (drop at (take (at + half) new))
  pub front_apart : AreApart (take at (take (at + half) new)) (drop at (take (at + half) new))
  pub back : Ascends (take (mid - at) (drop (suc (at + half)) new))
  pub back_back : Ascends (drop (mid - at) (drop (suc (at + half)) new))
  pub back_apart : AreApart (take (mid - at) (drop (suc (at + half)) new)) (drop (mid - at) (drop (suc (at + half)) new))
