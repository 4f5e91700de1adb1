-- Passing time on a disk, and what a crash at a moment since an earlier one might have left.
use Rattle.std.specs.Prelude.{◌≡◌, ◌⊎◌, ◌≤◌, ◌+◌, ℕ, List, Option, IsSome, Result, OnOk}

-- One disk call. Time goes on by at most one, and by one at Ok where the disk tells what it holds.
-- A crash since t might have left what it might have left before, or an image of a moment during the call.
pub record Elapses {S T E : Type 0} (told : Option S) (result : Result T E) (before now : ℕ) (past since : ℕ → List ℕ → Type 0) (during : List ℕ → Type 0) : Type 0 where
  pub later : before ≤ now
  pub at_most_one : now ≤ before + 1
  pub one : IsSome told → OnOk result (now ≡ before + 1)
  pub nothing_else : (t : ℕ) (c : List ℕ) → t ≤ before → since t c → past t c ⊎ during c
  pub keeps : (t : ℕ) (c : List ℕ) → t ≤ before → past t c → since t c

-- Some disk calls. A crash since t might have left what it might have left before, or an image of a moment during the calls.
pub record Passed (before now : ℕ) (past since : ℕ → List ℕ → Type 0) (during : List ℕ → Type 0) : Type 0 where
  pub later : before ≤ now
  pub nothing_else : (t : ℕ) (c : List ℕ) → t ≤ before → since t c → past t c ⊎ during c
  pub keeps : (t : ℕ) (c : List ℕ) → t ≤ before → past t c → since t c
