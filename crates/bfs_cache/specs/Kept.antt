-- The blocks that a cache keeps.
use Rattle.std.specs.Prelude.{ℕ, ◌+◌, ◌-◌, ◌^◌, min, nat_eq, List, ◌∷◌, take, Option}
use Rattle.std.specs.Map.{lookup, remove_entry}

-- at most `bound` blocks with their bytes, the one that was read last first, and how often no memory was found to keep one
pub record View : Type 0 where
  pub bound : ℕ
  pub kept : List (ℕ × List ℕ)
  pub unkept : ℕ

-- the bytes that are kept of a block
abbrev pub kept_of : List (ℕ × List ℕ) → ℕ → Option (List ℕ)
kept_of kept block = lookup (nat_eq block) kept

-- without a block
abbrev pub without : ℕ → List (ℕ × List ℕ) → List (ℕ × List ℕ)
without block kept = remove_entry (nat_eq block) kept

-- a block that was read stands first, and behind it the others in their order, as many as there is place for
abbrev pub with_first : ℕ → List ℕ → View → View
with_first block bytes c = record { bound = c.bound; kept = take c.bound ((block, bytes) ∷ without block c.kept); unkept = c.unkept }

-- a block was not kept for want of memory
abbrev pub counted : View → View
counted c = record { bound = c.bound; kept = c.kept; unkept = min (c.unkept + 1) (2 ^ 64 - 1) }
