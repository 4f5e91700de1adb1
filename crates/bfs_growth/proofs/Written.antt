-- Which blocks a step of growth has changed.
use Rattle.std.proofs.Common.{◌≡◌, ◌<◌, ◌+◌, ◌∙◌, ◌⊎◌, inl, inr, ℕ, Bool, true, false, ◌||◌, refl, sym, ap, arith}
use Rattle.std.specs.Prelude.{◌==◌}
use Rattle.bfs_base.specs.Lists.{Has}
use Rattle.bfs_bytes.specs.declared.Run.{Run}
use Rattle.bfs_txn.specs.Told.{StaysChanged, with_number}
use Rattle.bfs_stream.specs.Sizes.{Sizes, IsInVolume, first_block}
use Rattle.bfs_stream.specs.Places.{run_blocks}
use Rattle.bfs_stream.proofs.Arrays.{has_counted}
use Rattle.bfs_stream.proofs.Writes.{number_set, run_low}

-- what was changed stays so where a block is set
pub set_stays : (x : ℕ) (a b : ℕ → Bool) → ((k : ℕ) → b k ≡ with_number x a k) → StaysChanged a b
set_stays x a b set k t = set k ∙ ap (λ (e : Bool). (k == x) || e) t ∙ or_true (k == x)
  where
    or_true : (e : Bool) → (e || true) ≡ true
    or_true true = refl
    or_true false = refl

-- one more block of an array was set
pub clear_written : (s : Sizes) (array : Run) (first i : ℕ) (a b c : ℕ → Bool) → first ≡ first_block s array → i < array.len → ((k : ℕ) → b k ≡ true → (a k ≡ true) ⊎ Has (run_blocks s array) k) → ((k : ℕ) → c k ≡ with_number (first + i) b k)
    → (k : ℕ) → c k ≡ true → (a k ≡ true) ⊎ Has (run_blocks s array) k
clear_written s array first i a b c first_is low before set k e = by_side (number_set (first + i) b k (sym (set k) ∙ e))
  where
    by_side : (b k ≡ true) ⊎ (k ≡ first + i) → (a k ≡ true) ⊎ Has (run_blocks s array) k
    by_side (inl h) = before k h
    by_side (inr is) = inr (has_counted (first_block s array) array.len k (omega (arith, is, first_is)) (omega (arith, is, first_is, low)))

-- blocks of an array in the volume lie in the volume
pub written_low : (s : Sizes) (array : Run) (a b : ℕ → Bool) → IsInVolume s array → ((k : ℕ) → b k ≡ true → (a k ≡ true) ⊎ Has (run_blocks s array) k) → (k : ℕ) → b k ≡ true → (a k ≡ true) ⊎ (k < s.blocks)
written_low s array a b inside h k e = by_side (h k e)
  where
    by_side : (a k ≡ true) ⊎ Has (run_blocks s array) k → (a k ≡ true) ⊎ (k < s.blocks)
    by_side (inl before) = inl before
    by_side (inr has) = inr (run_low s array k inside has)
