-- Blocks of zeros, one after the other.
use Rattle.std.proofs.Common.{◌≡◌, ◌≤◌, ◌<◌, ◌+◌, ◌∙◌, ◌⊎◌, inl, inr, ℕ, List, replicate, Bool, true, false, ◌||◌, cond, Option, Some, refl, ap, arith}
use Rattle.std.specs.Prelude.{◌==◌}
use Rattle.std.specs.Option.{option_map}
use Rattle.bfs_base.specs.Lists.{times, Has}
use Rattle.bfs_bytes.specs.declared.Run.{Run}
use Rattle.bfs_txn.specs.Told.{with_block, with_number}
use Rattle.bfs_stream.specs.Sizes.{Sizes, first_block}
use Rattle.bfs_stream.specs.Places.{run_blocks}
use Rattle.bfs_stream.specs.Grown.{HasCleared}
use Rattle.bfs_stream.proofs.Arrays.{has_counted}
use Rattle.bfs_stream.proofs.Taking.{counted_in, where_is}

-- so many blocks from the first on are zeros
pub record IsCleared (first n size : ℕ) (m : ℕ → Option (List ℕ)) (told : Option (ℕ → Option (List ℕ))) : Type 0 where
  pub map : ℕ → Option (List ℕ)
  pub is : told ≡ Some map
  pub zeros : (k : ℕ) → first ≤ k → k < first + n → map k ≡ Some (replicate size 0)
  pub others : (k : ℕ) → (k < first) ⊎ (first + n ≤ k) → map k ≡ m k

pub cleared_none : (first size : ℕ) (m : ℕ → Option (List ℕ)) (told : Option (ℕ → Option (List ℕ))) → told ≡ Some m → IsCleared first 0 size m told
cleared_none first size m told is = record { map = m; is = is; zeros = λ k low high. absurd (omega arith); others = λ k out. refl }

same_number : (k x : ℕ) → k ≡ x → (k == x) ≡ true
same_number k x e = grind (arith, e)

other_number : (k x : ℕ) → (k ≡ x → ⊥) → (k == x) ≡ false
other_number k x e = grind (arith, e)

pub cleared_more : (first n size : ℕ) (m : ℕ → Option (List ℕ)) (told next : Option (ℕ → Option (List ℕ))) (bytes : List ℕ) → IsCleared first n size m told → bytes ≡ replicate size 0 → next ≡ option_map (with_block (first + n) bytes) told → IsCleared first (n + 1) size m next
cleared_more first n size m told next bytes so_far zeros is = record {
  map = with_block (first + n) bytes so_far.map;
  is = is ∙ ap (option_map (with_block (first + n) bytes)) so_far.is;
  zeros = λ k low high. at k low high (k == first + n) refl;
  others = λ k out. ap (λ (b : Bool). cond b (Some bytes) (so_far.map k)) (other_number k (first + n) (apart k out)) ∙ so_far.others k (less k out);
}
  where
    at : (k : ℕ) → first ≤ k → k < first + (n + 1) → (b : Bool) → (k == first + n) ≡ b → with_block (first + n) bytes so_far.map k ≡ Some (replicate size 0)
    at k low high true e = ap (λ (b : Bool). cond b (Some bytes) (so_far.map k)) e ∙ ap Some zeros
    at k low high false e = ap (λ (b : Bool). cond b (Some bytes) (so_far.map k)) e ∙ so_far.zeros k low (before e)
      where
        before : (k == first + n) ≡ false → k < first + n
        before f = grind (arith, f, high)

    apart : (k : ℕ) → (k < first) ⊎ (first + (n + 1) ≤ k) → k ≡ first + n → ⊥
    apart k (inl low) e = omega (arith, low, e)
    apart k (inr high) e = omega (arith, high, e)

    less : (k : ℕ) → (k < first) ⊎ (first + (n + 1) ≤ k) → (k < first) ⊎ (first + n ≤ k)
    less k (inl low) = inl low
    less k (inr high) = inr (omega (arith, high))

pub is_cleared : (s : Sizes) (array : Run) (first n : ℕ) (m : ℕ → Option (List ℕ)) (told : Option (ℕ → Option (List ℕ))) → first ≡ first_block s array → n ≡ array.len → IsCleared first n s.block_size m told → HasCleared s array m told
is_cleared s array first n m told e f cleared = record {
  map = cleared.map;
  is = cleared.is;
  zeros = λ k has. let in_it = counted_in (first_block s array) array.len k has in cleared.zeros k (omega (arith, in_it.0, e)) (omega (arith, in_it.1, e, f));
  others = λ k none. cleared.others k (by_place k none (where_is first n k));
}
  where
    by_place : (k : ℕ) → times k (run_blocks s array) ≡ 0 → ((first ≤ k) × (k < first + n)) ⊎ ((k < first) ⊎ (first + n ≤ k)) → (k < first) ⊎ (first + n ≤ k)
    by_place k none (inl h) = let some : 0 < times k (run_blocks s array) = has_counted (first_block s array) array.len k (omega (arith, h.0, e)) (omega (arith, h.1, e, f)) in absurd (omega (arith, some, none))
    by_place k none (inr out) = out

-- so many blocks from the first on are changed, and one more
pub filled_more : (first n : ℕ) (a b : ℕ → Bool) → ((k : ℕ) → first ≤ k → k < first + n → a k ≡ true) → ((k : ℕ) → b k ≡ with_number (first + n) a k) → (k : ℕ) → first ≤ k → k < first + (n + 1) → b k ≡ true
filled_more first n a b before set k low high = set k ∙ by_test (k == first + n) refl
  where
    by_test : (t : Bool) → (k == first + n) ≡ t → ((k == first + n) || a k) ≡ true
    by_test true e = ap (λ (t : Bool). t || a k) e
    by_test false e = ap (λ (t : Bool). t || a k) e ∙ before k low (less e)
      where
        less : (k == first + n) ≡ false → k < first + n
        less f = grind (arith, f, high)

pub is_filled : (s : Sizes) (array : Run) (first n : ℕ) (b : ℕ → Bool) → first ≡ first_block s array → n ≡ array.len → ((k : ℕ) → first ≤ k → k < first + n → b k ≡ true) → (k : ℕ) → Has (run_blocks s array) k → b k ≡ true
is_filled s array first n b e f filled k has = let in_it = counted_in (first_block s array) array.len k has in filled k (omega (arith, in_it.0, e)) (omega (arith, in_it.1, e, f))
