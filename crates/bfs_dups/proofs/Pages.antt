-- What pages of fragments and duplicate pages are since they were written.
use Rattle.std.proofs.Common.{◌≡◌, ◌≢◌, ◌⊎◌, ◌≤◌, ◌<◌, ◌+◌, ◌*◌, ℕ, List, Bool, true, false, nat_lt, inl, inr, refl, ap, ◌∙◌, arith}
use Rattle.bfs_values.specs.Values.{IsFragment, fragment_count, fragment_numbers, IsDuplicates, page_count, page_numbers, numbers_from, is_ascending}
use Rattle.bfs_dups.specs.Slots.{SameBut}
use Rattle.bfs_dups.proofs.Moved.{kept-numbers}

pub filled : (page : List ℕ) (i n : ℕ) (ns : List ℕ) → i < 16 → 1 ≤ n → n ≤ 7 → fragment_count page i ≡ n → numbers_from page (64 * i + 8) n ≡ ns → is_ascending ns ≡ true → IsFragment page i × (fragment_numbers page i ≡ ns)
filled page i n ns inside some fits count numbers asc =
    let are : fragment_numbers page i ≡ ns = ap (numbers_from page (64 * i + 8)) count ∙ numbers in
    (record { inside = inside; some = omega (arith, count, some); fits = omega (arith, count, fits); ascend = ap is_ascending are ∙ asc }, are)

pub paged : (page : List ℕ) (n : ℕ) (ns : List ℕ) → 1 ≤ n → n ≤ 125 → page_count page ≡ n → numbers_from page 24 n ≡ ns → is_ascending ns ≡ true → IsDuplicates page × (page_numbers page ≡ ns)
paged page n ns some fits count numbers asc =
    let are : page_numbers page ≡ ns = ap (numbers_from page 24) count ∙ numbers in
    (record { some = omega (arith, count, some); fits = omega (arith, count, fits); ascend = ap is_ascending are ∙ asc }, are)

apart : (j i : ℕ) → j ≢ i → (j < i) ⊎ (i < j)
apart j i n = by_test (nat_lt j i) refl
  where
    lt_is : (a b : ℕ) → nat_lt a b ≡ true → a < b
    lt_is a b e = grind (arith, e)

    lt_no : (a b : ℕ) → nat_lt a b ≡ false → b ≤ a
    lt_no a b e = grind (arith, e)

    more : (a b : ℕ) → b ≤ a → a ≢ b → b < a
    more a b l n = grind (arith, l, n)

    by_test : (c : Bool) → nat_lt j i ≡ c → (j < i) ⊎ (i < j)
    by_test true e = inl (lt_is j i e)
    by_test false e = inr (more j i (lt_no j i e) n)

-- the other fragments of a page
pub other-count : (old new : List ℕ) (i j : ℕ) → SameBut old new (64 * i) (64 * i + 64) → j ≢ i → fragment_count new j ≡ fragment_count old j
other-count old new i j s n = s (64 * j) (by_side (apart j i n))
  where
    by_side : (j < i) ⊎ (i < j) → (64 * j + 8 ≤ 64 * i) ⊎ (64 * i + 64 ≤ 64 * j)
    by_side (inl l) = inl (omega (arith, l))
    by_side (inr l) = inr (omega (arith, l))

pub other-numbers : (old new : List ℕ) (i j : ℕ) → SameBut old new (64 * i) (64 * i + 64) → j ≢ i → fragment_count old j ≤ 7 → fragment_numbers new j ≡ fragment_numbers old j
other-numbers old new i j s n f =
    ap (numbers_from new (64 * j + 8)) (other-count old new i j s n) ∙ kept-numbers old new (64 * i) (64 * i + 64) (64 * j + 8) (fragment_count old j) s (by_side (apart j i n))
  where
    by_side : (j < i) ⊎ (i < j) → (64 * j + 8 + 8 * fragment_count old j ≤ 64 * i) ⊎ (64 * i + 64 ≤ 64 * j + 8)
    by_side (inl l) = inl (omega (arith, l, f))
    by_side (inr l) = inr (omega (arith, l))

pub other-fragment : (old new : List ℕ) (i j : ℕ) → SameBut old new (64 * i) (64 * i + 64) → j ≢ i → IsFragment old j → IsFragment new j
other-fragment old new i j s n f =
    let c = other-count old new i j s n in record {
      inside = f.inside;
      some = omega (arith, c, f.some);
      fits = omega (arith, c, f.fits);
      ascend = ap is_ascending (other-numbers old new i j s n f.fits) ∙ f.ascend;
    }
