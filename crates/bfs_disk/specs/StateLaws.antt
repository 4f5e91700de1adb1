-- A disk whose sectors each have contents stays so over writes and barriers.
use Rattle.std.proofs.Common.{◌≡◌, inl, ⊎_elim, ℕ, zero, suc, ◌+◌, ◌-◌, ◌*◌, ◌/◌, ◌<◌, ◌≤◌, List, [], ◌∷◌, length, take, drop, refl, sym, ◌∙◌, ap, subst, arith, lit<, get_or, length-drop, nat_le, nat_lt}
use Rattle.std.proofs.lemmas.List.{length-take-le}
use Rattle.std.proofs.lemmas.Bool.{cond_both, and_parts, leb-true, ltb-true}
use Rattle.bfs_base.specs.Images.{sector, IsBytes}
use Rattle.bfs_disk.specs.State.{State, IsOneOf, Filled, newest, written, settled, names}

-- a part of bytes is bytes
pub bytes_taken : (n : ℕ) (xs : List ℕ) → IsBytes xs → IsBytes (take n xs)
bytes_taken zero xs fits i = lit< tt
bytes_taken (suc n) [] fits i = fits i
bytes_taken (suc n) (x ∷ xs) fits zero = fits 0
bytes_taken (suc n) (x ∷ xs) fits (suc i) = bytes_taken n xs (λ j. fits (suc j)) i

pub bytes_dropped : (n : ℕ) (xs : List ℕ) → IsBytes xs → IsBytes (drop n xs)
bytes_dropped zero xs fits i = fits i
bytes_dropped (suc n) [] fits i = fits i
bytes_dropped (suc n) (x ∷ xs) fits i = bytes_dropped n xs (λ j. fits (suc j)) i

pub bytes_sector : (k : ℕ) (xs : List ℕ) → IsBytes xs → IsBytes (sector k xs)
bytes_sector k xs fits = bytes_taken 512 (drop (512 * k) xs) (bytes_dropped (512 * k) xs fits)

first_is : (xs : List (List ℕ)) (c : List ℕ) → IsOneOf (take 1 xs) c → c ≡ get_or xs 0 []
first_is [] c one = absurd one
first_is (x ∷ xs) c one = ⊎_elim (λ e. e) (λ none. absurd none) one

pub newest_one : (xs : List (List ℕ)) → 0 < length xs → IsOneOf xs (get_or xs 0 [])
newest_one [] some = absurd (omega arith)
newest_one (x ∷ xs) some = inl refl

pub newest_long : (s : State) (k : ℕ) → Filled s → k < s.size → length (newest s k) ≡ 512
newest_long s k whole lt = whole.long k lt (newest s k) (newest_one (s.contents k) (whole.some k lt))

pub filled_written : (s : State) (at : ℕ) (bytes : List ℕ) → Filled s → length bytes ≡ 512 * (length bytes / 512) → IsBytes bytes → Filled (written s at bytes)
filled_written s at bytes whole even small = record {
  some = λ k lt. cond_both (names at bytes k) (sector (k - at) bytes ∷ s.contents k) (s.contents k) (λ cs. 0 < length cs) (λ _. (let e : 0 < suc (length (s.contents k)) = omega arith in e)) (λ _. whole.some k lt);
  long = λ k lt. cond_both (names at bytes k) (sector (k - at) bytes ∷ s.contents k) (s.contents k) (λ cs. (c : List ℕ) → IsOneOf cs c → length c ≡ 512)
      (λ named c one. ⊎_elim (λ e.
      let low : at ≤ k = leb-true at k (and_parts (nat_le at k) (nat_lt k (at + length bytes / 512)) named).0 in
      let high : k < at + length bytes / 512 = ltb-true k (at + length bytes / 512) (and_parts (nat_le at k) (nat_lt k (at + length bytes / 512)) named).1 in
      ap length e ∙ length-take-le 512 (drop (512 * (k - at)) bytes) (omega (arith, even, low, high, length-drop (512 * (k - at)) bytes)))
      (λ was. whole.long k lt c was) one)
      (λ _. whole.long k lt);
  bytes = λ k lt. cond_both (names at bytes k) (sector (k - at) bytes ∷ s.contents k) (s.contents k) (λ cs. (c : List ℕ) → IsOneOf cs c → IsBytes c)
      (λ named c one. ⊎_elim (λ e. subst IsBytes (sym e) (bytes_sector (k - at) bytes small)) (λ was. whole.bytes k lt c was) one)
      (λ _. whole.bytes k lt);
}

first_kept : (xs : List (List ℕ)) → 0 < length xs → 0 < length (take 1 xs)
first_kept [] some = some
first_kept (x ∷ xs) some = omega arith

pub filled_settled : (s : State) → Filled s → Filled (settled s)
filled_settled s whole = record {
  some = λ k lt. first_kept (s.contents k) (whole.some k lt);
  long = λ k lt c one. ap length (first_is (s.contents k) c one) ∙ newest_long s k whole lt;
  bytes = λ k lt c one. subst IsBytes (sym (first_is (s.contents k) c one)) (whole.bytes k lt (newest s k) (newest_one (s.contents k) (whole.some k lt)));
}
