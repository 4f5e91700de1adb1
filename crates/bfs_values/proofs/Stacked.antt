-- Numbers that stand one behind another: the first and the others.
use Rattle.std.proofs.Common.{◌≡◌, ◌≤◌, ◌<◌, ◌+◌, ◌*◌, ◌-◌, ℕ, zero, suc, List, [], ◌∷◌, ◌++◌, Bool, true, false, ◌&&◌, nat_lt, refl, ap, sym, ◌∙◌, subst, arith, append_assoc}
use Rattle.bfs_bytes.specs.Fields.{unsigned_at}
use Rattle.bfs_values.specs.Values.{numbers_from, is_ascending}

pub from-first : (page : List ℕ) (at i count : ℕ) → i < count → numbers_from page (at + 8 * i) (count - i) ≡ unsigned_at 8 page (at + 8 * i) ∷ numbers_from page (at + 8 * (i + 1)) (count - (i + 1))
from-first page at i count l =
    let n : count - i ≡ suc (count - (i + 1)) = omega (arith, l) in
    let m : at + 8 * i + 8 ≡ at + 8 * (i + 1) = omega arith in
    ap (λ k. numbers_from page (at + 8 * i) k) n ∙ ap (λ k. unsigned_at 8 page (at + 8 * i) ∷ numbers_from page k (count - (i + 1))) m

pub add-first : (page : List ℕ) (old now whole : List ℕ) (at i count : ℕ) → i < count → old ++ numbers_from page (at + 8 * i) (count - i) ≡ whole → now ≡ old ++ (unsigned_at 8 page (at + 8 * i) ∷ [])
    → now ++ numbers_from page (at + 8 * (i + 1)) (count - (i + 1)) ≡ whole
add-first page old now whole at i count l h n =
    ap (λ z. z ++ numbers_from page (at + 8 * (i + 1)) (count - (i + 1))) n ∙ append_assoc old (unsigned_at 8 page (at + 8 * i) ∷ []) (numbers_from page (at + 8 * (i + 1)) (count - (i + 1)))
    ∙ ap (λ z. old ++ z) (sym (from-first page at i count l)) ∙ h

pub ascend-first : (page : List ℕ) (at i count : ℕ) → i + 1 < count
    → is_ascending (numbers_from page (at + 8 * i) (count - i)) ≡ nat_lt (unsigned_at 8 page (at + 8 * i)) (unsigned_at 8 page (at + 8 * (i + 1))) && is_ascending (numbers_from page (at + 8 * (i + 1)) (count - (i + 1)))
ascend-first page at i count l =
    let f = from-first page at i count (omega (arith, l)) in
    let s = from-first page at (i + 1) count l in
    ap is_ascending (f ∙ ap (λ z. unsigned_at 8 page (at + 8 * i) ∷ z) s)
    ∙ ap (λ z. nat_lt (unsigned_at 8 page (at + 8 * i)) (unsigned_at 8 page (at + 8 * (i + 1))) && is_ascending z) (sym s)

pub ascend-short : (page : List ℕ) (at n : ℕ) → n ≤ 1 → is_ascending (numbers_from page at n) ≡ true
ascend-short page at zero l = refl
ascend-short page at (suc zero) l = refl
ascend-short page at (suc (suc n)) l = absurd (omega (arith, l))

lt_no : (a b : ℕ) → b ≤ a → nat_lt a b ≡ false
lt_no a b h = grind (arith, h)

lt_yes : (a b : ℕ) → a < b → nat_lt a b ≡ true
lt_yes a b h = grind (arith, h)

-- two numbers beside each other that don't ascend, and two that do
pub ascend-no : (page : List ℕ) (at i count x y : ℕ) (whole : Bool) → i + 1 < count → x ≡ unsigned_at 8 page (at + 8 * i) → y ≡ unsigned_at 8 page (at + 8 * (i + 1)) → y ≤ x → is_ascending (numbers_from page (at + 8 * i) (count - i)) ≡ whole → false ≡ whole
ascend-no page at i count x y whole l p q h s =
    let no : nat_lt (unsigned_at 8 page (at + 8 * i)) (unsigned_at 8 page (at + 8 * (i + 1))) ≡ false = lt_no _ _ (subst (λ z. z ≤ unsigned_at 8 page (at + 8 * i)) q (subst (λ z. y ≤ z) p h)) in
    sym (ascend-first page at i count l ∙ ap (λ b. b && is_ascending (numbers_from page (at + 8 * (i + 1)) (count - (i + 1)))) no) ∙ s

pub ascend-yes : (page : List ℕ) (at i count x y : ℕ) (whole : Bool) → i + 1 < count → x ≡ unsigned_at 8 page (at + 8 * i) → y ≡ unsigned_at 8 page (at + 8 * (i + 1)) → x < y → is_ascending (numbers_from page (at + 8 * i) (count - i)) ≡ whole
    → is_ascending (numbers_from page (at + 8 * (i + 1)) (count - (i + 1))) ≡ whole
ascend-yes page at i count x y whole l p q h s =
    let yes : nat_lt (unsigned_at 8 page (at + 8 * i)) (unsigned_at 8 page (at + 8 * (i + 1))) ≡ true = lt_yes _ _ (subst (λ z. unsigned_at 8 page (at + 8 * i) < z) q (subst (λ z. z < y) p h)) in
    sym (ascend-first page at i count l ∙ ap (λ b. b && is_ascending (numbers_from page (at + 8 * (i + 1)) (count - (i + 1)))) yes) ∙ s
