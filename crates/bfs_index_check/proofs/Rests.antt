-- The pairs that are wanted still.
use Rattle.std.proofs.Common.{◌≡◌, ◌∙◌, ◌≤◌, ◌<◌, ◌+◌, ◌-◌, ℕ, zero, suc, List, [], ◌∷◌, ◌++◌, length, length-drop, take, drop, get_or, refl, sym, ap, subst, arith}
use Rattle.bfs_index.specs.declared.found.Pair as kept
use Rattle.std.proofs.lemmas.List.{drop_more, take_all}
use Rattle.bfs_index_check.specs.Compared.{Pair, pair_of, pairs_of, AreMet, IsNext}
use Rattle.bfs_index_check.proofs.Prefixes.{met_with_rest}

pub with_first : (rest : List kept.Pair) (first : kept.Pair) → 0 < length rest → first ≡ get_or rest 0 first → (more : List kept.Pair) × (rest ≡ first ∷ more)
with_first [] first h e = absurd (omega (arith, h))
with_first (x ∷ xs) first h e = (xs, ap (λ (k : kept.Pair). k ∷ xs) (sym e))

pub pairs_dropped : (n : ℕ) (wanted : List kept.Pair) → pairs_of (drop n wanted) ≡ drop n (pairs_of wanted)
pairs_dropped n [] = nothing n
  where
    nothing : (n : ℕ) → pairs_of (drop n []) ≡ drop n []
    nothing zero = refl
    nothing (suc n) = refl
pairs_dropped zero (x ∷ xs) = refl
pairs_dropped (suc n) (x ∷ xs) = pairs_dropped n xs

module _ (rest : List kept.Pair) (first : kept.Pair) (some : 0 < length rest) (item : first ≡ get_or rest 0 first) where
  pub pairs_begin : (more : List Pair) × (pairs_of rest ≡ pair_of first ∷ more)
  pairs_begin = let w = with_first rest first some item in (pairs_of w.0, ap pairs_of w.1)

  pub is_next : (p : Pair) → pair_of first ≡ p → IsNext (pairs_of rest) p
  is_next p same = let b = pairs_begin in (b.0, b.1 ∙ ap (λ (k : Pair). k ∷ b.0) same)

pub none_begin : (rest : List kept.Pair) → length rest ≡ 0 → pairs_of rest ≡ []
none_begin [] h = refl
none_begin (x ∷ xs) h = absurd (omega (arith, h))

pub lengths : (wanted : List kept.Pair) → length (pairs_of wanted) ≡ length wanted
lengths [] = refl
lengths (x ∷ xs) = let e = lengths xs in omega (arith, e)

-- where the first pairs are these, and one more is wanted, it stands behind them
module _ (wanted : List kept.Pair) (at : ℕ) (r : kept.Pair) (inside : at < length wanted) (item : r ≡ get_or wanted at r) where
  pub wanted_from : (met : List Pair) → AreMet (pairs_of wanted) at met → (more : List Pair) × (pairs_of wanted ≡ met ++ (pair_of r ∷ more))
  wanted_from met are =
      let rest : drop at wanted ≡ r ∷ drop (at + 1) wanted = drop_more wanted at r inside ∙ ap (λ (k : kept.Pair). k ∷ drop (at + 1) wanted) (sym item) in
      (pairs_of (drop (at + 1) wanted), sym (met_with_rest (pairs_of wanted) at met are) ∙ ap (λ (ps : List Pair). met ++ ps) (sym (pairs_dropped at wanted) ∙ ap pairs_of rest))

-- all of a list from a place on
whole : (n : ℕ) (wanted : List kept.Pair) → take (length wanted - n) (drop n wanted) ≡ drop n wanted
whole n wanted = let long = length-drop n wanted in take_all (length wanted - n) (drop n wanted) (omega (arith, long))

pub rest_pairs : (n : ℕ) (wanted : List kept.Pair) → pairs_of (take (length wanted - n) (drop n wanted)) ≡ drop n (pairs_of wanted)
rest_pairs n wanted = ap pairs_of (whole n wanted) ∙ pairs_dropped n wanted

-- where a pair is wanted still, the place behind it is no further than the end
pub next_inside : (n : ℕ) (wanted : List kept.Pair) (p : Pair) → IsNext (drop n (pairs_of wanted)) p → n + 1 ≤ length wanted
next_inside n wanted p now =
    let long = length-drop n (pairs_of wanted) in
    let all = lengths wanted in
    let some = one_more p now.0 in
    let same = ap length now.1 in
    omega (arith, long, all, some, same)
  where
    one_more : (x : Pair) (ys : List Pair) → length (x ∷ ys) ≡ 1 + length ys
    one_more x ys = omega arith

pub subst₃ : {A B C : Type 0} (P : A → B → C → Type 0) {a a' : A} {b b' : B} {c c' : C} → a ≡ a' → b ≡ b' → c ≡ c' → P a b c → P a' b' c'
subst₃ P {a = a} {a' = a'} {b = b} {b' = b'} {c = c} {c' = c'} e f g h = subst (λ x. P a' b' x) g (subst (λ x. P a' x c) f (subst (λ x. P x b c) e h))
