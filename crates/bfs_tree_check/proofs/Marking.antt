-- Pages that are marked.
use Rattle.std.proofs.Common.{◌≡◌, ◌≢◌, ◌≤◌, ◌<◌, ◌+◌, ◌*◌, ◌/◌, ◌%◌, ℕ, zero, suc, List, [], ◌∷◌, length, get_or, replicate, Bool, true, false, cond, ◌&&◌, ◌==◌, refl, sym, ap, ◌∙◌, subst, arith}
use Rattle.std.specs.Prelude.{slice_set}
use Rattle.std.proofs.lemmas.Bool.{eqb-true, eqb-false, le-leb, eq-eqb, both_ways}
use Rattle.std.proofs.lemmas.List.{get_or-set_same, get_or-set_other}
use Rattle.bfs_base.specs.Lists.{times}
use Rattle.bfs_pages.specs.Answers.{IsChild}
use Rattle.bfs_pages.specs.Trees.{is_place, held}
use Rattle.bfs_tree_check.specs.Marked.{marked}

abbrev count_of : Bool → ℕ
count_of c = cond c 1 0

marked_is : (size x : ℕ) (marks : List Bool) → marked size marks x ≡ count_of (is_place size x && get_or marks (x / 1024) false)
unfolding marked
marked_is size x marks = refl

held_is : (size x : ℕ) → held size x ≡ count_of (is_place size x)
unfolding held
held_is size x = refl

pub place_low : (size x : ℕ) → is_place size x ≡ true → x + 1 ≤ size
place_low size x e = grind (arith, e)

place_mod : (size x : ℕ) → is_place size x ≡ true → x % 1024 ≡ 0
place_mod size x e = grind (arith, e)

place_at : (size x : ℕ) → x + 1 ≤ size → x % 1024 ≡ 0 → is_place size x ≡ true
place_at size x h m = ap (λ c. c && (x % 1024 == 0)) (le-leb (x + 1) size h) ∙ eq-eqb (x % 1024) 0 m

apart : (x y : ℕ) → x % 1024 ≡ 0 → y % 1024 ≡ 0 → x ≢ y → x / 1024 ≢ y / 1024
apart x y a b d e = d (omega (arith, a, b, e))

pub inside : (size at n : ℕ) → IsChild size at → size % 1024 ≡ 0 → n ≡ size / 1024 → at / 1024 < n
inside size at n child whole long = let low = place_low size at child.1 in let m = place_mod size at child.1 in omega (arith, low, m, whole, long)

pub is_marked : (size at : ℕ) (marks : List Bool) → IsChild size at → get_or marks (at / 1024) false ≡ true → marked size marks at ≡ 1
is_marked size at marks child e =
    marked_is size at marks ∙ ap (λ c. count_of (c && get_or marks (at / 1024) false)) child.1 ∙ ap count_of e

none_marked : (size at : ℕ) (marks : List Bool) → is_place size at ≡ true → get_or marks (at / 1024) false ≡ false → marked size marks at ≡ 0
none_marked size at marks place e =
    marked_is size at marks ∙ ap (λ c. count_of (c && get_or marks (at / 1024) false)) place ∙ ap count_of e

-- one page more is marked
pub marked_once : (size at x : ℕ) (marks : List Bool) → IsChild size at → size % 1024 ≡ 0 → length marks ≡ size / 1024 → get_or marks (at / 1024) false ≡ false
    → marked size (slice_set marks (at / 1024) true) x ≡ marked size marks x + times x (at ∷ [])
marked_once size at x marks child whole long free = by_test (at == x) refl
  where
    here : marked size (slice_set marks (at / 1024) true) at ≡ marked size marks at + 1
    here =
        let one = is_marked size at (slice_set marks (at / 1024) true) child (get_or-set_same marks (at / 1024) true false (inside size at (length marks) child whole long)) in
        let none = none_marked size at marks child.1 free in
        omega (arith, one, none)

    other : (at == x) ≡ false → marked size (slice_set marks (at / 1024) true) x ≡ marked size marks x
    other e = by_place (is_place size x) refl
      where
        by_place : (c : Bool) → is_place size x ≡ c → marked size (slice_set marks (at / 1024) true) x ≡ marked size marks x
        by_place true p =
            marked_is size x (slice_set marks (at / 1024) true)
            ∙ ap (λ c. count_of (is_place size x && c)) (get_or-set_other marks (at / 1024) (x / 1024) true false (apart x at (place_mod size x p) (place_mod size at child.1) (λ s. eqb-false at x e (sym s))))
            ∙ sym (marked_is size x marks)
        by_place false p =
            marked_is size x (slice_set marks (at / 1024) true)
            ∙ ap (λ c. count_of (c && get_or (slice_set marks (at / 1024) true) (x / 1024) false)) p
            ∙ sym (ap (λ c. count_of (c && get_or marks (x / 1024) false)) p)
            ∙ sym (marked_is size x marks)

    by_test : (c : Bool) → (at == x) ≡ c → marked size (slice_set marks (at / 1024) true) x ≡ marked size marks x + (count_of c + 0)
    by_test true e = subst (λ y. marked size (slice_set marks (at / 1024) true) y ≡ marked size marks y + 1) (eqb-true at x e) here
    by_test false e = let o = other e in omega (arith, o)

-- all pages are marked
pub all_marked : (size : ℕ) (marks : List Bool) → size % 1024 ≡ 0 → length marks ≡ size / 1024 → ((j : ℕ) → j < length marks → get_or marks j false ≡ true) → (x : ℕ) → marked size marks x ≡ held size x
all_marked size marks whole long all x = by_place (is_place size x) refl
  where
    by_place : (c : Bool) → is_place size x ≡ c → marked size marks x ≡ held size x
    by_place true p =
        let low = place_low size x p in
        let m = place_mod size x p in
        let within : x / 1024 < length marks = omega (arith, low, m, whole, long) in
        marked_is size x marks ∙ ap (λ c. count_of (is_place size x && c)) (all (x / 1024) within) ∙ ap (λ c. count_of (c && true)) p ∙ sym (ap count_of p) ∙ sym (held_is size x)
    by_place false p = marked_is size x marks ∙ ap (λ c. count_of (c && get_or marks (x / 1024) false)) p ∙ sym (ap count_of p) ∙ sym (held_is size x)

-- a page isn't
pub one_unmarked : (size i : ℕ) (marks : List Bool) → size % 1024 ≡ 0 → length marks ≡ size / 1024 → i < length marks → get_or marks i false ≡ false → (held size (i * 1024) ≡ 1) × (marked size marks (i * 1024) ≡ 0)
one_unmarked size i marks whole long low e =
    let place = place_at size (i * 1024) (omega (arith, low, whole, long)) (omega arith) in
    let back : i * 1024 / 1024 ≡ i = omega arith in
    (held_is size (i * 1024) ∙ ap count_of place, none_marked size (i * 1024) marks place (ap (λ k. get_or marks k false) back ∙ e))

pub marked_most : (size x : ℕ) (marks : List Bool) → marked size marks x ≤ held size x
marked_most size x marks = by_place (is_place size x) refl
  where
    most : (c : Bool) → count_of (true && c) ≤ 1
    most true = omega arith
    most false = omega arith

    by_place : (c : Bool) → is_place size x ≡ c → marked size marks x ≤ held size x
    by_place true p =
        let m = marked_is size x marks ∙ ap (λ c. count_of (c && get_or marks (x / 1024) false)) p in
        let h : held size x ≡ 1 = held_is size x ∙ ap count_of p in
        let w = most (get_or marks (x / 1024) false) in
        omega (arith, m, h, w)
    by_place false p =
        let m : marked size marks x ≡ 0 = marked_is size x marks ∙ ap (λ c. count_of (c && get_or marks (x / 1024) false)) p in
        omega (arith, m)

-- none but the first
none_there : (k j : ℕ) → get_or (replicate k false) j false ≡ false
none_there zero j = refl
none_there (suc k) zero = refl
none_there (suc k) (suc j) = none_there k j

pub new_marked : (size x k : ℕ) → size % 1024 ≡ 0 → 1 ≤ size / 1024 → marked size (true ∷ replicate k false) x ≡ times x (0 ∷ [])
new_marked size x k whole some = by_place (is_place size x) refl
  where
    no_times : (y : ℕ) → y ≢ 0 → times y (0 ∷ []) ≡ 0
    no_times y e = grind (arith, e)

    at_first : (j : ℕ) → x % 1024 ≡ 0 → x / 1024 ≡ j → count_of (get_or (true ∷ replicate k false) j false) ≡ times x (0 ∷ [])
    at_first zero m e = let z : 0 ≡ x = omega (arith, m, e) in subst (λ y. 1 ≡ times y (0 ∷ [])) z refl
    at_first (suc j) m e = ap count_of (none_there k j) ∙ sym (no_times x (λ z. omega (arith, e, z)))

    no_place : is_place size x ≡ false → x ≢ 0
    no_place p z = both_ways (is_place size x) p (place_at size x (omega (arith, whole, some, z)) (omega (arith, z)))

    by_place : (c : Bool) → is_place size x ≡ c → marked size (true ∷ replicate k false) x ≡ times x (0 ∷ [])
    by_place true p =
        marked_is size x (true ∷ replicate k false) ∙ ap (λ c. count_of (c && get_or (true ∷ replicate k false) (x / 1024) false)) p ∙ at_first (x / 1024) (place_mod size x p) refl
    by_place false p =
        marked_is size x (true ∷ replicate k false) ∙ ap (λ c. count_of (c && get_or (true ∷ replicate k false) (x / 1024) false)) p ∙ sym (no_times x (no_place p))
