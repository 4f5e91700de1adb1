-- What holds of each element of a list that is written out, by a test that computes.
use Rattle.std.proofs.Common.{◌≡◌, ◌≤◌, ◌<◌, ◌+◌, ◌⊎◌, inl, inr, ℕ, ℤ, zero, suc, pos, negsuc, List, [], ◌∷◌, Some, None, Bool, true, false, cond, not, ◌&&◌, ◌||◌, refl, sym, subst, arith, length, ⊎_elim}
use Rattle.std.proofs.lemmas.Int.{ints}
use Rattle.std.proofs.lemmas.List.Sums.{sum_by-cons}
use Rattle.std.proofs.lemmas.Bool.{cond-true, cond-false, cases_Bool}
use Rattle.std.proofs.lemmas.Slice.Eq.{bytes_eq-Decides}
use Rattle.std.specs.Prelude.{◌==◌, ◌≤ℤ◌, nat_le, nat_lt, count_by, All, get_or}
use Rattle.std.specs.List.{AllByRecursion, list_all}
use Rattle.std.specs.Str.{bytes_eq}
use Rattle.std.specs.declared.cmp.Ordering.{Ordering}
use Rattle.std.specs.declared.cmp.Ordering.TheVariants.{Less, Equal, Greater}
use Rattle.std.specs.Ordering.{eq_by_cmp, is_eq, nat_cmp}
use Rattle.std.specs.FinMap.{find, IsAntisymmetric, slice_cmp-IsAntisymmetric, nat_cmp-IsAntisymmetric}
use Rattle.std.proofs.lemmas.List.Elements.{All-cons, All-nil}
use Rattle.bfs_base.specs.Keys.{text_cmp}
use Rattle.bfs_base.specs.Lists.{times, counted_from}

pub both : (a b : Bool) → (a && b) ≡ true → (a ≡ true) × (b ≡ true)
both true b e = (refl, e)
both false b e = absurd (let bad : false ≡ true = e in cc)

pub either : (a b : Bool) → (a || b) ≡ true → (a ≡ true) ⊎ (b ≡ true)
either true b e = inl refl
either false b e = inr e

pub not_true : (a : Bool) → not a ≡ true → a ≡ false
not_true true e = let bad : false ≡ true = e in cc
not_true false e = refl

pub low : (a b : ℕ) → nat_lt a b ≡ true → a < b
low a b e = grind (arith, e)

pub most : (a b : ℕ) → nat_le a b ≡ true → a ≤ b
most a b e = grind (arith, e)

pub same : (a b : ℕ) → (a == b) ≡ true → a ≡ b
same a b e = grind (arith, e)

-- each element passes a test
pub all_of : {X : Type 0} (test : X → Bool) (xs : List X) → list_all test xs ≡ true → AllByRecursion (λ x. test x ≡ true) xs
all_of test [] e = tt
all_of test (x ∷ xs) e = let p = both (test x) (list_all test xs) e in (p.0, all_of test xs p.1)

pub all_map : {X : Type 0} (P Q : X → Type 0) (xs : List X) → ((x : X) → P x → Q x) → AllByRecursion P xs → AllByRecursion Q xs
all_map P Q [] f all = tt
all_map P Q (x ∷ xs) f all = (f x all.0, all_map P Q xs f all.1)

pub all_by : {X : Type 0} (P : X → Type 0) (xs : List X) → AllByRecursion P xs → All P xs
all_by P [] all = All-nil P
all_by P (x ∷ xs) all = All-cons P x xs all.0 (all_by P xs all.1)

-- keys that tie are the same
tied : (o : Ordering) → is_eq o ≡ true → o ≡ Equal
tied Less e = let bad : false ≡ true = e in cc
tied Equal e = refl
tied Greater e = let bad : false ≡ true = e in cc

-- what holds of each entry holds of the one that is found
pub found_all : {K X : Type 0} {R : K → K → Ordering} → IsAntisymmetric R → (P : K → X → Type 0) (es : List (K × X)) → AllByRecursion (λ e. P e.0 e.1) es → (q : K) (x : X) → find R q es ≡ Some x → P q x
found_all one P [] all q x e = absurd (let bad : None ≡ Some x = e in cc)
found_all {R = R} one P (r ∷ es) all q x e =
    elim (eq_by_cmp R q r.0) as (λ b. eq_by_cmp R q r.0 ≡ b → cond b (Some r.1) (find R q es) ≡ Some x → P q x) [
      | true ↦ λ t is. let k : q ≡ r.0 = one q r.0 (tied (R q r.0) t) in let v : r.1 ≡ x = cc in subst (λ z. P z x) (sym k) (subst (P r.0) v all.0)
      | false ↦ λ t is. found_all one P es all.1 q x is
    ] refl e

pub text_one : IsAntisymmetric text_cmp
text_one = slice_cmp-IsAntisymmetric nat_cmp-IsAntisymmetric

pub number_one : IsAntisymmetric nat_cmp
number_one = nat_cmp-IsAntisymmetric

-- so many numbers from one on
pub counted_all : (test : ℕ → Bool) (first n : ℕ) → list_all test (counted_from first n) ≡ true → (k : ℕ) → first ≤ k → k < first + n → test k ≡ true
counted_all test first zero e k from to = absurd (omega (arith, from, to))
counted_all test first (suc n) e k from to =
    let p = both (test first) (list_all test (counted_from (suc first) n)) e in
    ⊎_elim (λ is. subst (λ j. test j ≡ true) (same first k is) p.0) (λ is. counted_all test (suc first) n p.1 k (differs is) (omega (arith, to))) (cases_Bool (first == k))
  where
    differs : (first == k) ≡ false → suc first ≤ k
    differs e = grind (arith, e, from)

-- numbers that are all below one stand nowhere from it on
pub none_above : (xs : List ℕ) (n k : ℕ) → list_all (λ x. nat_lt x n) xs ≡ true → n ≤ k → times k xs ≡ 0
none_above [] n k e h = refl
none_above (x ∷ xs) n k e h =
    let p = both (nat_lt x n) (list_all (λ x. nat_lt x n) xs) e in
    let ih = none_above xs n k p.1 h in
    let d : (x == k) ≡ false = other x n k p.0 h in
    omega (arith, ih, cond-false {A = ℕ} (x == k) 1 0 d)
  where
    other : (x n k : ℕ) → nat_lt x n ≡ true → n ≤ k → (x == k) ≡ false
    other x n k e h = grind (arith, e, h)

-- of things whose names differ, one at most has a name
abbrev pub are_apart : {X : Type 0} → (X → List ℕ) → List X → Bool
are_apart f [] = true
are_apart f (x ∷ xs) = list_all (λ y. not (bytes_eq (f y) (f x))) xs && are_apart f xs

pub are_same : (a b : List ℕ) → bytes_eq a b ≡ true → a ≡ b
are_same a b e = (bytes_eq-Decides a b).0 e

pub itself : (a b : List ℕ) → a ≡ b → bytes_eq a b ≡ true
itself a b e = (bytes_eq-Decides a b).1 e

none_named : {X : Type 0} (f : X → List ℕ) (name : List ℕ) (xs : List X) → list_all (λ y. not (bytes_eq (f y) name)) xs ≡ true → count_by (λ y. bytes_eq (f y) name) xs ≡ 0
none_named f name [] e = refl
none_named f name (x ∷ xs) e =
    let p = both (not (bytes_eq (f x) name)) (list_all (λ y. not (bytes_eq (f y) name)) xs) e in
    omega (arith, sum_by-cons (λ y. cond (bytes_eq (f y) name) 1 0) x xs, cond-false {A = ℕ} (bytes_eq (f x) name) 1 0 (not_true (bytes_eq (f x) name) p.0), none_named f name xs p.1)

pub one_named : {X : Type 0} (f : X → List ℕ) (xs : List X) → are_apart f xs ≡ true → (name : List ℕ) → count_by (λ y. bytes_eq (f y) name) xs ≤ 1
one_named f [] e name = omega arith
one_named f (x ∷ xs) e name =
    let p = both (list_all (λ y. not (bytes_eq (f y) (f x))) xs) (are_apart f xs) e in
    let c = sum_by-cons (λ y. cond (bytes_eq (f y) name) 1 0) x xs in
    ⊎_elim
    (λ t. omega (arith, c, cond-true {A = ℕ} (bytes_eq (f x) name) 1 0 t, none_named f name xs (subst (λ m. list_all (λ y. not (bytes_eq (f y) m)) xs ≡ true) (are_same (f x) name t) p.0)))
    (λ d. omega (arith, c, cond-false {A = ℕ} (bytes_eq (f x) name) 1 0 d, one_named f xs p.1 name))
    (cases_Bool (bytes_eq (f x) name))

-- an element behind the end of a list is the one that stands for none
pub all_long : (n : ℕ) (xs : List (List ℕ)) (none : List ℕ) → list_all (λ x. length x == n) xs ≡ true → length none ≡ n → (k : ℕ) → length (get_or xs k none) ≡ n
all_long n [] none e h k = h
all_long n (x ∷ xs) none e h zero = same (length x) n (both (length x == n) (list_all (λ x. length x == n) xs) e).0
all_long n (x ∷ xs) none e h (suc k) = all_long n xs none (both (length x == n) (list_all (λ x. length x == n) xs) e).1 h k

-- a number that isn't negative
abbrev pub is_natural : ℤ → Bool
is_natural (pos n) = true
is_natural (negsuc n) = false

pub natural_low : (z : ℤ) → is_natural z ≡ true → pos 0 ≤ℤ z
natural_low (pos n) e = omega (arith, ints)
natural_low (negsuc n) e = let bad : false ≡ true = e in cc
