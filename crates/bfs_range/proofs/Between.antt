-- The rows of a leaf that lie in a range stand between two places.
use Rattle.std.proofs.Common.{◌≡◌, ◌≤◌, ◌<◌, ◌+◌, ◌-◌, ℕ, zero, suc, List, [], ◌∷◌, length, take, drop, Option, Some, None, Ok, Err, Bool, true, false, cond, not, ◌&&◌, ◌||◌, nat_lt, refl, ap, sym, ◌∙◌, subst, arith}
use Rattle.std.specs.List.{AllByRecursion, filter}
use Rattle.std.specs.Ordering.{is_lt}
use Rattle.bfs_base.specs.declared.kind.KeyKind.{KeyKind}
use Rattle.bfs_node.specs.Page.{Row}
use Rattle.bfs_node.specs.Search.{key_at, IsPlace}
use Rattle.bfs_pages.specs.Order.{Key, comes_before, at_most}
use Rattle.bfs_pages.specs.Ways.{KeysAscend, FirstAt}
use Rattle.bfs_pages.proofs.KeyOrder.{less_less, most_less, less_is_most, most_itself, most_not, not_most}
use Rattle.bfs_pages.proofs.Sorted.{ascend-at}
use Rattle.bfs_range.specs.Ends.{EndsAt}
use Rattle.bfs_range.specs.Ranges.{is_from, is_upto, rows_between, has_above}

pub all-of : {A : Type 0} (P Q : A → Type 0) → ((x : A) → P x → Q x) → (xs : List A) → AllByRecursion P xs → AllByRecursion Q xs
all-of P Q f [] a = tt
all-of P Q f (x ∷ xs) a = (f x a.0, all-of P Q f xs a.1)

pub filter-none : {A : Type 0} (p : A → Bool) (xs : List A) → AllByRecursion (λ x. p x ≡ false) xs → filter p xs ≡ []
filter-none p [] a = refl
filter-none p (x ∷ xs) a = ap (λ c. cond c (x ∷ filter p xs) (filter p xs)) a.0 ∙ filter-none p xs a.1

and-right : (a b : Bool) → b ≡ false → a && b ≡ false
and-right true b e = e
and-right false b e = refl

and-left : (a b : Bool) → a ≡ false → a && b ≡ false
and-left a b e = ap (λ c. c && b) e

and-both : (a b : Bool) → a ≡ true → b ≡ true → a && b ≡ true
and-both a b e f = ap (λ c. c && b) e ∙ f

-- behind a row that isn't below the lower end none is
pub from-on : (kind : KeyKind) (low k : Key) (rows : List Row) → at_most kind low k ≡ true → AllByRecursion (λ s. comes_before kind k s.0 ≡ true) rows → AllByRecursion (λ s. at_most kind low s.0 ≡ true) rows
from-on kind low k rows l a = all-of (λ (s : Row). comes_before kind k s.0 ≡ true) (λ (s : Row). at_most kind low s.0 ≡ true) (λ s h. less_is_most kind low s.0 (most_less kind low k s.0 l h)) rows a

-- behind a row that is above the upper end each is
pub past : (kind : KeyKind) (high : Option Key) (k l : Key) → is_upto kind high k ≡ false → comes_before kind k l ≡ true → is_upto kind high l ≡ false
past kind None k l e h = absurd (no e)
  where
    no : true ≡ false → ⊥
    no e = cc
past kind (Some high) k l e h = most_not kind l high (less_less kind high k l (not_most kind k high e) h)

pub past-on : (kind : KeyKind) (high : Option Key) (k : Key) (rows : List Row) → is_upto kind high k ≡ false → AllByRecursion (λ s. comes_before kind k s.0 ≡ true) rows → AllByRecursion (λ s. is_upto kind high s.0 ≡ false) rows
past-on kind high k rows e a = all-of (λ (s : Row). comes_before kind k s.0 ≡ true) (λ (s : Row). is_upto kind high s.0 ≡ false) (λ s h. past kind high k s.0 e h) rows a

-- no row that is above the upper end is in the range
pub none-past : (kind : KeyKind) (low high : Option Key) (rows : List Row) → AllByRecursion (λ s. is_upto kind high s.0 ≡ false) rows → rows_between kind low high rows ≡ []
none-past kind low high rows a =
    filter-none (λ (r : Row). is_from kind low r.0 && is_upto kind high r.0) rows
    (all-of (λ (s : Row). is_upto kind high s.0 ≡ false) (λ (s : Row). is_from kind low s.0 && is_upto kind high s.0 ≡ false) (λ s h. and-right (is_from kind low s.0) (is_upto kind high s.0) h) rows a)

-- no row that is below the lower end is in the range
pub none-below : (kind : KeyKind) (low : Key) (high : Option Key) (rows : List Row) → AllByRecursion (λ s. comes_before kind s.0 low ≡ true) rows → rows_between kind (Some low) high rows ≡ []
none-below kind low high rows a =
    filter-none (λ (r : Row). at_most kind low r.0 && is_upto kind high r.0) rows
    (all-of (λ (s : Row). comes_before kind s.0 low ≡ true) (λ (s : Row). at_most kind low s.0 && is_upto kind high s.0 ≡ false) (λ s h. and-left (at_most kind low s.0) (is_upto kind high s.0) (most_not kind low s.0 h)) rows a)

upto-take : (kind : KeyKind) (low : Key) (high : Option Key) (rows : List Row) (j : ℕ) → KeysAscend kind rows → AllByRecursion (λ s. at_most kind low s.0 ≡ true) rows → EndsAt kind rows high j → rows_between kind (Some low) high rows ≡ take j rows
upto-take kind low high [] j a l e = sym (ap (λ n. take n []) e)
upto-take kind low high (r ∷ rs) zero a l e = none-past kind (Some low) high (r ∷ rs) (e, past-on kind high r.0 rs e a.0)
upto-take kind low high (r ∷ rs) (suc j) a l e =
    ap (λ c. cond c (r ∷ rows_between kind (Some low) high rs) (rows_between kind (Some low) high rs)) (and-both (at_most kind low r.0) (is_upto kind high r.0) l.0 e.0)
    ∙ ap (λ z. r ∷ z) (upto-take kind low high rs j a.1 l.1 e.1)

pub between-places : (kind : KeyKind) (low : Key) (high : Option Key) (rows : List Row) (i j : ℕ) → KeysAscend kind rows → FirstAt kind rows low i → EndsAt kind rows high j
    → rows_between kind (Some low) high rows ≡ take (j - i) (drop i rows)
between-places kind low high [] i j a f e = let n : 0 ≡ j - i = omega (arith, e, f) in ap (λ m. take m (drop 0 [])) n ∙ ap (λ m. take (j - i) (drop m [])) (sym f)
between-places kind low high (r ∷ rs) zero j a f e =
    let n : j ≡ j - 0 = omega arith in
    upto-take kind low high (r ∷ rs) j a (f, from-on kind low r.0 rs f a.0) e ∙ ap (λ m. take m (r ∷ rs)) n
between-places kind low high (r ∷ rs) (suc i) zero a f e =
    let n : 0 ≡ 0 - suc i = omega arith in
    none-past kind (Some low) high (r ∷ rs) (e, past-on kind high r.0 rs e a.0) ∙ ap (λ m. take m (drop i rs)) n
between-places kind low high (r ∷ rs) (suc i) (suc j) a f e =
    let n : j - i ≡ suc j - suc i = omega arith in
    ap (λ c. cond c (r ∷ rows_between kind (Some low) high rs) (rows_between kind (Some low) high rs)) (and-left (at_most kind low r.0) (is_upto kind high r.0) f.0)
    ∙ between-places kind low high rs i j a.1 f.1 e.1 ∙ ap (λ m. take m (drop i rs)) n

none-first : (n : ℕ) → nat_lt 0 (suc n) ≡ true
none-first n = grind arith

-- a leaf has a key above the upper end where the place isn't behind its rows
pub above-at : (kind : KeyKind) (high : Option Key) (rows : List Row) (j : ℕ) → EndsAt kind rows high j → nat_lt j (length rows) ≡ has_above kind high rows
above-at kind high [] j e = ap (λ n. nat_lt n 0) e
above-at kind high (r ∷ rs) zero e = none-first (length rs) ∙ sym (ap (λ c. not c || has_above kind high rs) e)
above-at kind high (r ∷ rs) (suc j) e = less j (length rs) ∙ above-at kind high rs j e.1 ∙ sym (ap (λ c. not c || has_above kind high rs) e.0)
  where
    less : (m n : ℕ) → nat_lt (suc m) (suc n) ≡ nat_lt m n
    less m n = grind arith

ends-from : (kind : KeyKind) (rows : List Row) (high : Option Key) (i : ℕ) → i ≤ length rows → ((j : ℕ) → j < i → is_upto kind high (key_at rows j) ≡ true) → (i < length rows → is_upto kind high (key_at rows i) ≡ false) → EndsAt kind rows high i
ends-from kind [] high i l b m = omega (arith, l)
ends-from kind (r ∷ rs) high zero l b m = m (omega arith)
ends-from kind (r ∷ rs) high (suc i) l b m = (b zero (omega arith), ends-from kind rs high i (omega (arith, l)) (λ j h. b (suc j) (omega (arith, h))) (λ h. m (omega (arith, h))))

pub ends-found : (kind : KeyKind) (rows : List Row) (k : Key) (i : ℕ) → KeysAscend kind rows → IsPlace kind rows k (Ok i) → EndsAt kind rows (Some k) (i + 1)
ends-found kind rows k i a p =
    ends-from kind rows (Some k) (i + 1) (omega (arith, p.0)) (λ j h. by_place j h (nat_lt j i) refl)
    (λ h. most_not kind (key_at rows (i + 1)) k (subst (λ z. comes_before kind z (key_at rows (i + 1)) ≡ true) p.1 (ascend-at kind rows i (i + 1) a (omega arith) h)))
  where
    lt_yes : (m n : ℕ) → nat_lt m n ≡ true → m < n
    lt_yes m n e = grind (arith, e)

    lt_no : (m n : ℕ) → nat_lt m n ≡ false → n ≤ m
    lt_no m n e = grind (arith, e)

    by_place : (j : ℕ) → j < i + 1 → (c : Bool) → nat_lt j i ≡ c → at_most kind (key_at rows j) k ≡ true
    by_place j h true e = less_is_most kind (key_at rows j) k (subst (λ z. comes_before kind (key_at rows j) z ≡ true) p.1 (ascend-at kind rows j i a (lt_yes j i e) p.0))
    by_place j h false e =
        let m = lt_no j i e in
        let same : i ≡ j = omega (arith, h, m) in
        subst (λ z. at_most kind (key_at rows z) k ≡ true) same (subst (λ z. at_most kind z k ≡ true) (sym p.1) (most_itself kind k))

pub ends-missed : (kind : KeyKind) (rows : List Row) (k : Key) (i : ℕ) → IsPlace kind rows k (Err i) → EndsAt kind rows (Some k) i
ends-missed kind rows k i p =
    ends-from kind rows (Some k) i p.0 (λ j h. less_is_most kind (key_at rows j) k (ap is_lt (p.1 j h))) (λ h. most_not kind (key_at rows i) k (ap is_lt (p.2 i (omega arith) h)))

pub ends-open : (kind : KeyKind) (rows : List Row) → EndsAt kind rows None (length rows)
ends-open kind [] = refl
ends-open kind (r ∷ rs) = (refl, ends-open kind rs)
