-- Lists of numbers without one, and numbers put in order.
use Rattle.std.proofs.Common.{◌≡◌, ◌<◌, ◌+◌, ◌*◌, ◌-◌, ℕ, List, [], ◌∷◌, ◌++◌, Bool, true, false, cond, ◌==◌, refl, ap, sym, ◌∙◌, subst, arith}
use Rattle.std.specs.List.{AllByRecursion}
use Rattle.bfs_base.specs.Lists.{times, IsOnce}
use Rattle.bfs_bytes.specs.Fields.{unsigned_at}
use Rattle.bfs_pages.proofs.Splice.{times-append}
use Rattle.bfs_values.specs.Values.{numbers_from, is_ascending, placed, in_order}
use Rattle.bfs_values.proofs.Stacked.{from-first}
use Rattle.bfs_dups.proofs.Moved.{numbers-from}
use Rattle.bfs_dups.proofs.Ordered.{Up, up-of, of-up, up-once, With, with-placed, with-back, with-times, with-order, order-times}
use Rattle.bfs_dups_remove.specs.Lessened.{without_number}

eq_is : (a b : ℕ) → (a == b) ≡ true → a ≡ b
eq_is a b e = grind (arith, e)

eq_self : (a : ℕ) → (a == a) ≡ true
eq_self a = grind arith

first : (x y : ℕ) (ys : List ℕ) → times x (y ∷ ys) ≡ times x (y ∷ []) + times x ys
first x y ys = omega arith

pub one-self : (p : ℕ) → times p (p ∷ []) ≡ 1
one-self p = ap (λ c. cond c 1 0 + 0) (eq_self p)

off-first : (x y : ℕ) (ys : List ℕ) → times x (y ∷ ys) ≡ 0 → (y == x) ≡ false
off-first x y ys n = by_test (y == x) refl
  where
    by_test : (c : Bool) → (y == x) ≡ c → (y == x) ≡ false
    by_test true e = let m : times x (y ∷ ys) ≡ 1 + times x ys = ap (λ c. cond c 1 0 + times x ys) e in absurd (omega (arith, n, m))
    by_test false e = e

-- where the number isn't there
pub without-none : (x : ℕ) (ns : List ℕ) → times x ns ≡ 0 → without_number x ns ≡ ns
without-none x [] n = refl
without-none x (y ∷ ys) n =
    ap (λ c. cond c (without_number x ys) (y ∷ without_number x ys)) (off-first x y ys n) ∙ ap (λ z. y ∷ z) (without-none x ys (omega (arith, n, first x y ys)))

-- where it is there once
pub without-amid : (x : ℕ) (ps bs : List ℕ) → times x ps ≡ 0 → times x bs ≡ 0 → without_number x (ps ++ (x ∷ bs)) ≡ ps ++ bs
without-amid x [] bs n m = ap (λ c. cond c (without_number x bs) (x ∷ without_number x bs)) (eq_self x) ∙ without-none x bs m
without-amid x (y ∷ ys) bs n m =
    ap (λ c. cond c (without_number x (ys ++ (x ∷ bs))) (y ∷ without_number x (ys ++ (x ∷ bs)))) (off-first x y ys n) ∙ ap (λ z. y ∷ z) (without-amid x ys bs (omega (arith, n, first x y ys)) m)

pub without-with : (x : ℕ) (old new : List ℕ) → With x old new → times x old ≡ 0 → without_number x new ≡ old
without-with x old new w n =
    let e : times x old ≡ times x (w.0 ++ w.1) = ap (times x) w.2 in
    ap (without_number x) w.3 ∙ without-amid x w.0 w.1 (omega (arith, e, n, times-append x w.0 w.1)) (omega (arith, e, n, times-append x w.0 w.1)) ∙ sym w.2

-- numbers in order without one of them
pub without-order : (x : ℕ) (old new : List ℕ) → With x old new → times x old ≡ 0 → without_number x (in_order new) ≡ in_order old
without-order x old new w n =
    ap (without_number x) (with-order x old new w) ∙ without-with x (in_order old) (placed x (in_order old)) (with-placed x (in_order old)) (order-times x old ∙ n)

pub less-once : (x : ℕ) (old new : List ℕ) → With x old new → IsOnce new → IsOnce old
less-once x old new w once k = omega (arith, once k, with-times x k old new w)

pub gone-once : (x : ℕ) (old new : List ℕ) → With x old new → IsOnce new → times x old ≡ 0
gone-once x old new w once = omega (arith, once x, with-times x x old new w, one-self x)

-- numbers in order, with others behind them
pub order-inner : (xs ys : List ℕ) → in_order (in_order xs ++ ys) ≡ in_order (xs ++ ys)
order-inner [] ys = refl
order-inner (x ∷ xs) ys =
    with-order x (in_order xs ++ ys) (placed x (in_order xs) ++ ys) (with-back x ys (in_order xs) (placed x (in_order xs)) (with-placed x (in_order xs))) ∙ ap (placed x) (order-inner xs ys)

-- the numbers of a page without the one at a place
pub cut-numbers : (page : List ℕ) (a i n x : ℕ) → i < n → unsigned_at 8 page (a + 8 * i) ≡ x → numbers_from page a n ≡ numbers_from page a i ++ (x ∷ numbers_from page (a + 8 * (i + 1)) (n - (i + 1)))
cut-numbers page a i n x l e =
    numbers-from page a i n (n - i) (omega (arith, l)) ∙ ap (λ z. numbers_from page a i ++ z) (from-first page a i n l ∙ ap (λ z. z ∷ numbers_from page (a + 8 * (i + 1)) (n - (i + 1))) e)

pub cut-with : (page : List ℕ) (a i n x : ℕ) → i < n → unsigned_at 8 page (a + 8 * i) ≡ x → With x (numbers_from page a i ++ numbers_from page (a + 8 * (i + 1)) (n - (i + 1))) (numbers_from page a n)
cut-with page a i n x l e = (numbers_from page a i, numbers_from page (a + 8 * (i + 1)) (n - (i + 1)), refl, cut-numbers page a i n x l e)

all-part : (P : ℕ → Type 0) (ps : List ℕ) (x : ℕ) (bs : List ℕ) → AllByRecursion P (ps ++ (x ∷ bs)) → AllByRecursion P (ps ++ bs)
all-part P [] x bs a = a.1
all-part P (p ∷ ps) x bs a = (a.0, all-part P ps x bs a.1)

up-part : (ps : List ℕ) (x : ℕ) (bs : List ℕ) → Up (ps ++ (x ∷ bs)) → Up (ps ++ bs)
up-part [] x bs u = u.1
up-part (p ∷ ps) x bs u = (all-part (λ y. p < y) ps x bs u.0, up-part ps x bs u.1)

pub with-up : (x : ℕ) (old new : List ℕ) → With x old new → is_ascending new ≡ true → is_ascending old ≡ true
with-up x old new w a = of-up old (subst Up (sym w.2) (up-part w.0 x w.1 (subst Up w.3 (up-of new a))))

pub with-gone : (x : ℕ) (old new : List ℕ) → With x old new → is_ascending new ≡ true → times x old ≡ 0
with-gone x old new w a = gone-once x old new w (λ k. up-once k new (up-of new a))

-- what is left of ascending numbers
pub cut-without : (page : List ℕ) (a i n x : ℕ) → i < n → unsigned_at 8 page (a + 8 * i) ≡ x → is_ascending (numbers_from page a n) ≡ true
    → (without_number x (numbers_from page a n) ≡ numbers_from page a i ++ numbers_from page (a + 8 * (i + 1)) (n - (i + 1))) × (is_ascending (without_number x (numbers_from page a n)) ≡ true)
cut-without page a i n x l e u =
    let w = cut-with page a i n x l e in
    let old : List ℕ = numbers_from page a i ++ numbers_from page (a + 8 * (i + 1)) (n - (i + 1)) in
    let is : without_number x (numbers_from page a n) ≡ old = without-with x old (numbers_from page a n) w (with-gone x old (numbers_from page a n) w u) in
    (is, ap is_ascending is ∙ with-up x old (numbers_from page a n) w u)
