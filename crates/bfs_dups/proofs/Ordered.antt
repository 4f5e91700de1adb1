-- Ascending numbers, and one more among them.
use Rattle.std.proofs.Common.{◌≡◌, ◌≤◌, ◌<◌, ◌+◌, ◌*◌, ◌-◌, ℕ, List, [], ◌∷◌, ◌++◌, Bool, true, false, cond, ◌==◌, ◌&&◌, nat_lt, refl, ap, sym, ◌∙◌, subst, arith, append_assoc}
use Rattle.std.specs.List.{AllByRecursion}
use Rattle.bfs_base.specs.Lists.{times, IsOnce}
use Rattle.bfs_bytes.specs.Fields.{unsigned_at}
use Rattle.bfs_pages.proofs.Splice.{self, times-append}
use Rattle.bfs_values.specs.Values.{numbers_from, is_ascending, placed, in_order}
use Rattle.bfs_values.proofs.Stacked.{from-first}
use Rattle.bfs_dups.proofs.Moved.{numbers-from}

-- each number is less than those behind it
abbrev pub Up : List ℕ → Type 0
Up [] = Unit {0}
Up (x ∷ xs) = AllByRecursion (λ y. x < y) xs × Up xs

both : (a b : Bool) → (a && b) ≡ true → (a ≡ true) × (b ≡ true)
both true b e = (refl, e)
both false b e = let bad : false ≡ true = e in cc

and : (a b : Bool) → a ≡ true → b ≡ true → (a && b) ≡ true
and true b e f = f
and false b e f = let bad : false ≡ true = e in cc

lt_is : (a b : ℕ) → nat_lt a b ≡ true → a < b
lt_is a b e = grind (arith, e)

lt_no : (a b : ℕ) → nat_lt a b ≡ false → b ≤ a
lt_no a b e = grind (arith, e)

lt_true : (a b : ℕ) → a < b → nat_lt a b ≡ true
lt_true a b h = grind (arith, h)

lt_false : (a b : ℕ) → b ≤ a → nat_lt a b ≡ false
lt_false a b h = grind (arith, h)

eq_is : (a b : ℕ) → (a == b) ≡ true → a ≡ b
eq_is a b e = grind (arith, e)

eq_off : (a b : ℕ) → a < b → (b == a) ≡ false
eq_off a b h = grind (arith, h)

all-more : (x y : ℕ) (ys : List ℕ) → x < y → AllByRecursion (λ z. y < z) ys → AllByRecursion (λ z. x < z) ys
all-more x y [] l a = tt
all-more x y (z ∷ zs) l a = (omega (arith, l, a.0), all-more x y zs l a.1)

pub up-of : (xs : List ℕ) → is_ascending xs ≡ true → Up xs
up-of [] e = tt
up-of (x ∷ []) e = (tt, tt)
up-of (x ∷ (y ∷ ys)) e =
    let p = both (nat_lt x y) (is_ascending (y ∷ ys)) e in
    let u = up-of (y ∷ ys) p.1 in
    ((lt_is x y p.0, all-more x y ys (lt_is x y p.0) u.0), u)

pub of-up : (xs : List ℕ) → Up xs → is_ascending xs ≡ true
of-up [] u = refl
of-up (x ∷ []) u = refl
of-up (x ∷ (y ∷ ys)) u = and (nat_lt x y) (is_ascending (y ∷ ys)) (lt_true x y u.0.0) (of-up (y ∷ ys) u.1)

pub up-right : (xs ys : List ℕ) → Up (xs ++ ys) → Up ys
up-right [] ys u = u
up-right (x ∷ xs) ys u = up-right xs ys u.1

all-none : (x : ℕ) (ys : List ℕ) → AllByRecursion (λ y. x < y) ys → times x ys ≡ 0
all-none x [] a = refl
all-none x (y ∷ ys) a = let e : times x (y ∷ ys) ≡ 0 + times x ys = ap (λ c. cond c 1 0 + times x ys) (eq_off x y a.0) in omega (arith, e, all-none x ys a.1)

-- a number less than the first of ascending ones isn't there
pub less-none : (x y : ℕ) (ys : List ℕ) → x < y → Up (y ∷ ys) → times x (y ∷ ys) ≡ 0
less-none x y ys l u = all-none x (y ∷ ys) (l, all-more x y ys l u.0)

all-placed : (w x : ℕ) (ys : List ℕ) → w < x → AllByRecursion (λ z. w < z) ys → AllByRecursion (λ z. w < z) (placed x ys)
all-placed w x [] l a = (l, tt)
all-placed w x (y ∷ ys) l a = by_test (nat_lt y x) (all-placed w x ys l a.1)
  where
    by_test : (c : Bool) → AllByRecursion (λ z. w < z) (placed x ys) → AllByRecursion (λ z. w < z) (cond c (y ∷ placed x ys) (x ∷ y ∷ ys))
    by_test true ih = (a.0, ih)
    by_test false ih = (l, a)

off-first : (x y : ℕ) (ys : List ℕ) → times x (y ∷ ys) ≡ 0 → (y == x) ≡ false
off-first x y ys n = by_test (y == x) refl
  where
    by_test : (c : Bool) → (y == x) ≡ c → (y == x) ≡ false
    by_test true e = let m : times x (y ∷ ys) ≡ 1 + times x ys = ap (λ c. cond c 1 0 + times x ys) e in absurd (omega (arith, n, m))
    by_test false e = e

differ : (x y : ℕ) → (y == x) ≡ false → nat_lt y x ≡ false → x < y
differ x y e f = grind (arith, e, f)

later : (x y : ℕ) (ys : List ℕ) → times x ys ≤ times x (y ∷ ys)
later x y ys = omega arith

pub placed-up : (x : ℕ) (ys : List ℕ) → Up ys → times x ys ≡ 0 → Up (placed x ys)
placed-up x [] u n = (tt, tt)
placed-up x (y ∷ ys) u n = by_test (nat_lt y x) refl (placed-up x ys u.1 (omega (arith, n, later x y ys)))
  where
    by_test : (c : Bool) → nat_lt y x ≡ c → Up (placed x ys) → Up (cond c (y ∷ placed x ys) (x ∷ y ∷ ys))
    by_test true e ih = (all-placed y x ys (lt_is y x e) u.0, ih)
    by_test false e ih = let l = differ x y (off-first x y ys n) e in ((l, all-more x y ys l u.0), u)

pub placed-ascends : (x : ℕ) (ys : List ℕ) → is_ascending ys ≡ true → times x ys ≡ 0 → is_ascending (placed x ys) ≡ true
placed-ascends x ys a n = of-up (placed x ys) (placed-up x ys (up-of ys a) n)

-- a number is there where one of the numbers of a list is it
pub found-there : (page : List ℕ) (a i n x : ℕ) → i < n → unsigned_at 8 page (a + 8 * i) ≡ x → times x (numbers_from page a n) ≡ times x (numbers_from page (a + 8 * i) (n - i)) → 1 ≤ times x (numbers_from page a n)
found-there page a i n x l e t =
    let m : 1 ≤ times x (numbers_from page (a + 8 * i) (n - i)) = subst (λ z. 1 ≤ times x z) (sym (from-first page a i n l)) (subst (λ z. 1 ≤ times x (z ∷ numbers_from page (a + 8 * (i + 1)) (n - (i + 1)))) (sym e) (self x (numbers_from page (a + 8 * (i + 1)) (n - (i + 1))))) in
    omega (arith, m, t)

pub not-there : (page : List ℕ) (a i n x y : ℕ) → i < n → y ≡ unsigned_at 8 page (a + 8 * i) → x < y → is_ascending (numbers_from page a n) ≡ true → times x (numbers_from page a n) ≡ times x (numbers_from page (a + 8 * i) (n - i)) → times x (numbers_from page a n) ≡ 0
not-there page a i n x y l e h asc t =
    let w : n ≡ i + (n - i) = omega (arith, l) in
    let u : Up (numbers_from page (a + 8 * i) (n - i)) = up-right (numbers_from page a i) (numbers_from page (a + 8 * i) (n - i)) (subst Up (numbers-from page a i n (n - i) w) (up-of (numbers_from page a n) asc)) in
    let f = from-first page a i n l in
    let u2 : Up (unsigned_at 8 page (a + 8 * i) ∷ numbers_from page (a + 8 * (i + 1)) (n - (i + 1))) = subst Up f u in
    t ∙ ap (times x) f ∙ less-none x (unsigned_at 8 page (a + 8 * i)) (numbers_from page (a + 8 * (i + 1)) (n - (i + 1))) (subst (λ z. x < z) e h) u2

-- one number further
pub place-next : (page : List ℕ) (a i n x y : ℕ) → i < n → y ≡ unsigned_at 8 page (a + 8 * i) → y < x → placed x (numbers_from page a n) ≡ numbers_from page a i ++ placed x (numbers_from page (a + 8 * i) (n - i))
    → placed x (numbers_from page a n) ≡ numbers_from page a (i + 1) ++ placed x (numbers_from page (a + 8 * (i + 1)) (n - (i + 1)))
place-next page a i n x y l e h p =
    let u : ℕ = unsigned_at 8 page (a + 8 * i) in
    let rest : List ℕ = numbers_from page (a + 8 * (i + 1)) (n - (i + 1)) in
    let lt : nat_lt u x ≡ true = lt_true u x (subst (λ z. z < x) e h) in
    let step : placed x (u ∷ rest) ≡ u ∷ placed x rest = ap (λ c. cond c (u ∷ placed x rest) (x ∷ u ∷ rest)) lt in
    p ∙ ap (λ z. numbers_from page a i ++ placed x z) (from-first page a i n l) ∙ ap (λ z. numbers_from page a i ++ z) step
    ∙ sym (append_assoc (numbers_from page a i) (u ∷ []) (placed x rest)) ∙ ap (λ z. z ++ placed x rest) (sym (numbers-from page a i (i + 1) 1 refl))

pub absent-next : (page : List ℕ) (a i n x y : ℕ) → i < n → y ≡ unsigned_at 8 page (a + 8 * i) → y < x → times x (numbers_from page a n) ≡ times x (numbers_from page (a + 8 * i) (n - i))
    → times x (numbers_from page a n) ≡ times x (numbers_from page (a + 8 * (i + 1)) (n - (i + 1)))
absent-next page a i n x y l e h t =
    let u : ℕ = unsigned_at 8 page (a + 8 * i) in
    let rest : List ℕ = numbers_from page (a + 8 * (i + 1)) (n - (i + 1)) in
    let off : (u == x) ≡ false = eq_less u x (subst (λ z. z < x) e h) in
    let z : times x (u ∷ rest) ≡ 0 + times x rest = ap (λ c. cond c 1 0 + times x rest) off in
    t ∙ ap (times x) (from-first page a i n l) ∙ z ∙ zero_plus (times x rest)
  where
    eq_less : (a b : ℕ) → a < b → (a == b) ≡ false
    eq_less a b h = grind (arith, h)

    zero_plus : (m : ℕ) → 0 + m ≡ m
    zero_plus m = omega arith

-- one list is another with a number among it
abbrev pub With : ℕ → List ℕ → List ℕ → Type 0
With x old new = (ps : List ℕ) × (bs : List ℕ) × (old ≡ ps ++ bs) × (new ≡ ps ++ (x ∷ bs))

pub with-placed : (x : ℕ) (ys : List ℕ) → With x ys (placed x ys)
with-placed x [] = ([], [], refl, refl)
with-placed x (y ∷ ys) = by_test (nat_lt y x) (with-placed x ys)
  where
    by_test : (c : Bool) → With x ys (placed x ys) → With x (y ∷ ys) (cond c (y ∷ placed x ys) (x ∷ y ∷ ys))
    by_test true w = (y ∷ w.0, w.1, ap (λ z. y ∷ z) w.2, ap (λ z. y ∷ z) w.3)
    by_test false w = ([], y ∷ ys, refl, refl)

pub with-front : (x : ℕ) (p old new : List ℕ) → With x old new → With x (p ++ old) (p ++ new)
with-front x p old new w = (
  p ++ w.0,
  w.1,
  ap (λ z. p ++ z) w.2 ∙ sym (append_assoc p w.0 w.1),
  ap (λ z. p ++ z) w.3 ∙ sym (append_assoc p w.0 (x ∷ w.1)),
)

pub with-back : (x : ℕ) (s old new : List ℕ) → With x old new → With x (old ++ s) (new ++ s)
with-back x s old new w = (
  w.0,
  w.1 ++ s,
  ap (λ z. z ++ s) w.2 ∙ append_assoc w.0 w.1 s,
  ap (λ z. z ++ s) w.3 ∙ append_assoc w.0 (x ∷ w.1) s,
)

pub with-times : (x k : ℕ) (old new : List ℕ) → With x old new → times k new ≡ times k (x ∷ []) + times k old
with-times x k old new w =
    let a = ap (times k) w.3 in
    let b = ap (times k) w.2 in
    omega (arith, a, b, times-append k w.0 (x ∷ w.1), times-append k w.0 w.1)

placed-swap : (x y : ℕ) (zs : List ℕ) → placed x (placed y zs) ≡ placed y (placed x zs)
placed-swap x y [] = by_tests (nat_lt y x) (nat_lt x y) refl refl
  where
    same : (a b : ℕ) → nat_lt b a ≡ false → nat_lt a b ≡ false → a ≡ b
    same a b e f = grind (arith, e, f)

    not_both : (a b : ℕ) → nat_lt b a ≡ true → nat_lt a b ≡ true → ⊥
    not_both a b e f = grind (arith, e, f)

    by_tests : (c d : Bool) → nat_lt y x ≡ c → nat_lt x y ≡ d → cond c (y ∷ x ∷ []) (x ∷ y ∷ []) ≡ cond d (x ∷ y ∷ []) (y ∷ x ∷ [])
    by_tests true true e f = absurd (not_both x y e f)
    by_tests true false e f = refl
    by_tests false true e f = refl
    by_tests false false e f = let s = same x y e f in ap (λ z. z ∷ y ∷ []) s ∙ ap (λ z. y ∷ z ∷ []) (sym s)
placed-swap x y (z ∷ zs) = by_tests (nat_lt z y) (nat_lt z x) refl refl (placed-swap x y zs)
  where
    same : (a b : ℕ) → nat_lt b a ≡ false → nat_lt a b ≡ false → a ≡ b
    same a b e f = grind (arith, e, f)

    not_both : (a b : ℕ) → nat_lt b a ≡ true → nat_lt a b ≡ true → ⊥
    not_both a b e f = grind (arith, e, f)

    through : (a b c : ℕ) → nat_lt a b ≡ true → nat_lt a c ≡ false → nat_lt c b ≡ true
    through a b c e f = grind (arith, e, f)

    put : (c : Bool) (w u : ℕ) (us : List ℕ) → nat_lt u w ≡ c → placed w (u ∷ us) ≡ cond c (u ∷ placed w us) (w ∷ u ∷ us)
    put c w u us e = ap (λ c. cond c (u ∷ placed w us) (w ∷ u ∷ us)) e

    heads : (c d : Bool) → nat_lt y x ≡ c → nat_lt x y ≡ d → (us : List ℕ) → placed x us ≡ x ∷ us → placed y us ≡ y ∷ us → cond c (y ∷ placed x us) (x ∷ y ∷ us) ≡ cond d (x ∷ placed y us) (y ∷ x ∷ us)
    heads true true e f us p q = absurd (not_both x y e f)
    heads true false e f us p q = ap (λ v. y ∷ v) p
    heads false true e f us p q = ap (λ v. x ∷ v) (sym q)
    heads false false e f us p q = let s = same x y e f in ap (λ v. v ∷ y ∷ us) s ∙ ap (λ v. y ∷ v ∷ us) (sym s)

    by_tests : (c d : Bool) → nat_lt z y ≡ c → nat_lt z x ≡ d → placed x (placed y zs) ≡ placed y (placed x zs) → placed x (placed y (z ∷ zs)) ≡ placed y (placed x (z ∷ zs))
    by_tests true true e f ih =
        ap (placed x) (put true y z zs e) ∙ put true x z (placed y zs) f ∙ ap (λ v. z ∷ v) ih ∙ sym (put true y z (placed x zs) e) ∙ ap (placed y) (sym (put true x z zs f))
    by_tests true false e f ih =
        ap (placed x) (put true y z zs e) ∙ put false x z (placed y zs) f ∙ ap (λ v. x ∷ v) (sym (put true y z zs e))
        ∙ sym (put true y x (z ∷ zs) (through z y x e f)) ∙ ap (placed y) (sym (put false x z zs f))
    by_tests false true e f ih =
        ap (placed x) (put false y z zs e) ∙ put true x y (z ∷ zs) (through z x y f e) ∙ ap (λ v. y ∷ v) (put true x z zs f)
        ∙ sym (put false y z (placed x zs) e) ∙ ap (placed y) (sym (put true x z zs f))
    by_tests false false e f ih =
        ap (placed x) (put false y z zs e)
        ∙ put (nat_lt y x) x y (z ∷ zs) refl
        ∙ heads (nat_lt y x) (nat_lt x y) refl refl (z ∷ zs) (put false x z zs f) (put false y z zs e)
        ∙ sym (put (nat_lt x y) y x (z ∷ zs) refl) ∙ ap (placed y) (sym (put false x z zs f))

order-amid : (x : ℕ) (ps bs : List ℕ) → in_order (ps ++ (x ∷ bs)) ≡ placed x (in_order (ps ++ bs))
order-amid x [] bs = refl
order-amid x (a ∷ ps) bs = ap (placed a) (order-amid x ps bs) ∙ placed-swap a x (in_order (ps ++ bs))

pub with-order : (x : ℕ) (old new : List ℕ) → With x old new → in_order new ≡ placed x (in_order old)
with-order x old new w = ap in_order w.3 ∙ order-amid x w.0 w.1 ∙ ap (λ z. placed x (in_order z)) (sym w.2)

pub with-once : (x : ℕ) (old new : List ℕ) → With x old new → IsOnce old → times x old ≡ 0 → IsOnce new
with-once x old new w once none k = by_test (x == k) refl
  where
    by_test : (c : Bool) → (x == k) ≡ c → times k new ≤ 1
    by_test true e =
        let n : times k old ≡ 0 = subst (λ z. times z old ≡ 0) (eq_is x k e) none in
        let m : times k (x ∷ []) ≡ 1 = ap (λ c. cond c 1 0 + 0) e in
        omega (arith, with-times x k old new w, m, n)
    by_test false e = let m : times k (x ∷ []) ≡ 0 = ap (λ c. cond c 1 0 + 0) e in omega (arith, with-times x k old new w, m, once k)

-- putting in order keeps the numbers
placed-times : (k x : ℕ) (ys : List ℕ) → times k (placed x ys) ≡ times k (x ∷ []) + times k ys
placed-times k x ys = with-times x k ys (placed x ys) (with-placed x ys)

pub order-times : (k : ℕ) (xs : List ℕ) → times k (in_order xs) ≡ times k xs
order-times k [] = refl
order-times k (x ∷ xs) = omega (arith, placed-times k x (in_order xs), order-times k xs)

placed-first : (x : ℕ) (ys : List ℕ) → AllByRecursion (λ y. x < y) ys → placed x ys ≡ x ∷ ys
placed-first x [] a = refl
placed-first x (y ∷ ys) a = ap (λ c. cond c (y ∷ placed x ys) (x ∷ y ∷ ys)) (lt_false y x (below x y a.0))
  where
    below : (x y : ℕ) → x < y → x ≤ y
    below x y l = omega (arith, l)

-- ascending numbers are in order
pub order-up : (xs : List ℕ) → Up xs → in_order xs ≡ xs
order-up [] u = refl
order-up (x ∷ xs) u = ap (placed x) (order-up xs u.1) ∙ placed-first x xs u.0

pub up-once : (k : ℕ) (xs : List ℕ) → Up xs → times k xs ≤ 1
up-once k [] u = omega arith
up-once k (x ∷ xs) u = by_test (x == k) refl (up-once k xs u.1)
  where
    by_test : (c : Bool) → (x == k) ≡ c → times k xs ≤ 1 → cond c 1 0 + times k xs ≤ 1
    by_test true e ih = let n : times k xs ≡ 0 = subst (λ z. times z xs ≡ 0) (eq_is x k e) (all-none x xs u.0) in omega (arith, n)
    by_test false e ih = omega (arith, ih)
