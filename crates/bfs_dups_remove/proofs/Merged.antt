-- Numbers of two pages that come together.
use Rattle.std.proofs.Common.{◌≡◌, ◌≤◌, ◌+◌, ◌*◌, ◌-◌, ℕ, suc, List, [], ◌∷◌, ◌++◌, Bool, true, false, cond, nat_lt, length, refl, ap, sym, ◌∙◌, arith}
use Rattle.bfs_base.specs.Lists.{times, IsOnce}
use Rattle.bfs_bytes.specs.Fields.{unsigned_at}
use Rattle.bfs_pages.proofs.Splice.{self, times-append}
use Rattle.bfs_values.specs.Values.{numbers_from, placed, in_order, page_count, page_numbers}
use Rattle.bfs_values.proofs.Stacked.{from-first}
use Rattle.bfs_dups.proofs.Moved.{numbers-from, length-numbers}
use Rattle.bfs_dups.proofs.Ordered.{order-times}

pub length-placed : (x : ℕ) (ys : List ℕ) → length (placed x ys) ≡ suc (length ys)
length-placed x [] = refl
length-placed x (y ∷ ys) = by_test (nat_lt y x) (length-placed x ys)
  where
    by_test : (c : Bool) → length (placed x ys) ≡ suc (length ys) → length (cond c (y ∷ placed x ys) (x ∷ y ∷ ys)) ≡ suc (suc (length ys))
    by_test true e = ap suc e
    by_test false e = refl

pub count-more : (old new : List ℕ) (x : ℕ) → page_numbers new ≡ placed x (page_numbers old) → page_count new ≡ suc (page_count old)
count-more old new x e =
    sym (length-numbers new 24 (page_count new)) ∙ ap length e ∙ length-placed x (page_numbers old) ∙ ap suc (length-numbers old 24 (page_count old))

-- the numbers so far, with one in front of them
pub merged-next : (from now : List ℕ) (k left n number : ℕ) (ns : List ℕ) → left ≡ suc k → left ≤ n → number ≡ unsigned_at 8 from (24 + 8 * k) → now ≡ in_order (numbers_from from (24 + 8 * left) (n - left) ++ ns)
    → placed number now ≡ in_order (numbers_from from (24 + 8 * k) (n - k) ++ ns)
merged-next from now k left n number ns e l is so =
    let f : numbers_from from (24 + 8 * k) (n - k) ≡ unsigned_at 8 from (24 + 8 * k) ∷ numbers_from from (24 + 8 * (k + 1)) (n - (k + 1)) = from-first from 24 k n (omega (arith, e, l)) in
    let same : left ≡ k + 1 = omega (arith, e) in
    ap (placed number) so ∙ ap (λ m. placed number (in_order (numbers_from from (24 + 8 * m) (n - m) ++ ns))) same
    ∙ ap (λ z. placed z (in_order (numbers_from from (24 + 8 * (k + 1)) (n - (k + 1)) ++ ns))) is ∙ ap (λ z. in_order (z ++ ns)) (sym f)

-- a number isn't twice
pub merged-twice : (from now : List ℕ) (k left n number : ℕ) (ns : List ℕ) → left ≡ suc k → left ≤ n → number ≡ unsigned_at 8 from (24 + 8 * k) → now ≡ in_order (numbers_from from (24 + 8 * left) (n - left) ++ ns)
    → IsOnce (numbers_from from 24 n ++ ns) → 1 ≤ times number now → ⊥
merged-twice from now k left n number ns e l is so once there =
    let tail : List ℕ = numbers_from from (24 + 8 * (k + 1)) (n - (k + 1)) in
    let f : numbers_from from (24 + 8 * k) (n - k) ≡ unsigned_at 8 from (24 + 8 * k) ∷ tail = from-first from 24 k n (omega (arith, e, l)) in
    let same : left ≡ k + 1 = omega (arith, e) in
    let whole : numbers_from from 24 n ≡ numbers_from from 24 k ++ (number ∷ tail) = numbers-from from 24 k n (n - k) (omega (arith, e, l)) ∙ ap (λ z. numbers_from from 24 k ++ z) (f ∙ ap (λ z. z ∷ tail) (sym is)) in
    let a : times number (numbers_from from 24 n ++ ns) ≡ times number ((numbers_from from 24 k ++ (number ∷ tail)) ++ ns) = ap (λ z. times number (z ++ ns)) whole in
    let now_is : times number now ≡ times number (tail ++ ns) = ap (times number) (so ∙ ap (λ m. in_order (numbers_from from (24 + 8 * m) (n - m) ++ ns)) same) ∙ order-times number (tail ++ ns) in
    omega (
      arith,
      once number,
      a,
      there,
      now_is,
      times-append number tail ns,
      times-append number (numbers_from from 24 k ++ (number ∷ tail)) ns,
      times-append number (numbers_from from 24 k) (number ∷ tail),
      first number number tail,
      self number [],
    )
  where
    first : (x y : ℕ) (ys : List ℕ) → times x (y ∷ ys) ≡ times x (y ∷ []) + times x ys
    first x y ys = omega arith
