-- Numbers of a page after others were written.
use Rattle.std.proofs.Common.{◌≡◌, ◌⊎◌, ◌≤◌, ◌<◌, ◌+◌, ◌*◌, ◌-◌, ◌^◌, ℕ, zero, suc, List, ◌∷◌, ◌++◌, length, inl, inr, refl, ap, sym, ◌∙◌, arith}
use Rattle.bfs_bytes.specs.Fields.{Puts, unsigned_at, unsigned_bytes}
use Rattle.bfs_bytes.proofs.Lengths.{length-unsigned_bytes}
use Rattle.bfs_bytes.proofs.Kept.{unsigned-kept, unsigned-put}
use Rattle.bfs_values.specs.Values.{numbers_from}
use Rattle.bfs_dups.specs.Slots.{SameBut}

pub put-same : (old new : List ℕ) (at n : ℕ) → Puts at (unsigned_bytes 8 n) old new → at + 8 ≤ length old → SameBut old new at (at + 8)
put-same old new at n p f m a =
    let l : length (unsigned_bytes 8 n) ≡ 8 = length-unsigned_bytes 8 n in
    by_side l a
  where
    by_side : length (unsigned_bytes 8 n) ≡ 8 → (m + 8 ≤ at) ⊎ (at + 8 ≤ m) → unsigned_at 8 new m ≡ unsigned_at 8 old m
    by_side l (inl a) = unsigned-kept at (unsigned_bytes 8 n) old new p (omega (arith, l, f)) 8 m (inl (omega (arith, a)))
    by_side l (inr a) = unsigned-kept at (unsigned_bytes 8 n) old new p (omega (arith, l, f)) 8 m (inr (omega (arith, a, l)))

pub put-here : (old new : List ℕ) (at n : ℕ) → Puts at (unsigned_bytes 8 n) old new → at + 8 ≤ length old → n < 2 ^ 64 → unsigned_at 8 new at ≡ n
put-here old new at n p f s =
    let l : length (unsigned_bytes 8 n) ≡ 8 = length-unsigned_bytes 8 n in
    unsigned-put at old new 8 n p (omega (arith, l, f)) s

-- numbers whose bytes stay
pub same-numbers : (old new : List ℕ) (a b n : ℕ) → ((j : ℕ) → j < n → unsigned_at 8 new (b + 8 * j) ≡ unsigned_at 8 old (a + 8 * j)) → numbers_from new b n ≡ numbers_from old a n
same-numbers old new a b zero h = refl
same-numbers old new a b (suc n) h =
    let b0 : b ≡ b + 8 * 0 = omega arith in
    let a0 : a + 8 * 0 ≡ a = omega arith in
    let first : unsigned_at 8 new b ≡ unsigned_at 8 old a = ap (unsigned_at 8 new) b0 ∙ h 0 (omega arith) ∙ ap (unsigned_at 8 old) a0 in
    ap (λ x. x ∷ numbers_from new (b + 8) n) first
    ∙ ap (λ xs. unsigned_at 8 old a ∷ xs) (same-numbers old new (a + 8) (b + 8) n (λ j l. ap (unsigned_at 8 new) (later b j) ∙ h (suc j) (omega (arith, l)) ∙ ap (unsigned_at 8 old) (sym (later a j))))
  where
    later : (k j : ℕ) → k + 8 + 8 * j ≡ k + 8 * suc j
    later k j = omega arith

pub kept-numbers : (old new : List ℕ) (from to a n : ℕ) → SameBut old new from to → (a + 8 * n ≤ from) ⊎ (to ≤ a) → numbers_from new a n ≡ numbers_from old a n
kept-numbers old new from to a n s w = same-numbers old new a a n (λ j l. s (a + 8 * j) (by_side j l w))
  where
    by_side : (j : ℕ) → j < n → (a + 8 * n ≤ from) ⊎ (to ≤ a) → (a + 8 * j + 8 ≤ from) ⊎ (to ≤ a + 8 * j)
    by_side j l (inl h) = inl (omega (arith, l, h))
    by_side j l (inr h) = inr (omega (arith, h))

-- more changed later
pub same-twice : (a b c : List ℕ) (f t g u from to : ℕ) → SameBut a b f t → SameBut b c g u → from ≤ f → from ≤ g → t ≤ to → u ≤ to → SameBut a c from to
same-twice a b c f t g u from to s r lf lg lt lu m (inl h) = r m (inl (omega (arith, h, lg))) ∙ s m (inl (omega (arith, h, lf)))
same-twice a b c f t g u from to s r lf lg lt lu m (inr h) = r m (inr (omega (arith, h, lu))) ∙ s m (inr (omega (arith, h, lt)))

-- numbers that fall apart
pub numbers-split : (page : List ℕ) (a i n : ℕ) → numbers_from page a (i + n) ≡ numbers_from page a i ++ numbers_from page (a + 8 * i) n
numbers-split page a zero n =
    let first : 0 + n ≡ n = omega arith in
    let at : a ≡ a + 8 * 0 = omega arith in
    ap (numbers_from page a) first ∙ ap (λ k. numbers_from page k n) at
numbers-split page a (suc i) n =
    let first : suc i + n ≡ suc (i + n) = omega arith in
    let at : a + 8 + 8 * i ≡ a + 8 * suc i = omega arith in
    ap (numbers_from page a) first
    ∙ ap (λ xs. unsigned_at 8 page a ∷ xs) (numbers-split page (a + 8) i n ∙ ap (λ k. numbers_from page (a + 8) i ++ numbers_from page k n) at)

pub numbers-from : (page : List ℕ) (a i n m : ℕ) → n ≡ i + m → numbers_from page a n ≡ numbers_from page a i ++ numbers_from page (a + 8 * i) m
numbers-from page a i n m e = ap (numbers_from page a) e ∙ numbers-split page a i m

pub length-numbers : (page : List ℕ) (a n : ℕ) → length (numbers_from page a n) ≡ n
length-numbers page a zero = refl
length-numbers page a (suc n) = ap suc (length-numbers page (a + 8) n)

-- a list copied with a number between
pub inserted : (old p1 p2 p3 : List ℕ) (a b i n number : ℕ) → i ≤ n → numbers_from p1 b i ≡ numbers_from old a i → SameBut p1 p2 (b + 8 * i) (b + 8 * i + 8) → unsigned_at 8 p2 (b + 8 * i) ≡ number
    → SameBut p2 p3 (b + 8 * (i + 1)) (b + 8 * (i + 1) + 8 * (n - i)) → numbers_from p3 (b + 8 * (i + 1)) (n - i) ≡ numbers_from old (a + 8 * i) (n - i)
    → numbers_from p3 b (n + 1) ≡ numbers_from old a i ++ (number ∷ numbers_from old (a + 8 * i) (n - i))
inserted old p1 p2 p3 a b i n number l first s12 here s23 last =
    let whole : n + 1 ≡ i + suc (n - i) = omega (arith, l) in
    let next : b + 8 * i + 8 ≡ b + 8 * (i + 1) = omega arith in
    let front : numbers_from p3 b i ≡ numbers_from old a i = kept-numbers p2 p3 (b + 8 * (i + 1)) (b + 8 * (i + 1) + 8 * (n - i)) b i s23 (inl (omega arith)) ∙ kept-numbers p1 p2 (b + 8 * i) (b + 8 * i + 8) b i s12 (inl (omega arith)) ∙ first in
    let mid : unsigned_at 8 p3 (b + 8 * i) ≡ number = s23 (b + 8 * i) (inl (omega arith)) ∙ here in
    numbers-from p3 b i (n + 1) (suc (n - i)) whole
    ∙ ap (λ xs. xs ++ (unsigned_at 8 p3 (b + 8 * i) ∷ numbers_from p3 (b + 8 * i + 8) (n - i))) front
    ∙ ap (λ x. numbers_from old a i ++ (x ∷ numbers_from p3 (b + 8 * i + 8) (n - i))) mid
    ∙ ap (λ k. numbers_from old a i ++ (number ∷ numbers_from p3 k (n - i))) next
    ∙ ap (λ xs. numbers_from old a i ++ (number ∷ xs)) last

-- a list copied without one of its numbers
pub removed : (old p1 p2 : List ℕ) (a b i n : ℕ) → i < n → numbers_from p1 b i ≡ numbers_from old a i → SameBut p1 p2 (b + 8 * i) (b + 8 * i + 8 * (n - (i + 1))) → numbers_from p2 (b + 8 * i) (n - (i + 1)) ≡ numbers_from old (a + 8 * (i + 1)) (n - (i + 1))
    → numbers_from p2 b (n - 1) ≡ numbers_from old a i ++ numbers_from old (a + 8 * (i + 1)) (n - (i + 1))
removed old p1 p2 a b i n l first s12 last =
    let whole : n - 1 ≡ i + (n - (i + 1)) = omega (arith, l) in
    numbers-from p2 b i (n - 1) (n - (i + 1)) whole
    ∙ ap (λ xs. xs ++ numbers_from p2 (b + 8 * i) (n - (i + 1))) (kept-numbers p1 p2 (b + 8 * i) (b + 8 * i + 8 * (n - (i + 1))) b i s12 (inl (omega arith)) ∙ first)
    ∙ ap (λ xs. numbers_from old a i ++ xs) last
