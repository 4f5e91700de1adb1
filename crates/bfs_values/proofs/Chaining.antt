-- The pages of a chain: what they are, and that they stay.
use Rattle.std.proofs.Common.{◌≡◌, ◌≤◌, ◌*◌, ◌/◌, ◌%◌, ℕ, zero, suc, List, [], ◌∷◌, ◌++◌, length, true, false, cond, ◌==◌, refl, ap, sym, ◌∙◌, subst, arith}
use Rattle.bfs_base.specs.Lists.{times}
use Rattle.bfs_pages.specs.Answers.{IsChild}
use Rattle.bfs_pages.specs.Trees.{page_in, neighbours_in, is_place}
use Rattle.bfs_pages.proofs.Splice.{self}
use Rattle.bfs_values.specs.Values.{next_of, EndsAfter, chain_from, chain_of, page_numbers, numbers_of_pages, IsDuplicates, AreDuplicates}
use Rattle.bfs_values.proofs.Ending.{ends-soon}
use Rattle.bfs_values.specs.Chained.{Chained}

eq_zero : (a : ℕ) → a ≡ 0 → (a == 0) ≡ true
eq_zero a e = grind (arith, e)

eq_some : (a : ℕ) → 1 ≤ a → (a == 0) ≡ false
eq_some a e = grind (arith, e)

pub whole-pages : (n : ℕ) → n % 1024 ≡ 0 → n ≡ 1024 * (n / 1024)
whole-pages n e = omega (arith, e)

-- a place in a stream is one in a longer stream
pub child-more : (m n x : ℕ) → m ≤ n → IsChild m x → IsChild n x
child-more m n x l c = (c.0, more c.1)
  where
    more : is_place m x ≡ true → is_place n x ≡ true
    more h = grind (arith, h, l)

-- links that end lead along a list of pages
pub ends-chained : (b : List ℕ) (n x : ℕ) → IsChild (length b) x → EndsAfter b n x → (xs : List ℕ) × Chained b x (x ∷ xs)
ends-chained b zero x c e = ([], (refl, c, e))
ends-chained b (suc n) x c e = let r = ends-chained b n (next_of b x) e.0 e.1 in (next_of b x ∷ r.0, (refl, c, r.1))

pub chained-ends : (b : List ℕ) (x y : ℕ) (ys : List ℕ) → Chained b x (y ∷ ys) → EndsAfter b (length ys) y
chained-ends b x y [] c = c.2
chained-ends b x y (z ∷ zs) c = (subst (λ w. IsChild (length b) w) (sym c.2.0) c.2.1, subst (λ w. EndsAfter b (length zs) w) (sym c.2.0) (chained-ends b (next_of b y) z zs c.2))

from-chained : (b : List ℕ) (fuel x y : ℕ) (ys : List ℕ) → Chained b x (y ∷ ys) → length (y ∷ ys) ≤ fuel → chain_from b fuel y ≡ y ∷ ys
from-chained b zero x y ys c l = absurd (omega (arith, l))
from-chained b (suc fuel) x y [] c l = ap (λ t. y ∷ cond t [] (chain_from b fuel (next_of b y))) (eq_zero (next_of b y) c.2)
from-chained b (suc fuel) x y (z ∷ zs) c l =
    let some : 1 ≤ next_of b y = subst (λ w. 1 ≤ w) (sym c.2.0) c.2.1.0 in
    ap (λ t. y ∷ cond t [] (chain_from b fuel (next_of b y))) (eq_some (next_of b y) some)
    ∙ ap (λ w. y ∷ chain_from b fuel w) c.2.0
    ∙ ap (λ w. y ∷ w) (from-chained b fuel (next_of b y) z zs c.2 (omega (arith, l)))

-- they are the pages of the chain
pub chain-is : (b : List ℕ) (x : ℕ) (xs : List ℕ) → length b % 1024 ≡ 0 → 1 ≤ x → Chained b x xs → chain_of b x ≡ xs
chain-is b x [] w some c = absurd (omega (arith, some, c))
chain-is b x (y ∷ ys) w some c =
    ap (chain_of b) c.0 ∙ from-chained b (length b / 1024) x y ys c (omega (arith, ends-soon b (length b / 1024) (length ys) y (whole-pages (length b) w) c.1 (chained-ends b x y ys c)))

pub chain-there : (b : List ℕ) (n x : ℕ) → length b % 1024 ≡ 0 → IsChild (length b) x → EndsAfter b n x → (xs : List ℕ) × Chained b x (x ∷ xs) × (chain_of b x ≡ x ∷ xs)
chain-there b n x w c e = let r = ends-chained b n x c e in (r.0, r.1, chain-is b x (x ∷ r.0) w c.0 r.1)

less : (x y : ℕ) (ys : List ℕ) → times x ys ≤ times x (y ∷ ys)
less x y ys = omega arith

-- the pages of a chain stay, and so it does
pub chained-kept : (b c : List ℕ) (x : ℕ) (xs : List ℕ) → length b ≤ length c → ((y : ℕ) → 1 ≤ times y xs → page_in c y ≡ page_in b y) → Chained b x xs → Chained c x xs
chained-kept b c x [] l h d = d
chained-kept b c x (y ∷ ys) l h d = (
  d.0,
  child-more (length b) (length c) y l d.1,
  subst (λ w. Chained c w ys) (sym (ap (λ p. (neighbours_in p).1) (h y (self y ys)))) (chained-kept b c (next_of b y) ys l (λ z i. h z (omega (arith, i, less z y ys))) d.2),
)

pub numbers-kept : (b c : List ℕ) (xs : List ℕ) → ((y : ℕ) → 1 ≤ times y xs → page_in c y ≡ page_in b y) → numbers_of_pages c xs ≡ numbers_of_pages b xs
numbers-kept b c [] h = refl
numbers-kept b c (y ∷ ys) h =
    ap (λ p. page_numbers p ++ numbers_of_pages c ys) (h y (self y ys)) ∙ ap (λ ns. page_numbers (page_in b y) ++ ns) (numbers-kept b c ys (λ z i. h z (omega (arith, i, less z y ys))))

pub duplicates-kept : (b c : List ℕ) (xs : List ℕ) → ((y : ℕ) → 1 ≤ times y xs → page_in c y ≡ page_in b y) → AreDuplicates b xs → AreDuplicates c xs
duplicates-kept b c [] h d = tt
duplicates-kept b c (y ∷ ys) h d = (subst (λ p. IsDuplicates p) (sym (h y (self y ys))) d.0, duplicates-kept b c ys (λ z i. h z (omega (arith, i, less z y ys))) d.1)
