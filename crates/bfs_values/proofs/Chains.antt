-- The pages of a chain: the first and the others.
use Rattle.std.proofs.Common.{◌≡◌, ◌≢◌, ◌≤◌, ◌<◌, ◌+◌, ◌-◌, ◌/◌, ◌%◌, ℕ, zero, suc, List, [], ◌∷◌, ◌++◌, length, Bool, true, false, cond, ◌==◌, inl, inr, refl, ap, sym, ◌∙◌, subst, arith, append_assoc, append-nil}
use Rattle.bfs_pages.specs.Answers.{IsChild, IsLink}
use Rattle.bfs_pages.specs.Trees.{page_in, is_place}
use Rattle.bfs_values.specs.Values.{IsDuplicates, page_numbers, next_of, EndsAfter, chain_from, numbers_of_pages, AreDuplicates}

eq_yes : (a b : ℕ) → a ≡ b → (a == b) ≡ true
eq_yes a b e = grind (arith, e)

eq_no : (a b : ℕ) → a ≢ b → (a == b) ≡ false
eq_no a b n = by_test (a == b) refl
  where
    same : (a b : ℕ) → (a == b) ≡ true → a ≡ b
    same a b e = grind (arith, e)

    by_test : (c : Bool) → (a == b) ≡ c → (a == b) ≡ false
    by_test true e = absurd (n (same a b e))
    by_test false e = e

pub chain-last : (b : List ℕ) (left at : ℕ) → 0 < left → next_of b at ≡ 0 → chain_from b left at ≡ at ∷ []
chain-last b zero at l e = absurd (omega (arith, l))
chain-last b (suc n) at l e = ap (λ c. at ∷ cond c [] (chain_from b n (next_of b at))) (eq_yes (next_of b at) 0 e)

pub chain-next : (b : List ℕ) (left at : ℕ) → 0 < left → next_of b at ≢ 0 → chain_from b left at ≡ at ∷ chain_from b (left - 1) (next_of b at)
chain-next b zero at l e = absurd (omega (arith, l))
chain-next b (suc n) at l e =
    let m : n ≡ suc n - 1 = omega arith in
    ap (λ c. at ∷ cond c [] (chain_from b n (next_of b at))) (eq_no (next_of b at) 0 e) ∙ ap (λ k. at ∷ chain_from b k (next_of b at)) m

-- the links from a page whose next one is there go on from that
pub ends-next : (b : List ℕ) (n at : ℕ) → EndsAfter b n at → next_of b at ≢ 0 → (m : ℕ) × EndsAfter b m (next_of b at)
ends-next b zero at e n = absurd (n e)
ends-next b (suc m) at e n = (m, e.1)

pub ends-link : (b : List ℕ) (n at : ℕ) → EndsAfter b n at → IsLink (length b) (next_of b at)
ends-link b zero at e = inl e
ends-link b (suc n) at e = inr e.0

pub the-child : (size x : ℕ) → IsLink size x → x ≢ 0 → IsChild size x
the-child size x (inl z) n = absurd (n z)
the-child size x (inr p) n = p

-- the pages from one on: it is a duplicate page, and so are the others
pub first-good : (b : List ℕ) (pages : List ℕ) (at : ℕ) (rest : List ℕ) → pages ≡ at ∷ rest → AreDuplicates b pages → IsDuplicates (page_in b at) × AreDuplicates b rest
first-good b pages at rest e a = subst (λ z. AreDuplicates b z) e a

pub first-added : (b old now whole pages : List ℕ) (at : ℕ) (rest : List ℕ) → pages ≡ at ∷ rest → old ++ numbers_of_pages b pages ≡ whole → now ≡ old ++ page_numbers (page_in b at) → now ++ numbers_of_pages b rest ≡ whole
first-added b old now whole pages at rest e h n =
    ap (λ z. z ++ numbers_of_pages b rest) n ∙ append_assoc old (page_numbers (page_in b at)) (numbers_of_pages b rest) ∙ ap (λ z. old ++ numbers_of_pages b z) (sym e) ∙ h

pub good_here : (b : List ℕ) (left at : ℕ) → 0 < left → AreDuplicates b (chain_from b left at) → IsDuplicates (page_in b at)
good_here b zero at l a = absurd (omega (arith, l))
good_here b (suc n) at l a = a.0

pub some_pages : (b : List ℕ) (left at : ℕ) → 0 < left → 1 ≤ length (chain_from b left at)
some_pages b zero at l = absurd (omega (arith, l))
some_pages b (suc n) at l = omega arith

pub nothing-more : (xs : List ℕ) → xs ++ [] ≡ xs
nothing-more xs = append-nil xs

-- a duplicate page before those of a chain
pub good-before : (b : List ℕ) (left at next : ℕ) → 1 ≤ left → next_of b at ≢ 0 → next ≡ next_of b at → IsDuplicates (page_in b at) → AreDuplicates b (chain_from b (left - 1) next) → AreDuplicates b (chain_from b left at)
good-before b left at next l off e good rest =
    subst (λ z. AreDuplicates b z) (sym (chain-next b left at (omega (arith, l)) off)) (good, subst (λ x. AreDuplicates b (chain_from b (left - 1) x)) e rest)

below : (size at : ℕ) → is_place size at ≡ true → at + 1 ≤ size
below size at p = grind (arith, p)

-- a stream with a page beside the header has a page
pub first-page : (size at long : ℕ) → long ≡ size → size % 1024 ≡ 0 → IsChild size at → 1 ≤ long / 1024
first-page size at long e w p = omega (arith, e, w, below size at p.1)

-- a page after which there are no more has no next one
pub last-page : (b : List ℕ) (n at : ℕ) → n ≡ 0 → EndsAfter b n at → next_of b at ≡ 0
last-page b zero at e d = d
last-page b (suc n) at e d = absurd (omega (arith, e))
