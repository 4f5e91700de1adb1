-- A walk along the pages of a chain, to the page that has a number.
use Rattle.std.proofs.Common.{◌≡◌, ◌≢◌, ◌≤◌, ℕ, List, [], ◌∷◌, ◌++◌, length, inl, inr, refl, ap, sym, ◌∙◌, subst, arith, append_assoc}
use Rattle.bfs_base.specs.Lists.{times}
use Rattle.bfs_pages.specs.Answers.{IsChild, IsLink}
use Rattle.bfs_pages.specs.Trees.{page_in}
use Rattle.bfs_pages.proofs.Splice.{times-append}
use Rattle.bfs_values.specs.Values.{page_numbers, next_of, AreDuplicates, numbers_of_pages}
use Rattle.bfs_values.specs.Chained.{Chained}
use Rattle.bfs_dups.proofs.Scanning.{numbers-append}
use Rattle.bfs_dups_remove.specs.Shortened.{IsBehind, IsLocated}

-- the pages in front of this one haven't the number, and this one and those behind it are the rest of the chain
pub record IsWalked (b xs : List ℕ) (number before at : ℕ) : Type 0 where
  pub front : List ℕ
  pub back : List ℕ
  pub parts : xs ≡ front ++ (at ∷ back)
  pub absent : times number (numbers_of_pages b front) ≡ 0
  pub chain : Chained b at (at ∷ back)
  pub good : AreDuplicates b (at ∷ back)
  pub behind : IsBehind front before

pub walked-first : (b xs : List ℕ) (number first : ℕ) → 1 ≤ first → Chained b first xs → AreDuplicates b xs → IsWalked b xs number 0 first
walked-first b [] number first some c d = absurd (omega (arith, some, c))
walked-first b (x ∷ xs) number first some c d = record {
  front = [];
  back = xs;
  parts = ap (λ z. z ∷ xs) (sym c.0);
  absent = refl;
  chain = subst (λ z. Chained b z (z ∷ xs)) (sym c.0) (refl, c.1, c.2);
  good = subst (λ z. AreDuplicates b (z ∷ xs)) (sym c.0) d;
  behind = inl (refl, refl);
}

pub walked-there : (b xs : List ℕ) (number before at : ℕ) → IsWalked b xs number before at → IsLocated xs at before
walked-there b xs number before at w = record { front = w.front; back = w.back; parts = w.parts; behind = w.behind }

-- the walk ends here
pub walked-last : (b xs : List ℕ) (number before at : ℕ) → IsWalked b xs number before at → times number (page_numbers (page_in b at)) ≡ 0 → next_of b at ≡ 0 → times number (numbers_of_pages b xs) ≡ 0
walked-last b xs number before at s n e = by_back s.back refl
  where
    by_back : (ys : List ℕ) → s.back ≡ ys → times number (numbers_of_pages b xs) ≡ 0
    by_back (y ∷ ys) is =
        let c : Chained b (next_of b at) (y ∷ ys) = subst (λ z. Chained b (next_of b at) z) is s.chain.2 in
        let z : y ≡ 0 = sym c.0 ∙ e in absurd (not_zero (subst (λ w. 1 ≤ w) z c.1.0))
      where
        not_zero : 1 ≤ 0 → ⊥
        not_zero h = omega (arith, h)
    by_back [] is =
        let whole : xs ≡ s.front ++ (at ∷ []) = s.parts ∙ ap (λ z. s.front ++ (at ∷ z)) is in
        let t : times number (numbers_of_pages b xs) ≡ times number (numbers_of_pages b s.front ++ numbers_of_pages b (at ∷ [])) = ap (λ z. times number (numbers_of_pages b z)) whole ∙ ap (times number) (numbers-append b s.front (at ∷ [])) in
        omega (arith, t, n, s.absent, times-append number (numbers_of_pages b s.front) (numbers_of_pages b (at ∷ [])), times-append number (page_numbers (page_in b at)) [])

-- the walk goes on to the next page
pub walked-next : (b xs : List ℕ) (number before at next : ℕ) → IsWalked b xs number before at → times number (page_numbers (page_in b at)) ≡ 0 → next ≡ next_of b at → next ≢ 0 → at ≢ 0 → IsWalked b xs number at next
walked-next b xs number before at next s n e some this = by_back s.back refl
  where
    by_back : (ys : List ℕ) → s.back ≡ ys → IsWalked b xs number at next
    by_back [] is = absurd (some (e ∙ subst (λ z. Chained b (next_of b at) z) is s.chain.2))
    by_back (y ∷ ys) is =
        let c : Chained b (next_of b at) (y ∷ ys) = subst (λ z. Chained b (next_of b at) z) is s.chain.2 in
        let at_is : next ≡ y = e ∙ c.0 in record {
          front = s.front ++ (at ∷ []);
          back = ys;
          parts = s.parts ∙ ap (λ z. s.front ++ (at ∷ z)) is ∙ ap (λ w. s.front ++ (at ∷ (w ∷ ys))) (sym at_is) ∙ sym (append_assoc s.front (at ∷ []) (next ∷ ys));
          absent =
              let t : times number (numbers_of_pages b (s.front ++ (at ∷ []))) ≡ times number (numbers_of_pages b s.front ++ numbers_of_pages b (at ∷ [])) = ap (times number) (numbers-append b s.front (at ∷ [])) in
              omega (arith, t, n, s.absent, times-append number (numbers_of_pages b s.front) (numbers_of_pages b (at ∷ [])), times-append number (page_numbers (page_in b at)) []);
          chain = subst (λ z. Chained b z (z ∷ ys)) (sym at_is) (refl, c.1, c.2);
          good = subst (λ z. AreDuplicates b (z ∷ ys)) (sym at_is) (subst (λ z. AreDuplicates b z) is s.good.1);
          behind = inr (this, (s.front, refl));
        }

pub walked-link : (b xs : List ℕ) (number before at : ℕ) (s : IsWalked b xs number before at) → IsLink (length b) (next_of b at)
walked-link b xs number before at s = by_back s.back s.chain.2
  where
    by_back : (ys : List ℕ) → Chained b (next_of b at) ys → IsLink (length b) (next_of b at)
    by_back [] c = inl c
    by_back (y ∷ ys) c = inr (subst (λ z. IsChild (length b) z) (sym c.0) c.1)

pub child-some : (n x : ℕ) → IsChild n x → x ≢ 0
child-some n x c = λ e. omega (arith, c.0, e)
