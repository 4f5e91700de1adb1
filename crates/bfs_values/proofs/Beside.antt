-- The neighbours of the pages of a chain.
use Rattle.std.proofs.Common.{◌≡◌, ◌≢◌, ◌≤◌, ◌<◌, ◌+◌, ◌^◌, ℕ, ℤ, pos, negsuc, zero, suc, List, [], ◌∷◌, ◌++◌, true, false, Bool, cond, ◌==◌, ap, sym, ◌∙◌, subst, arith, refl, w64, SFits}
use borrow.Author.Gap.{read_sfits}
use Rattle.bfs_base.specs.Lists.{times}
use Rattle.bfs_bytes.specs.Fields.{unsigned_at, signed64_at}
use Rattle.bfs_pages.specs.Trees.{page_in, neighbours_in, place_of, head_or, Linked}
use Rattle.bfs_pages.proofs.Laws.{same-links}
use Rattle.bfs_pages.proofs.Splice.{self}
use Rattle.bfs_values.specs.Values.{next_of}
use Rattle.bfs_values.specs.Chained.{Chained}

first : (x y : ℕ) (ys : List ℕ) → times x (y ∷ ys) ≡ times x (y ∷ []) + times x ys
first x y ys = omega arith

eq_is : (a d : ℕ) → (a == d) ≡ true → a ≡ d
eq_is a d e = grind (arith, e)

place-small : (z : ℤ) → SFits w64 z → place_of z < 2 ^ 63
place-small (pos zero) f = omega arith
place-small (pos (suc n)) f = omega (arith, f.sfits)
place-small (negsuc zero) f = omega arith
place-small (negsuc (suc n)) f = omega arith

-- a place that a right link names is a small number
pub right-small : (page : List ℕ) → (neighbours_in page).1 < 2 ^ 63
unfolding signed64_at
right-small page = place-small _ (read_sfits w64 (unsigned_at 8 page 8))

-- and so is each page of a chain
pub chain-small : (b : List ℕ) (p x : ℕ) (xs : List ℕ) → p < 2 ^ 63 → Chained b p xs → 1 ≤ times x xs → x < 2 ^ 63
chain-small b p x [] s c i = absurd (omega (arith, i))
chain-small b p x (y ∷ ys) s c i = by_page (y == x) refl (λ h. chain-small b (next_of b y) x ys (right-small (page_in b y)) c.2 h)
  where
    by_page : (t : Bool) → (y == x) ≡ t → (1 ≤ times x ys → x < 2 ^ 63) → x < 2 ^ 63
    by_page true e rest = subst (λ z. z < 2 ^ 63) (c.0 ∙ eq_is y x e) s
    by_page false e rest = let z : times x (y ∷ []) ≡ 0 = ap (λ t. cond t 1 0 + 0) e in rest (omega (arith, i, z, first x y ys))

-- pages with the same neighbours on both sides
pub both-sides : (old new : List ℕ) → (neighbours_in new).0 ≡ (neighbours_in old).0 → (neighbours_in new).1 ≡ (neighbours_in old).1 → neighbours_in new ≡ neighbours_in old
both-sides old new l r = λ i. (l i, r i)

pub pair-of : (page : List ℕ) (a b : ℕ) → (neighbours_in page).0 ≡ a → (neighbours_in page).1 ≡ b → neighbours_in page ≡ (a, b)
pair-of page a b l r = λ i. (l i, r i)

abbrev pub links_in : List ℕ → ℕ → ℕ × ℕ
links_in b x = neighbours_in (page_in b x)

-- a page comes behind the last one
pub linked-more : (b c : List ℕ) (x prev last q : ℕ) (xs : List ℕ) → next_of b last ≡ 0 → links_in c last ≡ ((links_in b last).0, q) → links_in c q ≡ (last, 0) → ((y : ℕ) → 1 ≤ times y xs → y ≢ last → links_in c y ≡ links_in b y) → 1 ≤ times last xs → Chained b x xs
    → Linked (links_in b) prev xs 0 → Linked (links_in c) prev (xs ++ (q ∷ [])) 0
linked-more b c x prev last q [] old new end same here d l = absurd (omega (arith, here))
linked-more b c x prev last q (y ∷ []) old new end same here d l =
    let e : y ≡ last = only (y == last) refl in (
      ap (links_in c) e ∙ new ∙ ap (λ (w : ℕ × ℕ). (w.0, q)) (ap (links_in b) (sym e) ∙ l.0),
      (end ∙ ap (λ z. (z, 0)) (sym e), tt),
    )
  where
    only : (t : Bool) → (y == last) ≡ t → y ≡ last
    only true e = eq_is y last e
    only false e = let z : times last (y ∷ []) ≡ 0 = ap (λ t. cond t 1 0 + 0) e in absurd (omega (arith, here, z))
linked-more b c x prev last q (y ∷ (z ∷ zs)) old new end same here d l =
    let off : y ≢ last = λ e. not_zero (subst (λ w. 1 ≤ w) (sym d.2.0 ∙ ap (next_of b) e ∙ old) d.2.1.0) in (
      same y (self y (z ∷ zs)) off ∙ l.0,
      linked-more b c (next_of b y) y last q (z ∷ zs) old new end (λ w i n. same w (omega (arith, i, first w y (z ∷ zs))) n) (omega (arith, here, zero_at (y == last) refl off, first last y (z ∷ zs))) d.2 l.1,
    )
  where
    not_zero : 1 ≤ 0 → ⊥
    not_zero h = omega (arith, h)

    zero_at : (t : Bool) → (y == last) ≡ t → y ≢ last → times last (y ∷ []) ≡ 0
    zero_at true e n = absurd (n (eq_is y last e))
    zero_at false e n = ap (λ t. cond t 1 0 + 0) e

-- what is true of the pages behind one that went
abbrev pub Closer : (ℕ → ℕ × ℕ) → (ℕ → ℕ × ℕ) → ℕ → List ℕ → Type 0
Closer old new q [] = Unit {0}
Closer old new q (y ∷ ys) = (new y ≡ (q, (old y).1)) × ((x : ℕ) → 1 ≤ times x ys → new x ≡ old x)

-- a page goes from between its neighbours
pub linked-past : (old new : ℕ → ℕ × ℕ) (prev : ℕ) (us : List ℕ) (q s : ℕ) (xs : List ℕ) → ((x : ℕ) → 1 ≤ times x us → new x ≡ old x) → new q ≡ ((old q).0, (old s).1) → Closer old new q xs → Linked old prev (us ++ (q ∷ (s ∷ xs))) 0 → Linked new prev (us ++ (q ∷ xs)) 0
linked-past old new prev [] q s xs same nq close l = (nq ∙ pair l.0 l.1.0, behind xs close l.1.1)
  where
    pair : {h : ℕ} → old q ≡ (prev, s) → old s ≡ (q, h) → ◌≡◌ {A = ℕ × ℕ} ((old q).0, (old s).1) (prev, h)
    pair a b = λ i. ((a i).0, (b i).1)

    behind : (xs : List ℕ) → Closer old new q xs → Linked old s xs 0 → Linked new q xs 0
    behind [] c l = tt
    behind (y ∷ ys) c l = (c.0 ∙ ap (λ (w : ℕ × ℕ). (q, w.1)) l.0, same-links old new y ys 0 c.1 l.1)
linked-past old new prev (u ∷ us) q s xs same nq close l = (
  same u (self u us) ∙ l.0 ∙ ap (λ w. (prev, w)) (heads us),
  linked-past old new u us q s xs (λ x i. same x (omega (arith, i, first x u us))) nq close l.1,
)
  where
    heads : (us : List ℕ) → head_or 0 (us ++ (q ∷ (s ∷ xs))) ≡ head_or 0 (us ++ (q ∷ xs))
    heads [] = refl
    heads (v ∷ vs) = refl
