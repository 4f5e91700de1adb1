-- A page of fragments that values reach no more.
use Rattle.std.proofs.Common.{◌≡◌, ◌≢◌, ◌⊎◌, ◌≤◌, ◌<◌, ◌+◌, ◌%◌, ℕ, List, [], ◌∷◌, ◌++◌, length, Bool, true, false, cond, ◌==◌, inl, inr, refl, ap, sym, ◌∙◌, subst, arith}
use Rattle.std.specs.List.{AllByRecursion}
use Rattle.bfs_base.specs.Lists.{times, Has}
use Rattle.bfs_base.specs.declared.kind.KeyKind.{KeyKind}
use Rattle.bfs_node.specs.Page.{Row}
use Rattle.bfs_pages.specs.Shapes.{Shape}
use Rattle.bfs_pages.specs.Trees.{page_in, IsTree}
use Rattle.bfs_pages.proofs.Splice.{times-append}
use Rattle.bfs_values.specs.declared.link.Link.TheVariants.{Number, Fragment}
use Rattle.bfs_values.specs.Values.{IsFragment, fragment_count, fragment_numbers, HasValues}
use Rattle.bfs_values.specs.Reached.{times_named}
use Rattle.bfs_values.specs.Stored.{SameNumbers}
use Rattle.bfs_dups.specs.Written.{IsEmptied}
use Rattle.bfs_dups.proofs.Holding.{give, reached-once}
use Rattle.bfs_values.proofs.Opened.{exchange, own, pages_of, Open, Keeps, keep-all, rows-kept}
use Rattle.bfs_dups.proofs.Slotted.{decide, eq_no, own-self, own-page, unnamed}

pub eq_true : (a d : ℕ) → a ≡ d → (a == d) ≡ true
eq_true a d e = grind (arith, e)

pub one-off : (x p : ℕ) → x ≢ p → times x (p ∷ []) ≡ 0
one-off x p n = ap (λ c. cond c 1 0 + 0) (eq_no p x (λ e. n (sym e)))

one-self : (p : ℕ) → times p (p ∷ []) ≡ 1
one-self p = ap (λ c. cond c 1 0 + 0) (eq_true p p refl)

pub first : (x y : ℕ) (ys : List ℕ) → times x (y ∷ ys) ≡ times x (y ∷ []) + times x ys
first x y ys = omega arith

-- a list without a number
abbrev drops : ℕ → List ℕ → List ℕ
drops y [] = []
drops y (x ∷ xs) = cond (x == y) (drops y xs) (x ∷ drops y xs)

eq_is : (a d : ℕ) → (a == d) ≡ true → a ≡ d
eq_is a d e = grind (arith, e)

drops-self : (y : ℕ) (xs : List ℕ) → times y (drops y xs) ≡ 0
drops-self y [] = refl
drops-self y (x ∷ xs) = by_test (x == y) refl (drops-self y xs)
  where
    by_test : (c : Bool) → (x == y) ≡ c → times y (drops y xs) ≡ 0 → times y (cond c (drops y xs) (x ∷ drops y xs)) ≡ 0
    by_test true e ih = ih
    by_test false e ih = let z : times y (x ∷ drops y xs) ≡ 0 + times y (drops y xs) = ap (λ c. cond c 1 0 + times y (drops y xs)) e in omega (arith, z, ih)

drops-other : (y x : ℕ) (xs : List ℕ) → x ≢ y → times x (drops y xs) ≡ times x xs
drops-other y x [] n = refl
drops-other y x (z ∷ zs) n = by_test (z == y) refl (drops-other y x zs n)
  where
    by_test : (c : Bool) → (z == y) ≡ c → times x (drops y zs) ≡ times x zs → times x (cond c (drops y zs) (z ∷ drops y zs)) ≡ times x (z ∷ zs)
    by_test true e ih = let w : times x (z ∷ []) ≡ 0 = ap (λ v. times x (v ∷ [])) (eq_is z y e) ∙ one-off x y n in omega (arith, w, ih, first x z zs)
    by_test false e ih = omega (arith, ih)

-- a page of fragments goes
pub emptied : (kind : KeyKind) (b c : List ℕ) (t : Shape) (rest : List Row) (p i n : ℕ) → Open kind b t rest (Fragment p i) → length b % 1024 ≡ 0 → IsEmptied b c p i → Open kind c t rest (Number n) × SameNumbers b c rest
emptied kind b c t rest p i n o wb f = (
  record {
    fragments = drops p o.fragments;
    free = p ∷ o.free;
    tree = subst (λ z. IsTree kind c (drops p o.fragments ++ z) t (p ∷ o.free)) (sym kept.2) (give kind b c (drops p o.fragments ++ pages_of b rest) t o.free p (exchange kind b (o.fragments ++ pages_of b rest) (p ∷ (drops p o.fragments ++ pages_of b rest)) t o.free counts tree) f.given);
    mean = kept.0;
    mine = tt;
    named = λ at h. let w = o.named at (omega (arith, h, drops-other p at o.fragments (off at h))) in (w.0, omega (arith, w.1, own-page p i at w.0 (off at h)));
    there = λ at f h. omega (arith, o.there at f (omega (arith, h)), drops-other p at o.fragments (λ e. not_named at f e (omega (arith, h))));
    each = λ at f h s k.
        let q : at ≢ p = off at h in
        let w = o.each at f (omega (arith, h, drops-other p at o.fragments q)) s (subst (λ z. 0 < fragment_count z f) (f_given at q) k) in
        omega (arith, w, own-page p i at f q);
  },
  kept.1,
)
  where
    tree : IsTree kind b (o.fragments ++ pages_of b rest) t o.free
    tree = o.tree

    one : own p i (Fragment p i) ≡ 1
    one = own-self p i

    has : Has o.fragments p
    has = o.there p i (omega (arith, one))

    only : times p o.fragments + times p (pages_of b rest) ≤ 1
    only = omega (arith, reached-once kind b (o.fragments ++ pages_of b rest) t o.free p tree, times-append p o.fragments (pages_of b rest))

    f_given : (x : ℕ) → x ≢ p → page_in c x ≡ page_in b x
    f_given = f.given.pages

    off : (x : ℕ) → Has (drops p o.fragments) x → x ≢ p
    off x h = λ e. let m : Has (drops p o.fragments) p = subst (Has (drops p o.fragments)) e h in omega (arith, m, drops-self p o.fragments)

    none : (j : ℕ) → times_named p j rest ≡ 0
    none j = by_index (decide j i)
      where
        by_index : (j ≡ i) ⊎ (j ≢ i) → times_named p j rest ≡ 0
        by_index (inl e) =
            let once = o.each p i has o.mine.1.inside o.mine.1.some in
            let z : times_named p i rest ≡ 0 = omega (arith, once, one) in
            ap (λ k. times_named p k rest) e ∙ z
        by_index (inr e) = unnamed b p j rest o.mean (λ g. let z = f.free j g.inside e in let s = g.some in omega (arith, z, s))

    not_named : (at f : ℕ) → at ≡ p → 0 < times_named at f rest → ⊥
    not_named at f e h = let z : times_named at f rest ≡ 0 = ap (λ w. times_named w f rest) e ∙ none f in omega (arith, z, h)

    counts : (x : ℕ) → times x (p ∷ (drops p o.fragments ++ pages_of b rest)) ≡ times x (o.fragments ++ pages_of b rest)
    counts x = by_page (decide x p)
      where
        by_page : (x ≡ p) ⊎ (x ≢ p) → times x (p ∷ (drops p o.fragments ++ pages_of b rest)) ≡ times x (o.fragments ++ pages_of b rest)
        by_page (inr e) = omega (arith, first x p (drops p o.fragments ++ pages_of b rest), one-off x p e, drops-other p x o.fragments e, times-append x (drops p o.fragments) (pages_of b rest), times-append x o.fragments (pages_of b rest))
        by_page (inl e) = subst (λ w. times w (p ∷ (drops p o.fragments ++ pages_of b rest)) ≡ times w (o.fragments ++ pages_of b rest)) (sym e)
            (omega (arith, first p p (drops p o.fragments ++ pages_of b rest), one-self p, drops-self p o.fragments, times-append p (drops p o.fragments) (pages_of b rest), times-append p o.fragments (pages_of b rest), only, has))

    apart : (x : ℕ) → 1 ≤ times x (pages_of b rest) → x ≢ p
    apart x h = λ e. let m : 1 ≤ times p (pages_of b rest) = subst (λ z. 1 ≤ times z (pages_of b rest)) e h in omega (arith, m, has, only)

    keeps : (q j : ℕ) → 0 < times_named q j rest → Keeps b c (Fragment q j)
    keeps q j h = let n : page_in c q ≡ page_in b q = f_given q (λ e. not_named q j e h) in (λ g. subst (λ z. IsFragment z j) (sym n) g, λ g. ap (λ z. fragment_numbers z j) n)

    kept : AllByRecursion (λ r. HasValues c r.1) rest × SameNumbers b c rest × (pages_of c rest ≡ pages_of b rest)
    kept = rows-kept b c rest wb (ap (λ n. n % 1024) f.given.size ∙ wb) (omega (arith, f.given.size)) (keep-all b c rest (λ x h. f_given x (apart x h)) keeps) o.mean
