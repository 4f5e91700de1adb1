-- Pages that values reach since.
use Rattle.std.proofs.Common.{◌≡◌, ◌≢◌, ◌⊎◌, ◌≤◌, ◌<◌, ◌+◌, ◌%◌, ℕ, List, ◌∷◌, ◌++◌, length, Some, Bool, true, false, cond, ◌==◌, inl, inr, refl, ap, sym, ◌∙◌, subst, arith}
use Rattle.std.specs.List.{AllByRecursion}
use Rattle.bfs_base.specs.Lists.{times, Has}
use Rattle.bfs_base.specs.declared.kind.KeyKind.{KeyKind}
use Rattle.bfs_node.specs.Page.{Row}
use Rattle.bfs_pages.specs.Shapes.{Shape}
use Rattle.bfs_pages.specs.Trees.{page_in, state_of, IsTree}
use Rattle.bfs_pages.proofs.Splice.{self, times-append}
use Rattle.bfs_values.specs.declared.link.Link.TheVariants.{Number, Fragment}
use Rattle.bfs_values.specs.Values.{IsFragment, fragment_count, fragment_numbers, HasValues}
use Rattle.bfs_values.specs.Reached.{times_named}
use Rattle.bfs_values.specs.Stored.{SameNumbers}
use Rattle.bfs_dups.proofs.Emptied.{eq_true, first, one-off}
use Rattle.bfs_dups_add.specs.Written.{IsPut}
use Rattle.bfs_dups.specs.Written.{IsLone}
use Rattle.bfs_dups_add.proofs.Taking.{put}
use Rattle.bfs_dups.proofs.Holding.{reached-child}
use Rattle.bfs_values.proofs.Opened.{own, pages_of, Open, Keeps, keep-all, rows-kept}
use Rattle.bfs_dups.proofs.Slotted.{decide, eq_no, some-bytes, own-self, own-page}

eq_is0 : (m : ℕ) → (m == 0) ≡ true → m ≡ 0
eq_is0 m e = grind (arith, e)

eq_no0 : (m : ℕ) → (m == 0) ≡ false → 0 < m
eq_no0 m e = grind (arith, e)

none-more : (m : ℕ) → (0 < m → ⊥) → m ≡ 0
none-more m n = by_test (m == 0) refl
  where
    by_test : (c : Bool) → (m == 0) ≡ c → m ≡ 0
    by_test true e = eq_is0 m e
    by_test false e = absurd (n (eq_no0 m e))

-- how long a stream is since a page was taken
pub put-size : (kind : KeyKind) (b c : List ℕ) (q : ℕ) (page : List ℕ) → IsPut kind b c q page → (length c ≡ length b) ⊎ (length c ≡ length b + 1024)
put-size kind b c q page p = by_case p.taken.taken.3
  where
    by_case : (((state_of kind b).free ≢ 0) × (q ≡ (state_of kind b).free) × ((state_of kind b).frees q ≡ Some (state_of kind p.middle).free) × ((state_of kind p.middle).frees q ≡ (state_of kind b).frees q) × ((state_of kind p.middle).bodies q ≡ (state_of kind b).bodies q) × ((state_of kind p.middle).links q ≡ (state_of kind b).links q) × ((state_of kind p.middle).size ≡ (state_of kind b).size))
        ⊎ (((state_of kind b).free ≡ 0) × (q ≡ (state_of kind b).size) × ((state_of kind p.middle).free ≡ (state_of kind b).free) × ((state_of kind p.middle).size ≡ (state_of kind b).size + 1024) × ((state_of kind b).size % 1024 ≡ 0)) → (length c ≡ length b) ⊎ (length c ≡ length b + 1024)
    by_case (inl f) = inl (p.set.size ∙ f.6)
    by_case (inr f) = inr (p.set.size ∙ f.3)

pub put-whole : (kind : KeyKind) (b c : List ℕ) (q : ℕ) (page : List ℕ) → IsPut kind b c q page → length b % 1024 ≡ 0 → (length c % 1024 ≡ 0) × (length b ≤ length c)
put-whole kind b c q page p w = by_case (put-size kind b c q page p)
  where
    by_case : (length c ≡ length b) ⊎ (length c ≡ length b + 1024) → (length c % 1024 ≡ 0) × (length b ≤ length c)
    by_case (inl e) = (omega (arith, e, w), omega (arith, e))
    by_case (inr e) = (omega (arith, e, w), omega (arith, e))

pub put-pages : (kind : KeyKind) (b c : List ℕ) (q : ℕ) (page : List ℕ) → IsPut kind b c q page → (x : ℕ) → x ≢ q → page_in c x ≡ page_in b x
put-pages kind b c q page p x n = p.set.pages x ∙ ap (λ t. cond t page (page_in p.middle x)) (eq_no x q n) ∙ p.taken.others x n

pub put-page : (kind : KeyKind) (b c : List ℕ) (q : ℕ) (page : List ℕ) → IsPut kind b c q page → page_in c q ≡ page
put-page kind b c q page p = p.set.pages q ∙ ap (λ t. cond t page (page_in p.middle q)) (eq_true q q refl)

-- a new page of fragments, with one in use
pub gained : (kind : KeyKind) (b c : List ℕ) (t : Shape) (rest : List Row) (n q i : ℕ) (page numbers : List ℕ) → Open kind b t rest (Number n) → length b % 1024 ≡ 0 → IsPut kind b c q page → IsLone page i numbers
    → Open kind c t rest (Fragment q i) × SameNumbers b c rest × (fragment_numbers (page_in c q) i ≡ numbers)
gained kind b c t rest n q i page numbers o wb p lone = (
  record {
    fragments = q ∷ o.fragments;
    free = now.0;
    tree = subst (λ z. IsTree kind c ((q ∷ o.fragments) ++ z) t now.0) (sym kept.2) now.1;
    mean = kept.0;
    mine = (reached-child kind c (q ∷ (o.fragments ++ pages_of b rest)) t now.0 q now.1 (self q (o.fragments ++ pages_of b rest)), subst (λ z. IsFragment z i) (sym this) lone.good);
    named = λ at h. by_named at h (decide at q);
    there = λ at f h. by_there at f h (decide at q);
    each = λ at f h s k. by_each at f h s k (decide at q) (decide f i);
  },
  kept.1,
  ap (λ z. fragment_numbers z i) this ∙ lone.numbers_are,
)
  where
    tree : IsTree kind b (o.fragments ++ pages_of b rest) t o.free
    tree = o.tree

    now : (gs : List ℕ) × IsTree kind c (q ∷ (o.fragments ++ pages_of b rest)) t gs × (times q (o.fragments ++ pages_of b rest) ≡ 0)
    now = put kind b c (o.fragments ++ pages_of b rest) t o.free q page tree (some-bytes kind b (o.fragments ++ pages_of b rest) t o.free tree) p

    this : page_in c q ≡ page
    this = put-page kind b c q page p

    others : (x : ℕ) → x ≢ q → page_in c x ≡ page_in b x
    others = put-pages kind b c q page p

    none : times q o.fragments + times q (pages_of b rest) ≡ 0
    none = omega (arith, now.2, times-append q o.fragments (pages_of b rest))

    one : own q i (Fragment q i) ≡ 1
    one = own-self q i

    off : (x : ℕ) → Has o.fragments x → x ≢ q
    off x h = λ e. let m : Has o.fragments q = subst (Has o.fragments) e h in omega (arith, m, none)

    apart : (x : ℕ) → 1 ≤ times x (pages_of b rest) → x ≢ q
    apart x h = λ e. let m : 1 ≤ times q (pages_of b rest) = subst (λ z. 1 ≤ times z (pages_of b rest)) e h in omega (arith, m, none)

    unnamed_here : (f : ℕ) → 0 < times_named q f rest → ⊥
    unnamed_here f h = let m : Has o.fragments q = o.there q f (omega (arith, h)) in omega (arith, m, none)

    keeps : (x j : ℕ) → 0 < times_named x j rest → Keeps b c (Fragment x j)
    keeps x j h =
        let n : page_in c x ≡ page_in b x = others x (off x (o.there x j (omega (arith, h)))) in
        (λ g. subst (λ z. IsFragment z j) (sym n) g, λ g. ap (λ z. fragment_numbers z j) n)

    whole : (length c % 1024 ≡ 0) × (length b ≤ length c)
    whole = put-whole kind b c q page p wb

    kept : AllByRecursion (λ r. HasValues c r.1) rest × SameNumbers b c rest × (pages_of c rest ≡ pages_of b rest)
    kept = rows-kept b c rest wb whole.0 whole.1 (keep-all b c rest (λ x h. others x (apart x h)) keeps) o.mean

    by_named : (at : ℕ) → Has (q ∷ o.fragments) at → (at ≡ q) ⊎ (at ≢ q) → (f : ℕ) × (0 < times_named at f rest + own at f (Fragment q i))
    by_named at h (inl e) = (i, subst (λ z. 0 < times_named z i rest + own z i (Fragment q i)) (sym e) (omega (arith, one)))
    by_named at h (inr e) = let w = o.named at (omega (arith, h, first at q o.fragments, one-off at q e)) in (w.0, omega (arith, w.1))

    by_there : (at f : ℕ) → 0 < times_named at f rest + own at f (Fragment q i) → (at ≡ q) ⊎ (at ≢ q) → Has (q ∷ o.fragments) at
    by_there at f h (inl e) = subst (Has (q ∷ o.fragments)) (sym e) (self q o.fragments)
    by_there at f h (inr e) = omega (arith, o.there at f (omega (arith, h, own-page q i at f e)), first at q o.fragments)

    by_each : (at f : ℕ) → Has (q ∷ o.fragments) at → f < 16 → 0 < fragment_count (page_in c at) f → (at ≡ q) ⊎ (at ≢ q) → (f ≡ i) ⊎ (f ≢ i) → times_named at f rest + own at f (Fragment q i) ≡ 1
    by_each at f h s k (inr e) d =
        let w = o.each at f (omega (arith, h, first at q o.fragments, one-off at q e)) s (subst (λ z. 0 < fragment_count z f) (others at e) k) in
        omega (arith, w, own-page q i at f e)
    by_each at f h s k (inl e) (inl d) =
        let z : times_named q i rest ≡ 0 = none-more (times_named q i rest) (unnamed_here i) in
        subst (λ w. times_named w f rest + own w f (Fragment q i) ≡ 1) (sym e) (subst (λ w. times_named q w rest + own q w (Fragment q i) ≡ 1) (sym d) (omega (arith, z, one)))
    by_each at f h s k (inl e) (inr d) =
        let z : page_in c at ≡ page = ap (page_in c) e ∙ this in
        let m : 0 < fragment_count page f = subst (λ w. 0 < fragment_count w f) z k in
        absurd (omega (arith, m, lone.free f s d))
