-- Chains of one page that become a fragment or a plain number.
use Rattle.std.proofs.Common.{◌≡◌, ◌≢◌, ◌⊎◌, ◌≤◌, ◌<◌, ◌+◌, ◌*◌, ◌%◌, ℕ, ℤ, List, [], ◌∷◌, ◌++◌, length, Bool, true, false, cond, ◌==◌, inl, inr, refl, ap, sym, ◌∙◌, subst, arith, append-nil}
use Rattle.std.specs.List.{AllByRecursion}
use Rattle.bfs_base.specs.Lists.{times, Has}
use Rattle.bfs_base.specs.declared.kind.KeyKind.{KeyKind}
use Rattle.bfs_node.specs.Page.{Row}
use Rattle.bfs_pages.specs.Answers.{IsChild}
use Rattle.bfs_pages.specs.Order.{Key}
use Rattle.bfs_pages.specs.Shapes.{Shape, tree_rows, leaves_of}
use Rattle.bfs_pages.specs.Trees.{page_in, header_in, IsTree}
use Rattle.bfs_pages.specs.Writes.{PageSet}
use Rattle.bfs_pages.proofs.Splice.{self, times-append}
use Rattle.bfs_remove.specs.Removed.{IsGiven}
use Rattle.bfs_values.specs.declared.link.Link.TheVariants.{Number, Fragment, Chain}
use Rattle.bfs_values.specs.Links.{link_in}
use Rattle.bfs_values.specs.Values.{IsFragment, fragment_count, fragment_numbers, page_numbers, chain_of, numbers_of_pages, in_order, HasNumbers, HasValues, numbers_in, values_in, IsDuplicates}
use Rattle.bfs_values.specs.Reached.{times_named}
use Rattle.bfs_values.specs.Named.{IsNamedIn}
use Rattle.bfs_dups.specs.Slots.{SameBut}
use Rattle.bfs_values.specs.Stored.{Stored, SameNumbers, IsRevalued}
use Rattle.bfs_dups.specs.Written.{IsLone, IsFilled}
use Rattle.bfs_dups.proofs.Answered.{revalued, linked-open, named-rest}
use Rattle.bfs_dups.proofs.Holding.{set, reached-child, reached-once}
use Rattle.bfs_values.proofs.Opened.{own, pages_of, Open, Keeps, keep-all, rows-kept}
use Rattle.bfs_dups.proofs.Ordered.{order-up, up-of}
use Rattle.bfs_dups.proofs.Slotted.{decide, eq_no, own-self, own-page, slot-taken}
use Rattle.bfs_dups_remove.proofs.Lesser.{same-numbers-twice, good-in}
use Rattle.bfs_dups_remove.proofs.Passed.{dropped}

eq_true : (a d : ℕ) → a ≡ d → (a == d) ≡ true
eq_true a d e = grind (arith, e)

one-off : (x p : ℕ) → x ≢ p → times x (p ∷ []) ≡ 0
one-off x p n = ap (λ c. cond c 1 0 + 0) (eq_no p x (λ e. n (sym e)))

first : (x y : ℕ) (ys : List ℕ) → times x (y ∷ ys) ≡ times x (y ∷ []) + times x ys
first x y ys = omega arith

eq_is0 : (m : ℕ) → (m == 0) ≡ true → m ≡ 0
eq_is0 m e = grind (arith, e)

eq_no0 : (m : ℕ) → (m == 0) ≡ false → 0 < m
eq_no0 m e = grind (arith, e)

none-more : (m : ℕ) → (0 < m → ⊥) → m ≡ 0
none-more m n = by_test (m == 0) refl
  where
    by_test : (c : Bool) → (m == 0) ≡ c → m ≡ 0
    by_test true e = eq_is0 m e
    by_test false e = absurd (n (eq_no0 m e))

-- the only page of a chain becomes a page of fragments, with one in use
pub turned : (kind : KeyKind) (b c : List ℕ) (t : Shape) (rest : List Row) (q i : ℕ) (page numbers : List ℕ) → Open kind b t rest (Chain q) → length b % 1024 ≡ 0 → chain_of b q ≡ q ∷ [] → PageSet b c q page → IsLone page i numbers
    → Open kind c t rest (Fragment q i) × SameNumbers b c rest × (fragment_numbers (page_in c q) i ≡ numbers)
turned kind b c t rest q i page numbers o wb is p lone = (
  record {
    fragments = q ∷ o.fragments;
    free = o.free;
    tree = subst (λ z. IsTree kind c ((q ∷ o.fragments) ++ z) t o.free) (sym kept.2) now;
    mean = kept.0;
    mine = (reached-child kind c (q ∷ (o.fragments ++ pages_of b rest)) t o.free q now (self q (o.fragments ++ pages_of b rest)), subst (λ z. IsFragment z i) (sym this) lone.good);
    named = λ at h. by_named at h (decide at q);
    there = λ at f h. by_there at f h (decide at q);
    each = λ at f h s k. by_each at f h s k (decide at q) (decide f i);
  },
  kept.1,
  ap (λ z. fragment_numbers z i) this ∙ lone.numbers_are,
)
  where
    tree : IsTree kind b (q ∷ (o.fragments ++ pages_of b rest)) t o.free
    tree = subst (λ z. IsTree kind b (z ++ (o.fragments ++ pages_of b rest)) t o.free) (append-nil (chain_of b q) ∙ is) o.tree

    now : IsTree kind c (q ∷ (o.fragments ++ pages_of b rest)) t o.free
    now = set kind b c (q ∷ (o.fragments ++ pages_of b rest)) t o.free q page tree p (self q (o.fragments ++ pages_of b rest))

    this : page_in c q ≡ page
    this = p.pages q ∙ ap (λ t. cond t page (page_in b q)) (eq_true q q refl)

    others : (x : ℕ) → x ≢ q → page_in c x ≡ page_in b x
    others x n = p.pages x ∙ ap (λ t. cond t page (page_in b x)) (eq_no x q n)

    none : times q o.fragments + times q (pages_of b rest) ≡ 0
    none = omega (arith, reached-once kind b (q ∷ (o.fragments ++ pages_of b rest)) t o.free q tree, first q q (o.fragments ++ pages_of b rest), self q [], times-append q o.fragments (pages_of b rest))

    one : own q i (Fragment q i) ≡ 1
    one = own-self q i

    off : (x : ℕ) → Has o.fragments x → x ≢ q
    off x h = λ e. let m : Has o.fragments q = subst (Has o.fragments) e h in omega (arith, m, none)

    apart : (x : ℕ) → 1 ≤ times x (pages_of b rest) → x ≢ q
    apart x h = λ e. let m : 1 ≤ times q (pages_of b rest) = subst (λ z. 1 ≤ times z (pages_of b rest)) e h in omega (arith, m, none)

    unnamed_here : (f : ℕ) → 0 < times_named q f rest → ⊥
    unnamed_here f h = let m : Has o.fragments q = o.there q f (omega (arith, h)) in omega (arith, m, none)

    keeps : (x j : ℕ) → 0 < times_named x j rest → Keeps b c (Fragment x j)
    keeps x j h =
        let n : page_in c x ≡ page_in b x = others x (off x (o.there x j (omega (arith, h)))) in
        (λ g. subst (λ z. IsFragment z j) (sym n) g, λ g. ap (λ z. fragment_numbers z j) n)

    kept : AllByRecursion (λ r. HasValues c r.1) rest × SameNumbers b c rest × (pages_of c rest ≡ pages_of b rest)
    kept = rows-kept b c rest wb (ap (λ n. n % 1024) p.size ∙ wb) (omega (arith, p.size)) (keep-all b c rest (λ x h. others x (apart x h)) keeps) o.mean

    by_named : (at : ℕ) → Has (q ∷ o.fragments) at → (at ≡ q) ⊎ (at ≢ q) → (f : ℕ) × (0 < times_named at f rest + own at f (Fragment q i))
    by_named at h (inl e) = (i, subst (λ z. 0 < times_named z i rest + own z i (Fragment q i)) (sym e) (omega (arith, one)))
    by_named at h (inr e) = let w = o.named at (omega (arith, h, first at q o.fragments, one-off at q e)) in (w.0, omega (arith, w.1))

    by_there : (at f : ℕ) → 0 < times_named at f rest + own at f (Fragment q i) → (at ≡ q) ⊎ (at ≢ q) → Has (q ∷ o.fragments) at
    by_there at f h (inl e) = subst (Has (q ∷ o.fragments)) (sym e) (self q o.fragments)
    by_there at f h (inr e) = omega (arith, o.there at f (omega (arith, h, own-page q i at f e)), first at q o.fragments)

    by_each : (at f : ℕ) → Has (q ∷ o.fragments) at → f < 16 → 0 < fragment_count (page_in c at) f → (at ≡ q) ⊎ (at ≢ q) → (f ≡ i) ⊎ (f ≢ i) → times_named at f rest + own at f (Fragment q i) ≡ 1
    by_each at f h s k (inr e) d =
        let w = o.each at f (omega (arith, h, first at q o.fragments, one-off at q e)) s (subst (λ z. 0 < fragment_count z f) (others at e) k) in
        omega (arith, w, own-page q i at f e)
    by_each at f h s k (inl e) (inl d) =
        let z : times_named q i rest ≡ 0 = none-more (times_named q i rest) (unnamed_here i) in
        subst (λ w. times_named w f rest + own w f (Fragment q i) ≡ 1) (sym e) (subst (λ w. times_named q w rest + own q w (Fragment q i) ≡ 1) (sym d) (omega (arith, z, one)))
    by_each at f h s k (inl e) (inr d) =
        let z : page_in c at ≡ page = ap (page_in c) e ∙ this in
        let m : 0 < fragment_count page f = subst (λ w. 0 < fragment_count w f) z k in
        absurd (omega (arith, m, lone.free f s d))

-- what a chain of one page means
pub lone-means : (b : List ℕ) (p : ℕ) (value : ℤ) → link_in value ≡ Chain p → HasNumbers b (Chain p) → chain_of b p ≡ p ∷ [] → page_numbers (page_in b p) ≡ values_in b value
lone-means b p value link h is =
    let d : IsDuplicates (page_in b p) = good-in b p p h (subst (λ z. 1 ≤ times p z) (sym is) (self p [])) in
    sym (ap (numbers_in b) link ∙ ap (λ z. in_order (numbers_of_pages b z)) is ∙ ap in_order (append-nil (page_numbers (page_in b p))) ∙ order-up (page_numbers (page_in b p)) (up-of (page_numbers (page_in b p)) d.ascend))

-- the page becomes one of fragments
pub turned-row : (kind : KeyKind) (b c : List ℕ) (t : Shape) (front : List Row) (key : Key) (back : List Row) (value new : ℤ) (p : ℕ) (page : List ℕ) → Stored kind b t (front ++ ((key, value) ∷ back)) → link_in value ≡ Chain p → link_in new ≡ Fragment p 0 → length b % 1024 ≡ 0 → chain_of b p ≡ p ∷ []
    → PageSet b c p page → IsLone page 0 (page_numbers (page_in b p)) → IsRevalued kind b c t front key back new (values_in b value)
turned-row kind b c t front key back value new p page s link now wb is f lone =
    let o = linked-open kind b t front key back value (Chain p) s link in
    let r = turned kind b c t (front ++ back) p 0 page (page_numbers (page_in b p)) o wb is f lone in
    revalued kind b c t front key back new (Fragment p 0) (page_numbers (page_in b p)) (values_in b value) now r.0 r.1 r.2 (lone-means b p value link o.mine is)

-- the page goes, and its only number is plain
pub plain-row : (kind : KeyKind) (b c : List ℕ) (t : Shape) (front : List Row) (key : Key) (back : List Row) (value new : ℤ) (p n : ℕ) → Stored kind b t (front ++ ((key, value) ∷ back)) → link_in value ≡ Chain p → link_in new ≡ Number n → length b % 1024 ≡ 0 → chain_of b p ≡ p ∷ []
    → IsGiven b c p (header_in b) → page_numbers (page_in b p) ≡ n ∷ [] → IsRevalued kind b c t front key back new (values_in b value)
plain-row kind b c t front key back value new p n s link now wb is g only =
    let o = linked-open kind b t front key back value (Chain p) s link in
    let r = dropped kind b c t (front ++ back) p n o wb is g in
    revalued kind b c t front key back new (Number n) (n ∷ []) (values_in b value) now r.0 r.1 refl (sym only ∙ lone-means b p value link o.mine is)

-- the page goes, and its numbers are in a fragment of another one
pub moved-row : (kind : KeyKind) (b d e : List ℕ) (t : Shape) (front : List Row) (key : Key) (back : List Row) (value new : ℤ) (p leaf slot i : ℕ) (room : List ℕ) → Stored kind b t (front ++ ((key, value) ∷ back)) → link_in value ≡ Chain p → link_in new ≡ Fragment slot i → length b % 1024 ≡ 0 → chain_of b p ≡ p ∷ []
    → tree_rows t ≡ front ++ ((key, value) ∷ back) → 1 ≤ times leaf (leaves_of t) → IsNamedIn b leaf slot → IsChild (length b) slot → IsGiven b d p (header_in b) → PageSet d e slot room
    → SameBut (page_in b slot) room (64 * i) (64 * i + 64) → fragment_count (page_in b slot) i ≡ 0 → IsFragment room i → fragment_numbers room i ≡ page_numbers (page_in b p) → IsRevalued kind b e t front key back new (values_in b value)
moved-row kind b d e t front key back value new p leaf slot i room s link now wb is rows there named child g f same free good are =
    let o = linked-open kind b t front key back value (Chain p) s link in
    let gone : List ℕ = o.fragments ++ pages_of b (front ++ back) in
    let tree : IsTree kind b (p ∷ gone) t o.free = subst (λ z. IsTree kind b (z ++ gone) t o.free) (append-nil (chain_of b p) ∙ is) o.tree in
    let n = named-rest kind b s.reached t s.free front key back value leaf slot s.tree rows (λ j. ap (own slot j) link) there named in
    let has : Has o.fragments slot = o.there slot n.0 (omega (arith, n.1)) in
    let apart : slot ≢ p = off slot p gone (omega (arith, has, times-append slot o.fragments (pages_of b (front ++ back)))) (omega (arith, reached-once kind b (p ∷ gone) t o.free p tree, first p p gone, self p [])) in
    let r = dropped kind b d t (front ++ back) p 0 o wb is g in
    let page : page_in d slot ≡ page_in b slot = g.pages slot apart in
    let wd : length d % 1024 ≡ 0 = ap (λ n. n % 1024) g.size ∙ wb in
    let fill : IsFilled d e slot i (page_numbers (page_in b p)) = record { page = room; set = f; same = subst (λ z. SameBut z room (64 * i) (64 * i + 64)) (sym page) same; good = good; numbers_are = are } in
    let k = slot-taken kind d e t (front ++ back) 0 slot i n.0 (page_numbers (page_in b p)) r.0 wd (subst (λ m. IsChild m slot) (sym g.size) child) n.1 (ap (λ z. fragment_count z i) page ∙ free) fill in
    revalued kind b e t front key back new (Fragment slot i) (page_numbers (page_in b p)) (values_in b value) now k.0 (same-numbers-twice b d e (front ++ back) r.1 k.1) k.2 (lone-means b p value link o.mine is)
  where
    off : (x y : ℕ) (zs : List ℕ) → 1 ≤ times x zs → times y zs ≡ 0 → x ≢ y
    off x y zs i n = λ e. let m : 1 ≤ times y zs = subst (λ z. 1 ≤ times z zs) e i in omega (arith, m, n)
