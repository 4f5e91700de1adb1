-- Fragments that are filled and freed, and what the values mean since.
use Rattle.std.proofs.Common.{◌≡◌, ◌≢◌, ◌⊎◌, ◌≤◌, ◌<◌, ◌+◌, ◌*◌, ◌%◌, ℕ, List, [], ◌∷◌, ◌++◌, length, Bool, true, false, cond, ◌==◌, ◌&&◌, inl, inr, refl, ap, sym, ◌∙◌, subst, arith}
use Rattle.std.specs.List.{flat_map, AllByRecursion}
use Rattle.bfs_base.specs.Lists.{times, Has}
use Rattle.bfs_base.specs.declared.kind.KeyKind.{KeyKind}
use Rattle.bfs_node.specs.Page.{Row}
use Rattle.bfs_pages.specs.Answers.{IsChild}
use Rattle.bfs_pages.specs.Shapes.{Shape, place}
use Rattle.bfs_pages.specs.Trees.{page_in, is_place, state_of, IsTree}
use Rattle.bfs_pages.proofs.OfKind.{met-child}
use Rattle.bfs_pages.proofs.Splice.{times-append}
use Rattle.bfs_pages.proofs.Way.{place-met}
use Rattle.bfs_values.specs.declared.link.Link.{Link}
use Rattle.bfs_values.specs.declared.link.Link.TheVariants.{Number, Fragment, Chain, Nothing}
use Rattle.bfs_values.specs.Links.{link_in}
use Rattle.bfs_values.specs.Values.{IsFragment, fragment_count, fragment_numbers, chain_of, HasNumbers, HasValues}
use Rattle.bfs_values.specs.Reached.{times_named, chain_in}
use Rattle.bfs_dups.specs.Slots.{SameBut}
use Rattle.bfs_values.specs.Stored.{SameNumbers}
use Rattle.bfs_dups.specs.Written.{IsFilled, IsCleared}
use Rattle.bfs_dups.proofs.Holding.{set, reached-once}
use Rattle.bfs_values.proofs.Opened.{own, own_pages, pages_of, Open, Keeps, keep-all, rows-kept}
use Rattle.bfs_dups.proofs.Pages.{other-count, other-numbers, other-fragment}

eq_is : (a d : ℕ) → (a == d) ≡ true → a ≡ d
eq_is a d e = grind (arith, e)

eq_not : (a d : ℕ) → (a == d) ≡ false → a ≢ d
eq_not a d e = λ s. grind (arith, e, s)

eq_true : (a d : ℕ) → a ≡ d → (a == d) ≡ true
eq_true a d e = grind (arith, e)

pub decide : (a d : ℕ) → (a ≡ d) ⊎ (a ≢ d)
decide a d = by_test (a == d) refl
  where
    by_test : (c : Bool) → (a == d) ≡ c → (a ≡ d) ⊎ (a ≢ d)
    by_test true e = inl (eq_is a d e)
    by_test false e = inr (eq_not a d e)

pub eq_no : (a d : ℕ) → a ≢ d → (a == d) ≡ false
eq_no a d n = by_test (a == d) refl
  where
    by_test : (t : Bool) → (a == d) ≡ t → (a == d) ≡ false
    by_test true e = absurd (n (eq_is a d e))
    by_test false e = e

child-inside : (n x : ℕ) → IsChild n x → x < n
child-inside n x c = inside c.1
  where
    inside : is_place n x ≡ true → x < n
    inside h = grind (arith, h)

pub some-bytes : (kind : KeyKind) (b r : List ℕ) (t : Shape) (fs : List ℕ) → IsTree kind b r t fs → 1 ≤ length b
some-bytes kind b r t fs tree = let c = child-inside (length b) (place t) (met-child (state_of kind b) r t fs (place t) tree.holds.built (place-met t)) in omega (arith, c)

-- a fragment's link names that fragment alone
pub own-self : (p i : ℕ) → own p i (Fragment p i) ≡ 1
own-self p i = ap (λ t. cond t 1 0) (same p i)
  where
    same : (p i : ℕ) → ((p == p) && (i == i)) ≡ true
    same p i = grind arith

pub own-page : (p i q f : ℕ) → q ≢ p → own q f (Fragment p i) ≡ 0
own-page p i q f n = ap (λ t. cond (t && (i == f)) 1 0) (eq_no p q (λ e. n (sym e)))

pub own-index : (p i q f : ℕ) → f ≢ i → own q f (Fragment p i) ≡ 0
own-index p i q f n = by_test (p == q) (eq_no i f (λ e. n (sym e)))
  where
    by_test : (c : Bool) → (i == f) ≡ false → ◌≡◌ {A = ℕ} (cond (c && (i == f)) 1 0) 0
    by_test true e = ap (λ t. cond t 1 0) e
    by_test false e = refl

-- rows don't name a fragment that isn't in use
pub unnamed : (b : List ℕ) (p i : ℕ) (rows : List Row) → AllByRecursion (λ r. HasValues b r.1) rows → (IsFragment (page_in b p) i → ⊥) → times_named p i rows ≡ 0
unnamed b p i [] a n = refl
unnamed b p i (r ∷ rs) a n = let z = by_link (link_in r.1) a.0 in omega (arith, z, unnamed b p i rs a.1 n)
  where
    by_link : (l : Link) → HasNumbers b l → own p i l ≡ 0
    by_link (Number m) h = refl
    by_link (Chain q) h = refl
    by_link Nothing h = refl
    by_link (Fragment q j) h = by_page (decide p q)
      where
        by_index : p ≡ q → (i ≡ j) ⊎ (i ≢ j) → own p i (Fragment q j) ≡ 0
        by_index e (inl f) = absurd (n (subst (λ z. IsFragment (page_in b p) z) (sym f) (subst (λ z. IsFragment (page_in b z) j) (sym e) h.1)))
        by_index e (inr f) = own-index q j p i f

        by_page : (p ≡ q) ⊎ (p ≢ q) → own p i (Fragment q j) ≡ 0
        by_page (inl e) = by_index e (decide i j)
        by_page (inr e) = own-page q j p i e

pub free-unnamed : (b : List ℕ) (p i : ℕ) (rows : List Row) → AllByRecursion (λ r. HasValues b r.1) rows → fragment_count (page_in b p) i ≡ 0 → times_named p i rows ≡ 0
free-unnamed b p i rows a z = unnamed b p i rows a (λ f. not_some f.some)
  where
    not_some : 1 ≤ fragment_count (page_in b p) i → ⊥
    not_some h = omega (arith, h, z)

-- both links name no chain, and no fragment but one
pub record AreOff (p i : ℕ) (l m : Link) : Type 0 where
  pub old_chain : chain_in l ≡ []
  pub new_chain : chain_in m ≡ []
  pub old_page : (q f : ℕ) → q ≢ p → own q f l ≡ 0
  pub new_page : (q f : ℕ) → q ≢ p → own q f m ≡ 0
  pub old_index : (q f : ℕ) → f ≢ i → own q f l ≡ 0
  pub new_index : (q f : ℕ) → f ≢ i → own q f m ≡ 0

pub off-number : (p i n : ℕ) → AreOff p i (Number n) (Fragment p i)
off-number p i n = record {
  old_chain = refl;
  new_chain = refl;
  old_page = λ q f h. refl;
  new_page = λ q f h. own-page p i q f h;
  old_index = λ q f h. refl;
  new_index = λ q f h. own-index p i q f h;
}

pub off-fragment : (p i n : ℕ) → AreOff p i (Fragment p i) (Number n)
off-fragment p i n = record {
  old_chain = refl;
  new_chain = refl;
  old_page = λ q f h. own-page p i q f h;
  new_page = λ q f h. refl;
  old_index = λ q f h. own-index p i q f h;
  new_index = λ q f h. refl;
}

pub off-both : (p i : ℕ) → AreOff p i (Fragment p i) (Fragment p i)
off-both p i = record {
  old_chain = refl;
  new_chain = refl;
  old_page = λ q f h. own-page p i q f h;
  new_page = λ q f h. own-page p i q f h;
  old_index = λ q f h. own-index p i q f h;
  new_index = λ q f h. own-index p i q f h;
}

-- the reached pages where the row's link names no chain
pub no-own : (kind : KeyKind) (b r : List ℕ) (t : Shape) (fs : List ℕ) (l : Link) → chain_in l ≡ [] → IsTree kind b (own_pages b l ++ r) t fs → IsTree kind b r t fs
no-own kind b r t fs l e tree = subst (λ z. IsTree kind b (flat_map (chain_of b) z ++ r) t fs) e tree

pub no-own-back : (kind : KeyKind) (b r : List ℕ) (t : Shape) (fs : List ℕ) (l : Link) → chain_in l ≡ [] → IsTree kind b r t fs → IsTree kind b (own_pages b l ++ r) t fs
no-own-back kind b r t fs l e tree = subst (λ z. IsTree kind b (flat_map (chain_of b) z ++ r) t fs) (sym e) tree

-- what rows mean stays, where the pages but one stay, and of that one all fragments but one
module _ (kind : KeyKind) (b c : List ℕ) (t : Shape) (rest : List Row) (l m : Link) (p i : ℕ) (page : List ℕ) (o : Open kind b t rest l) (wb : length b % 1024 ≡ 0) (wc : length c % 1024 ≡ 0) (le : length b ≤ length c)
    (others : (x : ℕ) → x ≢ p → page_in c x ≡ page_in b x) (this : page_in c p ≡ page) (same : SameBut (page_in b p) page (64 * i) (64 * i + 64)) (has : Has o.fragments p) (none : times_named p i rest ≡ 0) (off : AreOff p i l m) where
  abbrev pub reached : List ℕ
  reached = o.fragments ++ pages_of b rest

  tree : IsTree kind b reached t o.free
  tree = no-own kind b reached t o.free l off.old_chain o.tree

  apart : (x : ℕ) → 1 ≤ times x (pages_of b rest) → x ≢ p
  apart x h = λ e. let n : 1 ≤ times p (pages_of b rest) = subst (λ z. 1 ≤ times z (pages_of b rest)) e h in omega (arith, n, has, reached-once kind b reached t o.free p tree, times-append p o.fragments (pages_of b rest))

  keeps : (q j : ℕ) → 0 < times_named q j rest → Keeps b c (Fragment q j)
  keeps q j h = by_page (decide q p)
    where
      by_page : (q ≡ p) ⊎ (q ≢ p) → Keeps b c (Fragment q j)
      by_page (inr n) = (λ f. subst (λ z. IsFragment z j) (sym (others q n)) f, λ f. ap (λ z. fragment_numbers z j) (others q n))
      by_page (inl e) =
          let now : page_in c q ≡ page = ap (page_in c) e ∙ this in
          let old : page_in b q ≡ page_in b p = ap (page_in b) e in (
            λ f. subst (λ z. IsFragment z j) (sym now) (other-fragment (page_in b p) page i j same off_index (subst (λ z. IsFragment z j) old f)),
            λ f. ap (λ z. fragment_numbers z j) now ∙ other-numbers (page_in b p) page i j same off_index (subst (λ z. IsFragment z j) old f).fits ∙ ap (λ z. fragment_numbers z j) (sym old),
          )
        where
          off_index : j ≢ i
          off_index = λ s. let n : times_named q j rest ≡ 0 = ap (λ z. times_named z j rest) e ∙ ap (λ z. times_named p z rest) s ∙ none in omega (arith, h, n)

  kept : AllByRecursion (λ r. HasValues c r.1) rest × SameNumbers b c rest × (pages_of c rest ≡ pages_of b rest)
  kept = rows-kept b c rest wb wc le (keep-all b c rest (λ x h. others x (apart x h)) keeps) o.mean

  -- and so the tree, where the row's new link fits the fragment
  pub slot-set : (gs : List ℕ) → IsTree kind c reached t gs → HasNumbers c m → (0 < fragment_count page i → own p i m ≡ 1) → (f : ℕ) × (0 < times_named p f rest + own p f m) → Open kind c t rest m × SameNumbers b c rest
  slot-set gs now mine used name = (
    record {
      fragments = o.fragments;
      free = gs;
      tree = no-own-back kind c (o.fragments ++ pages_of c rest) t gs m off.new_chain (subst (λ z. IsTree kind c (o.fragments ++ z) t gs) (sym kept.2) now);
      mean = kept.0;
      mine = mine;
      named = λ at h. by_named at h (decide at p);
      there = λ at f h. by_there at f h (decide at p);
      each = λ at f h s n. by_each at f h s n (decide at p) (decide f i);
    },
    kept.1,
  )
    where
      by_named : (at : ℕ) → Has o.fragments at → (at ≡ p) ⊎ (at ≢ p) → (f : ℕ) × (0 < times_named at f rest + own at f m)
      by_named at h (inl e) = (name.0, subst (λ z. 0 < times_named z name.0 rest + own z name.0 m) (sym e) name.1)
      by_named at h (inr n) = let w = o.named at h in (w.0, omega (arith, w.1, off.old_page at w.0 n))

      by_there : (at f : ℕ) → 0 < times_named at f rest + own at f m → (at ≡ p) ⊎ (at ≢ p) → Has o.fragments at
      by_there at f h (inl e) = subst (Has o.fragments) (sym e) has
      by_there at f h (inr n) = o.there at f (omega (arith, h, off.new_page at f n))

      by_each : (at f : ℕ) → Has o.fragments at → f < 16 → 0 < fragment_count (page_in c at) f → (at ≡ p) ⊎ (at ≢ p) → (f ≡ i) ⊎ (f ≢ i) → times_named at f rest + own at f m ≡ 1
      by_each at f h s n (inr q) d =
          let old = o.each at f h s (subst (λ z. 0 < fragment_count z f) (others at q) n) in
          omega (arith, old, off.old_page at f q, off.new_page at f q)
      by_each at f h s n (inl e) (inr d) =
          let now : page_in c at ≡ page = ap (page_in c) e ∙ this in
          let count : 0 < fragment_count page f = subst (λ z. 0 < fragment_count z f) now n in
          let same_count : fragment_count page f ≡ fragment_count (page_in b p) f = other-count (page_in b p) page i f same d in
          let old = o.each p f has s (omega (arith, count, same_count)) in
          let zero : own p f l ≡ 0 = off.old_index p f d in
          let zero_new : own p f m ≡ 0 = off.new_index p f d in
          subst (λ z. times_named z f rest + own z f m ≡ 1) (sym e) (omega (arith, old, zero, zero_new))
      by_each at f h s n (inl e) (inl d) =
          let now : page_in c at ≡ page = ap (page_in c) e ∙ this in
          let count : 0 < fragment_count page i = subst (λ z. 0 < fragment_count page z) d (subst (λ z. 0 < fragment_count z f) now n) in
          let one : own p i m ≡ 1 = used count in
          subst (λ z. times_named z f rest + own z f m ≡ 1) (sym e) (subst (λ z. times_named p z rest + own p z m ≡ 1) (sym d) (omega (arith, none, one)))

-- the fragment that a value names gets other numbers
pub refilled : (kind : KeyKind) (b c : List ℕ) (t : Shape) (rest : List Row) (p i : ℕ) (numbers : List ℕ) → Open kind b t rest (Fragment p i) → length b % 1024 ≡ 0 → IsFilled b c p i numbers
    → Open kind c t rest (Fragment p i) × SameNumbers b c rest × (fragment_numbers (page_in c p) i ≡ numbers)
refilled kind b c t rest p i numbers o wb f =
    let one : own p i (Fragment p i) ≡ 1 = own-self p i in
    let has : Has o.fragments p = o.there p i (omega (arith, one)) in
    let once = o.each p i has o.mine.1.inside o.mine.1.some in
    let none : times_named p i rest ≡ 0 = omega (arith, once, one) in
    let this : page_in c p ≡ f.page = f.set.pages p ∙ ap (λ t. cond t f.page (page_in b p)) (eq_true p p refl) in
    let others : (x : ℕ) → x ≢ p → page_in c x ≡ page_in b x = λ x n. f.set.pages x ∙ ap (λ t. cond t f.page (page_in b x)) (eq_no x p n) in
    let tree : IsTree kind b (o.fragments ++ pages_of b rest) t o.free = o.tree in
    let s = slot-set kind b c t rest (Fragment p i) (Fragment p i) p i f.page o wb (ap (λ n. n % 1024) f.set.size ∙ wb) (omega (arith, f.set.size)) others this f.same has none (off-both p i) o.free
    (set kind b c (o.fragments ++ pages_of b rest) t o.free p f.page tree f.set (omega (arith, has, times-append p o.fragments (pages_of b rest))))
    (subst (λ n. IsChild n p) (sym f.set.size) o.mine.0, subst (λ z. IsFragment z i) (sym this) f.good) (λ h. one) (i, omega (arith, one)) in
    (s.0, s.1, ap (λ z. fragment_numbers z i) this ∙ f.numbers_are)

-- a free fragment of a page that a row names is filled
pub slot-taken : (kind : KeyKind) (b c : List ℕ) (t : Shape) (rest : List Row) (n p i j : ℕ) (numbers : List ℕ) → Open kind b t rest (Number n) → length b % 1024 ≡ 0 → IsChild (length b) p → 0 < times_named p j rest → fragment_count (page_in b p) i ≡ 0 → IsFilled b c p i numbers
    → Open kind c t rest (Fragment p i) × SameNumbers b c rest × (fragment_numbers (page_in c p) i ≡ numbers)
slot-taken kind b c t rest n p i j numbers o wb child named free f =
    let one : own p i (Fragment p i) ≡ 1 = own-self p i in
    let has : Has o.fragments p = o.there p j (omega (arith, named)) in
    let none : times_named p i rest ≡ 0 = free-unnamed b p i rest o.mean free in
    let this : page_in c p ≡ f.page = f.set.pages p ∙ ap (λ t. cond t f.page (page_in b p)) (eq_true p p refl) in
    let others : (x : ℕ) → x ≢ p → page_in c x ≡ page_in b x = λ x n. f.set.pages x ∙ ap (λ t. cond t f.page (page_in b x)) (eq_no x p n) in
    let tree : IsTree kind b (o.fragments ++ pages_of b rest) t o.free = o.tree in
    let s = slot-set kind b c t rest (Number n) (Fragment p i) p i f.page o wb (ap (λ n. n % 1024) f.set.size ∙ wb) (omega (arith, f.set.size)) others this f.same has none (off-number p i n) o.free
    (set kind b c (o.fragments ++ pages_of b rest) t o.free p f.page tree f.set (omega (arith, has, times-append p o.fragments (pages_of b rest))))
    (subst (λ n. IsChild n p) (sym f.set.size) child, subst (λ z. IsFragment z i) (sym this) f.good) (λ h. one) (i, omega (arith, one)) in
    (s.0, s.1, ap (λ z. fragment_numbers z i) this ∙ f.numbers_are)

-- the fragment is free, and its page has others in use
pub cleared : (kind : KeyKind) (b c : List ℕ) (t : Shape) (rest : List Row) (p i n : ℕ) → Open kind b t rest (Fragment p i) → length b % 1024 ≡ 0 → IsCleared b c p i → Open kind c t rest (Number n) × SameNumbers b c rest
cleared kind b c t rest p i n o wb f =
    let one : own p i (Fragment p i) ≡ 1 = own-self p i in
    let has : Has o.fragments p = o.there p i (omega (arith, one)) in
    let once = o.each p i has o.mine.1.inside o.mine.1.some in
    let none : times_named p i rest ≡ 0 = omega (arith, once, one) in
    let this : page_in c p ≡ f.page = f.set.pages p ∙ ap (λ t. cond t f.page (page_in b p)) (eq_true p p refl) in
    let others : (x : ℕ) → x ≢ p → page_in c x ≡ page_in b x = λ x n. f.set.pages x ∙ ap (λ t. cond t f.page (page_in b x)) (eq_no x p n) in
    let tree : IsTree kind b (o.fragments ++ pages_of b rest) t o.free = o.tree in
    let j : ℕ = f.other.0 in
    let off : j ≢ i = λ e. not_some i j e f.clear f.other.2 in
    let count : fragment_count f.page j ≡ fragment_count (page_in b p) j = other-count (page_in b p) f.page i j f.same off in
    let zero : own p j (Fragment p i) ≡ 0 = own-index p i p j off in
    let named = o.each p j has f.other.1 (omega (arith, count, f.other.2)) in
    slot-set kind b c t rest (Fragment p i) (Number n) p i f.page o wb (ap (λ n. n % 1024) f.set.size ∙ wb) (omega (arith, f.set.size)) others this f.same has none (off-fragment p i n) o.free
    (set kind b c (o.fragments ++ pages_of b rest) t o.free p f.page tree f.set (omega (arith, has, times-append p o.fragments (pages_of b rest))))
    tt (λ h. absurd (omega (arith, h, f.clear))) (j, omega (arith, named, zero))
  where
    not_some : (i j : ℕ) → j ≡ i → fragment_count f.page i ≡ 0 → 1 ≤ fragment_count f.page j → ⊥
    not_some i j e z s = let m : 1 ≤ fragment_count f.page i = subst (λ k. 1 ≤ fragment_count f.page k) e s in omega (arith, m, z)
