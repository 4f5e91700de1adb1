-- A tree's values apart: the value of one row, and those of all others.
use Rattle.std.proofs.Common.{◌≡◌, ◌≤◌, ◌<◌, ◌+◌, ◌%◌, ℕ, List, [], ◌∷◌, ◌++◌, length, true, cond, ◌==◌, ◌&&◌, refl, ap, sym, ◌∙◌, subst, arith, append-nil}
use Rattle.std.specs.List.{flat_map, AllByRecursion}
use Rattle.bfs_base.specs.Lists.{times, Has, IsOnce}
use Rattle.bfs_base.specs.declared.kind.KeyKind.{KeyKind}
use Rattle.bfs_node.specs.Page.{Row}
use Rattle.bfs_pages.specs.Shapes.{Shape}
use Rattle.bfs_pages.specs.Trees.{page_in, IsTree}
use Rattle.bfs_pages.proofs.Splice.{times-append}
use Rattle.bfs_values.specs.declared.link.Link.{Link}
use Rattle.bfs_values.specs.declared.link.Link.TheVariants.{Number, Fragment, Chain, Nothing}
use Rattle.bfs_values.specs.Links.{link_in}
use Rattle.bfs_values.specs.Values.{IsFragment, fragment_count, fragment_numbers, chain_of, numbers_of_pages, AreDuplicates, in_order, HasNumbers, numbers_in, HasValues}
use Rattle.bfs_values.specs.Reached.{is_fragment, times_named, chain_in, chains_in, Ends}
use Rattle.bfs_values.specs.Chained.{Chained}
use Rattle.bfs_values.specs.Stored.{Stored, SameNumbers}
use Rattle.bfs_values.proofs.Chaining.{child-more, chain-there, chain-is, chained-kept, chained-ends, numbers-kept, duplicates-kept}

-- the pages that values reach, in another order
pub exchange : (kind : KeyKind) (b r s : List ℕ) (t : Shape) (fs : List ℕ) → ((x : ℕ) → times x s ≡ times x r) → IsTree kind b r t fs → IsTree kind b s t fs
exchange kind b r s t fs e tree = record {
  header = tree.header;
  holds = record {
    built = record {
      root = tree.holds.built.root;
      stands = tree.holds.built.stands;
      deep = tree.holds.built.deep;
      chain = tree.holds.built.chain;
      once = λ x. omega (arith, tree.holds.built.once x, e x);
    };
    ascends = tree.holds.ascends;
    linked = tree.holds.linked;
  };
}

abbrev pub own : ℕ → ℕ → Link → ℕ
own at f l = cond (is_fragment at f l) 1 0

-- the pages of the chains that rows name
abbrev pub pages_of : List ℕ → List Row → List ℕ
pages_of b rows = flat_map (chain_of b) (chains_in rows)

abbrev pub own_pages : List ℕ → Link → List ℕ
own_pages b l = flat_map (chain_of b) (chain_in l)

-- a tree with a row of this link beside others
pub record Open (kind : KeyKind) (b : List ℕ) (t : Shape) (rest : List Row) (l : Link) : Type 0 where
  pub fragments : List ℕ
  pub free : List ℕ
  pub tree : IsTree kind b (own_pages b l ++ (fragments ++ pages_of b rest)) t free
  pub mean : AllByRecursion (λ r. HasValues b r.1) rest
  pub mine : HasNumbers b l
  pub named : (at : ℕ) → Has fragments at → (f : ℕ) × (0 < times_named at f rest + own at f l)
  pub there : (at f : ℕ) → 0 < times_named at f rest + own at f l → Has fragments at
  pub each : (at f : ℕ) → Has fragments at → f < 16 → 0 < fragment_count (page_in b at) f → times_named at f rest + own at f l ≡ 1

pub named-split : (at f : ℕ) (front : List Row) (row : Row) (back : List Row) → times_named at f (front ++ (row ∷ back)) ≡ times_named at f (front ++ back) + own at f (link_in row.1)
named-split at f [] row back = omega arith
named-split at f (r ∷ rs) row back = omega (arith, named-split at f rs row back)

pub chain-step : (b : List ℕ) (x : ℕ) (l : Link) (firsts : List ℕ) → times x (flat_map (chain_of b) (chain_in l ++ firsts)) ≡ times x (own_pages b l) + times x (flat_map (chain_of b) firsts)
chain-step b x (Number n) firsts = omega arith
chain-step b x (Fragment p i) firsts = omega arith
chain-step b x (Chain p) firsts = omega (arith, times-append x (chain_of b p) (flat_map (chain_of b) firsts), times-append x (chain_of b p) [])
chain-step b x Nothing firsts = omega arith

pub pages-split : (b : List ℕ) (x : ℕ) (front : List Row) (row : Row) (back : List Row) → times x (pages_of b (front ++ (row ∷ back))) ≡ times x (own_pages b (link_in row.1)) + times x (pages_of b (front ++ back))
pages-split b x [] row back = chain-step b x (link_in row.1) (chains_in back)
pages-split b x (r ∷ rs) row back =
    omega (arith, chain-step b x (link_in r.1) (chains_in (rs ++ (row ∷ back))), chain-step b x (link_in r.1) (chains_in (rs ++ back)), pages-split b x rs row back)

pub all-but : (P : Row → Type 0) (front : List Row) (row : Row) (back : List Row) → AllByRecursion P (front ++ (row ∷ back)) → AllByRecursion P (front ++ back) × P row
all-but P [] row back a = (a.1, a.0)
all-but P (r ∷ rs) row back a = let i = all-but P rs row back a.1 in ((a.0, i.0), i.1)

pub all-with : (P : Row → Type 0) (front : List Row) (row : Row) (back : List Row) → AllByRecursion P (front ++ back) → P row → AllByRecursion P (front ++ (row ∷ back))
all-with P [] row back a p = (p, a)
all-with P (r ∷ rs) row back a p = (a.0, all-with P rs row back a.1 p)

pub opened : (kind : KeyKind) (b : List ℕ) (t : Shape) (front : List Row) (row : Row) (back : List Row) → Stored kind b t (front ++ (row ∷ back)) → Open kind b t (front ++ back) (link_in row.1)
opened kind b t front row back s =
    let m = all-but (λ r. HasValues b r.1) front row back s.mean in record {
      fragments = s.values.fragments;
      free = s.free;
      tree = exchange kind b s.reached (own_pages b (link_in row.1) ++ (s.values.fragments ++ pages_of b (front ++ back))) t s.free
          (λ x.
          let e : times x s.reached ≡ times x (s.values.fragments ++ pages_of b (front ++ (row ∷ back))) = ap (times x) s.values.parts in
          omega (
            arith,
            e,
            times-append x s.values.fragments (pages_of b (front ++ (row ∷ back))),
            pages-split b x front row back,
            times-append x (own_pages b (link_in row.1)) (s.values.fragments ++ pages_of b (front ++ back)),
            times-append x s.values.fragments (pages_of b (front ++ back)),
          )) s.tree;
      mean = m.0;
      mine = m.1;
      named = λ at h. let n = (s.values.named at).0 h in (n.0, omega (arith, n.1, named-split at n.0 front row back));
      there = λ at f h. (s.values.named at).1 (f, omega (arith, h, named-split at f front row back));
      each = λ at f h i c. sym (named-split at f front row back) ∙ s.values.each at f h i c;
    }

ends-of : (b : List ℕ) (l : Link) (firsts : List ℕ) → HasNumbers b l → AllByRecursion (Ends b) firsts → AllByRecursion (Ends b) (chain_in l ++ firsts)
ends-of b (Number n) firsts h a = a
ends-of b (Fragment p i) firsts h a = a
ends-of b (Chain p) firsts h a = (h.1, a)
ends-of b Nothing firsts h a = a

pub all-ends : (b : List ℕ) (rows : List Row) → AllByRecursion (λ r. HasValues b r.1) rows → AllByRecursion (Ends b) (chains_in rows)
all-ends b [] a = tt
all-ends b (r ∷ rs) a = ends-of b (link_in r.1) (chains_in rs) a.0 (all-ends b rs a.1)

pub closed : (kind : KeyKind) (b : List ℕ) (t : Shape) (front : List Row) (row : Row) (back : List Row) (l : Link) → link_in row.1 ≡ l → Open kind b t (front ++ back) l → Stored kind b t (front ++ (row ∷ back))
closed kind b t front row back l e o' =
    let o : Open kind b t (front ++ back) (link_in row.1) = subst (λ l. Open kind b t (front ++ back) l) (sym e) o' in
    let mean = all-with (λ r. HasValues b r.1) front row back o.mean o.mine in record {
      reached = o.fragments ++ pages_of b (front ++ (row ∷ back));
      free = o.free;
      tree = exchange kind b (own_pages b (link_in row.1) ++ (o.fragments ++ pages_of b (front ++ back))) (o.fragments ++ pages_of b (front ++ (row ∷ back))) t o.free
          (λ x. omega (
            arith,
            times-append x o.fragments (pages_of b (front ++ (row ∷ back))),
            pages-split b x front row back,
            times-append x (own_pages b (link_in row.1)) (o.fragments ++ pages_of b (front ++ back)),
            times-append x o.fragments (pages_of b (front ++ back)),
          )) o.tree;
      values = record {
        fragments = o.fragments;
        parts = refl;
        ends = all-ends b (front ++ (row ∷ back)) mean;
        named = λ at. (
          λ h. let n = o.named at h in (n.0, omega (arith, n.1, named-split at n.0 front row back)),
          λ n. o.there at n.0 (omega (arith, n.1, named-split at n.0 front row back)),
        );
        each = λ at f h i c. named-split at f front row back ∙ o.each at f h i c;
      };
      mean = mean;
    }

-- what has to stay for a link to mean what it meant
abbrev pub Keeps : List ℕ → List ℕ → Link → Type 0
Keeps b c (Number n) = Unit {0}
Keeps b c (Fragment p i) = (IsFragment (page_in b p) i → IsFragment (page_in c p) i) × (IsFragment (page_in b p) i → fragment_numbers (page_in c p) i ≡ fragment_numbers (page_in b p) i)
Keeps b c (Chain p) = (x : ℕ) → 1 ≤ times x (chain_of b p) → page_in c x ≡ page_in b x
Keeps b c Nothing = Unit {0}

pub link-kept : (b c : List ℕ) (l : Link) → length b % 1024 ≡ 0 → length c % 1024 ≡ 0 → length b ≤ length c → Keeps b c l → HasNumbers b l
    → HasNumbers c l × (numbers_in c l ≡ numbers_in b l) × (own_pages c l ≡ own_pages b l)
link-kept b c (Number n) wb wc le k h = (tt, refl, refl)
link-kept b c (Fragment p i) wb wc le k h = ((child-more (length b) (length c) p le h.0, k.0 h.1), k.1 h.1, refl)
link-kept b c Nothing wb wc le k h = absurd h
link-kept b c (Chain p) wb wc le k h =
    let d = chain-there b h.1.0 p wb h.0 h.1.1 in
    let xs : List ℕ = p ∷ d.0 in
    let same : (x : ℕ) → 1 ≤ times x xs → page_in c x ≡ page_in b x = λ x i. k x (subst (λ z. 1 ≤ times x z) (sym d.2) i) in
    let there : Chained c p xs = chained-kept b c p xs le same d.1 in
    let chain : chain_of c p ≡ xs = chain-is c p xs wc h.0.0 there in
    let all : chain_of c p ≡ chain_of b p = chain ∙ sym d.2 in
    let numbers : numbers_of_pages c (chain_of c p) ≡ numbers_of_pages b (chain_of b p) = ap (numbers_of_pages c) chain ∙ numbers-kept b c xs same ∙ ap (numbers_of_pages b) (sym d.2) in (
      (
        child-more (length b) (length c) p le h.0,
        (length d.0, chained-ends c p p d.0 there),
        subst (λ z. AreDuplicates c z) (sym chain) (duplicates-kept b c xs same (subst (λ z. AreDuplicates b z) d.2 h.2)),
        subst IsOnce (sym numbers) h.3,
      ),
      ap in_order numbers,
      ap (λ z. z ++ []) all,
    )

pub rows-kept : (b c : List ℕ) (rows : List Row) → length b % 1024 ≡ 0 → length c % 1024 ≡ 0 → length b ≤ length c → AllByRecursion (λ r. Keeps b c (link_in r.1)) rows → AllByRecursion (λ r. HasValues b r.1) rows
    → AllByRecursion (λ r. HasValues c r.1) rows × SameNumbers b c rows × (pages_of c rows ≡ pages_of b rows)
rows-kept b c [] wb wc le k h = (tt, tt, refl)
rows-kept b c (r ∷ rs) wb wc le k h =
    let l = link-kept b c (link_in r.1) wb wc le k.0 h.0 in
    let i = rows-kept b c rs wb wc le k.1 h.1 in
    ((l.0, i.0), (l.1, i.1), by_link (link_in r.1) l.2 i.2)
  where
    by_link : (l : Link) → own_pages c l ≡ own_pages b l → pages_of c rs ≡ pages_of b rs → flat_map (chain_of c) (chain_in l ++ chains_in rs) ≡ flat_map (chain_of b) (chain_in l ++ chains_in rs)
    by_link (Number n) e i = i
    by_link (Fragment p i) e j = j
    by_link (Chain p) e i = ap (λ z. chain_of c p ++ z) i ∙ ap (λ z. z ++ pages_of b rs) (whole e)
      where
        whole : chain_of c p ++ [] ≡ chain_of b p ++ [] → chain_of c p ≡ chain_of b p
        whole e = sym (append-nil (chain_of c p)) ∙ e ∙ append-nil (chain_of b p)
    by_link Nothing e i = i

pub less-named : (at f : ℕ) (r : Row) (rs : List Row) → times_named at f rs ≤ times_named at f (r ∷ rs)
less-named at f r rs = omega arith

-- all rows whose pages stay
pub keep-all : (b c : List ℕ) (rows : List Row) → ((x : ℕ) → 1 ≤ times x (pages_of b rows) → page_in c x ≡ page_in b x) → ((p i : ℕ) → 0 < times_named p i rows → Keeps b c (Fragment p i))
    → AllByRecursion (λ r. Keeps b c (link_in r.1)) rows
keep-all b c [] chains fragments = tt
keep-all b c (r ∷ rs) chains fragments = (
  by_link (link_in r.1) refl,
  keep-all b c rs (λ x i. chains x (omega (arith, i, chain-step b x (link_in r.1) (chains_in rs)))) (λ p i h. fragments p i (omega (arith, h, less-named p i r rs))),
)
  where
    same : (p i : ℕ) → ((p == p) && (i == i)) ≡ true
    same p i = grind arith

    by_link : (l : Link) → link_in r.1 ≡ l → Keeps b c l
    by_link (Number n) e = tt
    by_link (Fragment p i) e =
        let is : own p i (link_in r.1) ≡ 1 = ap (λ l. own p i l) e ∙ ap (λ t. cond t 1 0) (same p i) in fragments p i (omega (arith, is))
    by_link (Chain p) e = λ x i.
        let m : times x (own_pages b (link_in r.1)) ≡ times x (own_pages b (Chain p)) = ap (λ l. times x (own_pages b l)) e in
        chains x (omega (arith, i, m, times-append x (chain_of b p) [], chain-step b x (link_in r.1) (chains_in rs)))
    by_link Nothing e = tt
