-- All rows of a tree were read: what their values reach, and what was met nowhere.
use Rattle.std.proofs.Common.{◌≡◌, ◌≢◌, ◌≤◌, ◌<◌, ◌+◌, ◌/◌, ◌%◌, ◌==◌, ◌&&◌, ℕ, zero, suc, List, [], ◌∷◌, ◌++◌, length, get_or, replicate, Bool, true, false, cond, refl, sym, ap, ◌∙◌, subst, arith}
use Rattle.std.specs.Int.{bit_at}
use Rattle.std.specs.List.{AllByRecursion}
use Rattle.std.proofs.lemmas.Bool.{eq-eqb}
use Rattle.bfs_base.specs.Lists.{times, Has}
use Rattle.bfs_base.specs.declared.kind.KeyKind.{KeyKind}
use Rattle.bfs_node.specs.Page.{Row}
use Rattle.bfs_node.specs.declared.header.Header.{Header}
use Rattle.bfs_pages.specs.Answers.{IsChild, IsHeaderFor}
use Rattle.bfs_pages.specs.Shapes.{AscendAll}
use Rattle.bfs_pages.specs.Trees.{header_in, page_in, is_place, held, IsTreeHeader}
use Rattle.bfs_pages.proofs.Placed.{held_most}
use Rattle.bfs_pages.proofs.Splice.{times-append}
use Rattle.bfs_values.specs.declared.link.Link.{Link}
use Rattle.bfs_values.specs.declared.link.Link.TheVariants.{Number, Fragment, Chain, Nothing}
use Rattle.bfs_values.specs.Links.{link_in}
use Rattle.bfs_values.specs.Values.{HasNumbers, fragment_count}
use Rattle.bfs_values.specs.Reached.{is_fragment, times_named, chain_in, chains_in, Ends, AllMean}
use Rattle.bfs_values.specs.Rows.{rows_in}
use Rattle.bfs_range.specs.declared.ranged.RangedRow.{RangedRow}
use Rattle.bfs_finding.specs.Walks.{inners_in, leaves_in, entries_met, frees_in, fragment_in, fragments_in, chain_pages, pages_met}
use Rattle.bfs_finding.specs.TreeFaults.{IsValueFault, not_one, nowhere}
use Rattle.bfs_walk.specs.declared.fault.TreeWrong.{TreeWrong}
use Rattle.bfs_walk.specs.Walked.{IsWalked, entries_alone}
use Rattle.bfs_walk.specs.Wrong.{IsWrongTree}
use Rattle.bfs_tree_check.specs.Marked.{marked}
use Rattle.bfs_tree_check.specs.Shaped.{IsShaped}
use Rattle.bfs_tree_check.specs.declared.item.Item.{Item}
use Rattle.bfs_tree_check.proofs.Joined.{all_join}
use Rattle.bfs_tree_check.proofs.Marking.{marked_most}
use Rattle.bfs_tree_walk.specs.Unmet.{IsUnmet}
use Rattle.bfs_tree_walk.proofs.Wholly.{held_place}
use Rattle.bfs_value_walk.specs.Met.{shape_times, chained_by, AreMet, AreMarked}
use Rattle.bfs_value_walk.specs.Named.{parted}
use Rattle.bfs_value_walk.specs.Taken.{AreTaken, AreNamed, AreAllNamed, IsReached}
use Rattle.bfs_value_walk.proofs.Meeting.{named_there}
use Rattle.bfs_value_walk.proofs.Wording.{named_here, none_named, none_parted, parted_some}

-- ---- before the first row

pub none_taken : (kind : KeyKind) (b : List ℕ) (size count : ℕ) (marks : List Bool) → ((x : ℕ) → shape_times kind b x ≡ marked size marks x) → (took : List RangedRow → Type 0) → took [] → AreTaken kind b [] size marks (replicate {A = ℕ} count 0) took
none_taken kind b size count marks shape took none = record {
  met = record {
    fragments = [];
    count = λ x. let s = shape x in omega (arith, s);
    once = λ x. omega arith;
    are = λ x. sym (none_parted size x count);
    there = λ x. (λ h. absurd (omega (arith, h)), λ g. absurd (let s = g.1 in omega (arith, s)));
    each = λ x f. sym (none_named size x f count);
    mean = tt;
  };
  are = none;
}

-- the header is marked
pub header_marked : (kind : KeyKind) (b : List ℕ) (rows : List Row) (size : ℕ) (marks : List Bool) (parts : ℕ → ℕ) (names : ℕ → ℕ → ℕ) → AreMet kind b rows (marked size marks) parts names → marked size marks 0 ≡ 1
header_marked kind b rows size marks parts names m =
    let c = m.count 0 in
    let k = marked_most size 0 marks in
    let h = held_most size 0 in
    let z : times 0 (0 ∷ []) ≡ 1 = refl in
    omega (arith, c, k, h, z)

-- so no fragment of its page is named
pub header_whole : (kind : KeyKind) (b : List ℕ) (rows : List Row) (size : ℕ) (marks : List Bool) (names : List ℕ) → AreMarked kind b rows size marks names → parted size names 0 ≡ 0
header_whole kind b rows size marks names m =
    let c = m.count 0 in
    let a = m.are 0 in
    let k = marked_most size 0 marks in
    let h = held_most size 0 in
    let z : times 0 (0 ∷ []) ≡ 1 = refl in
    omega (arith, c, a, k, h, z)

-- ---- a page of fragments

pub part_named : (b names : List ℕ) (size at word : ℕ) (page : List ℕ) → is_place size at ≡ true → page ≡ page_in b at → get_or names (at / 1024) 0 ≡ word → ((f : ℕ) → f < 16 → 0 < fragment_count page f → bit_at word f ≡ 1) → AreNamed b size names at
part_named b names size at word page place is same bits f low some =
    named_here size at f names place low ∙ ap (λ w. bit_at w f) same ∙ bits f low (subst (λ (p : List ℕ). 0 < fragment_count p f) (sym is) some)

pub part_wrong : (kind : KeyKind) (b names : List ℕ) (size at word : ℕ) (page : List ℕ) (marks : List Bool) → is_place size at ≡ true → page ≡ page_in b at → get_or names (at / 1024) 0 ≡ word → word ≢ 0
    → AreMarked kind b (rows_in kind b) size marks names → ((f : ℕ) × (f < 16) × (0 < fragment_count page f) × (bit_at word f ≡ 0)) → IsValueFault kind b at
part_wrong kind b names size at word page marks place is same off m w =
    let one : parted size names at ≡ 1 = parted_some size at names place (λ z. off (sym same ∙ z)) in
    let has : 0 < times at m.fragments = let a = m.are at in omega (arith, a, one) in
    let g = (m.there at).0 has in
    let none : times_named at w.0 (rows_in kind b) ≡ 0 = m.each at w.0 ∙ named_here size at w.0 names place w.1 ∙ ap (λ k. bit_at k w.0) same ∙ w.3 in
    not_one w.0 (named_there at g.0 (rows_in kind b) g.1) w.1 (subst (λ (p : List ℕ). 0 < fragment_count p w.0) is w.2) (λ t. omega (arith, none, t))

-- ---- all of them

ends_link : (b : List ℕ) (l : Link) → HasNumbers b l → AllByRecursion (Ends b) (chain_in l)
ends_link b (Number n) h = tt
ends_link b (Fragment page i) h = tt
ends_link b (Chain page) h = (h.1, tt)
ends_link b Nothing h = tt

ends_all : (b : List ℕ) (rows : List Row) → AllMean b rows → AllByRecursion (Ends b) (chains_in rows)
ends_all b [] m = tt
ends_all b (r ∷ rows) m = all_join (Ends b) (chain_in (link_in r.1)) (chains_in rows) (ends_link b (link_in r.1) m.0) (ends_all b rows m.1)

-- a page with a fragment that rows name is named by one of them
is_named : (rows : List Row) (x : ℕ) → Has (fragments_in rows) x → (f : ℕ) × (0 < times_named x f rows)
is_named [] x h = absurd (omega (arith, h))
is_named (r ∷ rs) x h = by_link (link_in r.1) h (λ k. is_named rs x k)
  where
    by_link : (l : Link) → Has (fragment_in l ++ fragments_in rs) x → (Has (fragments_in rs) x → (f : ℕ) × (0 < times_named x f rs)) → (f : ℕ) × (0 < cond (is_fragment x f l) 1 0 + times_named x f rs)
    by_link (Number n) h ih = let g = ih h in (g.0, let s = g.1 in omega (arith, s))
    by_link (Chain page) h ih = let g = ih h in (g.0, let s = g.1 in omega (arith, s))
    by_link Nothing h ih = let g = ih h in (g.0, let s = g.1 in omega (arith, s))
    by_link (Fragment page i) h ih = by_test (page == x) refl
      where
        by_test : (c : Bool) → (page == x) ≡ c → (f : ℕ) × (0 < cond ((page == x) && (i == f)) 1 0 + times_named x f rs)
        by_test true e =
            let t : cond {A = ℕ} ((page == x) && (i == i)) 1 0 ≡ 1 = ap (λ c. cond {A = ℕ} (c && (i == i)) 1 0) e ∙ ap (λ c. cond {A = ℕ} c 1 0) (eq-eqb i i refl) in
            (i, omega (arith, t))
        by_test false e =
            let k : times x (page ∷ fragments_in rs) ≡ 0 + times x (fragments_in rs) = ap (λ c. cond {A = ℕ} c 1 0 + times x (fragments_in rs)) e in
            let g = ih (omega (arith, h, k)) in
            (g.0, let s = g.1 in omega (arith, s))

pub all_reached : (kind : KeyKind) (b : List ℕ) (size : ℕ) (marks : List Bool) (names : List ℕ) (took : List RangedRow → Type 0) → AreTaken kind b (rows_in kind b) size marks names took → AreAllNamed b size names → IsReached kind b (marked size marks) took
all_reached kind b size marks names took t all =
    let m = t.met in
    record {
      pages = m.fragments ++ chained_by b (rows_in kind b);
      values = record {
        fragments = m.fragments;
        parts = refl;
        ends = ends_all b (rows_in kind b) m.mean;
        named = m.there;
        each = λ at f h low some. m.each at f ∙ all at (let a = m.are at in omega (arith, a, h)) f low some;
      };
      mean = m.mean;
      count = λ x. counts x (m.count x);
      none = λ x z. (none_chained x z, none_parts x z (times x (fragments_in (rows_in kind b))) refl);
      are = t.are;
    }
  where
    counts : (x : ℕ) → shape_times kind b x + (times x (chained_by b (rows_in kind b)) + times x t.met.fragments) ≡ marked size marks x → shape_times kind b x + times x (t.met.fragments ++ chained_by b (rows_in kind b)) ≡ marked size marks x
    counts x c = let a = times-append x t.met.fragments (chained_by b (rows_in kind b)) in omega (arith, c, a)

    none_chained : (x : ℕ) → times x (t.met.fragments ++ chained_by b (rows_in kind b)) ≡ 0 → times x (chain_pages kind b) ≡ 0
    none_chained x z = let a = times-append x t.met.fragments (chained_by b (rows_in kind b)) in omega (arith, z, a)

    none_parts : (x : ℕ) → times x (t.met.fragments ++ chained_by b (rows_in kind b)) ≡ 0 → (n : ℕ) → times x (fragments_in (rows_in kind b)) ≡ n → n ≡ 0
    none_parts x z zero e = refl
    none_parts x z (suc n) e =
        let g = is_named (rows_in kind b) x (let s = e in omega (arith, s)) in
        let h : 0 < times x t.met.fragments = (t.met.there x).1 g in
        let a = times-append x t.met.fragments (chained_by b (rows_in kind b)) in
        absurd (omega (arith, z, a, h))

-- the tree's shape is marked
pub shape_marked : (kind : KeyKind) (b : List ℕ) (level : List Item) (leaves : List ℕ) (seen : ℕ → ℕ) → IsShaped kind b level leaves seen → (x : ℕ) → shape_times kind b x ≡ seen x
shape_marked kind b level leaves seen s x = s.freed.count x

module _ (kind : KeyKind) (b : List ℕ) (level : List Item) (leaves : List ℕ) (shaped seen : ℕ → ℕ) (took : List RangedRow → Type 0) (s : IsShaped kind b level leaves shaped) (r : IsReached kind b seen took) where
  pub walked : (h : Header) → IsHeaderFor kind (length b) h → h ≡ header_in b → AscendAll kind (entries_alone (entries_met kind b)) → ((x : ℕ) → seen x ≡ held (length b) x) → length b % 1024 ≡ 0 → IsWalked kind b r.pages (frees_in kind b)
  walked h good is ascends met whole = record {
    whole = whole;
    header = subst (IsTreeHeader kind (length b)) is good.tree;
    good = s.good;
    ascends = ascends;
    linked = s.linked;
    chain = s.freed.chain;
    once = λ x. counts x (r.count x) (met x);
    values = r.values;
    mean = r.mean;
  }
    where
      counts : (x : ℕ) → shape_times kind b x + times x r.pages ≡ seen x → seen x ≡ held (length b) x
          → times x (0 ∷ []) + times x r.pages + (times x (inners_in kind b) + times x (leaves_in kind b)) + times x (frees_in kind b) ≡ held (length b) x
      counts x c m = omega (arith, c, m)

-- a page that wasn't met is met nowhere
pub unmet_wrong : (kind : KeyKind) (b : List ℕ) (seen : ℕ → ℕ) (took : List RangedRow → Type 0) → IsReached kind b seen took → (wrong : TreeWrong) → IsUnmet (length b) seen wrong → IsWrongTree kind b wrong
unmet_wrong kind b seen took r wrong u = subst (IsWrongTree kind b) (sym u.is) (nowhere child (by_pages, (r.none u.page none).1) refl refl)
  where
    count : shape_times kind b u.page + times u.page r.pages ≡ 0
    count = r.count u.page ∙ u.none

    none : times u.page r.pages ≡ 0
    none = let c = count in omega (arith, c)

    low : (x : ℕ) → times x (0 ∷ []) ≡ 0 → 1 ≤ x
    low zero e = absurd (omega (arith, e))
    low (suc x) e = omega arith

    child : IsChild (length b) u.page
    child = (low u.page (let c = count in omega (arith, c)), held_place (length b) u.page u.there)

    by_pages : times u.page (pages_met kind b) ≡ 0
    by_pages =
        let x = u.page in
        let c = count in
        let z = (r.none x none).0 in
        let i = times-append x (inners_in kind b) (leaves_in kind b ++ (frees_in kind b ++ chain_pages kind b)) in
        let l = times-append x (leaves_in kind b) (frees_in kind b ++ chain_pages kind b) in
        let f = times-append x (frees_in kind b) (chain_pages kind b) in
        omega (arith, c, z, i, l, f)
