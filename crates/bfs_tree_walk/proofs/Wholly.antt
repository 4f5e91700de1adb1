-- A tree of plain numbers over all of whose pages a walk has gone.
use Rattle.std.proofs.Common.{◌≡◌, ◌≤◌, ◌<◌, ◌+◌, ◌%◌, ℕ, zero, suc, List, [], ◌∷◌, ◌++◌, length, Bool, true, false, cond, inl, refl, sym, ap, ap₂, ◌∙◌, subst, arith}
use Rattle.std.specs.List.{AllByRecursion, flat_map}
use Rattle.bfs_base.specs.Lists.{times}
use Rattle.bfs_base.specs.declared.kind.KeyKind.{KeyKind}
use Rattle.bfs_node.specs.Page.{Row, value_of}
use Rattle.bfs_node.specs.declared.header.Header.{Header}
use Rattle.bfs_pages.specs.Answers.{IsChild, IsHeaderFor}
use Rattle.bfs_pages.specs.Shapes.{AscendAll}
use Rattle.bfs_pages.specs.Trees.{header_in, is_place, held, IsTreeHeader}
use Rattle.bfs_pages.proofs.Splice.{times-append}
use Rattle.bfs_values.specs.declared.link.Link.{Link}
use Rattle.bfs_values.specs.declared.link.Link.TheVariants.{Number, Fragment, Chain, Nothing}
use Rattle.bfs_values.specs.Links.{link_in}
use Rattle.bfs_values.specs.Values.{chain_of, HasNumbers}
use Rattle.bfs_values.specs.Reached.{is_fragment, times_named, chain_in, chains_in, Ends, AreReached, AllMean}
use Rattle.bfs_values.specs.Rows.{rows_in}
use Rattle.bfs_finding.specs.Walks.{inners_in, leaves_in, entries_met, frees_in, fragment_in, fragments_in, chain_pages, pages_met}
use Rattle.bfs_finding.specs.TreeFaults.{nowhere}
use Rattle.bfs_walk.specs.declared.fault.TreeWrong.{TreeWrong}
use Rattle.bfs_walk.specs.Walked.{IsWalked, entries_alone}
use Rattle.bfs_walk.specs.declared.fault.TreeWrong.TheVariants as wrongs
use Rattle.bfs_walk.specs.declared.fault.WalkFault.{WalkFault}
use Rattle.bfs_walk.specs.declared.fault.WalkFault.TheVariants as walk
use Rattle.bfs_walk.specs.Wrong.{IsWrongTree, IsWrong}
use Rattle.bfs_tree_check.specs.Amiss.{IsAmissIn, IsAmiss}
use Rattle.bfs_tree_check.specs.Freed.{built_times}
use Rattle.bfs_tree_check.specs.Shaped.{IsShaped}
use Rattle.bfs_tree_check.specs.declared.item.Item.{Item}
use Rattle.bfs_tree_check.proofs.Marking.{place_low}
use Rattle.bfs_tree_walk.specs.Plain.{IsNumber, ArePlain}
use Rattle.bfs_tree_walk.specs.Unmet.{IsUnmet}

-- plain numbers name no page
chain_none : (l : Link) → IsNumber l → chain_in l ≡ []
chain_none (Number n) p = refl
chain_none (Fragment page i) p = absurd p
chain_none (Chain page) p = absurd p
chain_none Nothing p = absurd p

chains_none : (rows : List Row) → ArePlain rows → chains_in rows ≡ []
chains_none [] p = refl
chains_none (r ∷ rs) p = ap₂ (λ (a : List ℕ) (b : List ℕ). a ++ b) (chain_none (link_in (value_of r)) p.0) (chains_none rs p.1)

fragment_none : (l : Link) → IsNumber l → fragment_in l ≡ []
fragment_none (Number n) p = refl
fragment_none (Fragment page i) p = absurd p
fragment_none (Chain page) p = absurd p
fragment_none Nothing p = absurd p

fragments_none : (rows : List Row) → ArePlain rows → fragments_in rows ≡ []
fragments_none [] p = refl
fragments_none (r ∷ rs) p = ap₂ (λ (a : List ℕ) (b : List ℕ). a ++ b) (fragment_none (link_in (value_of r)) p.0) (fragments_none rs p.1)

name_none : (at f : ℕ) (l : Link) → IsNumber l → is_fragment at f l ≡ false
name_none at f (Number n) p = refl
name_none at f (Fragment page i) p = absurd p
name_none at f (Chain page) p = absurd p
name_none at f Nothing p = absurd p

names_none : (at f : ℕ) (rows : List Row) → ArePlain rows → times_named at f rows ≡ 0
names_none at f [] p = refl
names_none at f (r ∷ rs) p = ap₂ (λ (c : Bool) (n : ℕ). cond c 1 0 + n) (name_none at f (link_in (value_of r)) p.0) (names_none at f rs p.1)

means : (b : List ℕ) (l : Link) → IsNumber l → HasNumbers b l
means b (Number n) p = tt
means b (Fragment page i) p = absurd p
means b (Chain page) p = absurd p
means b Nothing p = absurd p

all_mean : (b : List ℕ) (rows : List Row) → ArePlain rows → AllMean b rows
all_mean b [] p = tt
all_mean b (r ∷ rs) p = (means b (link_in (value_of r)) p.0, all_mean b rs p.1)

none_reached : (b : List ℕ) (rows : List Row) → ArePlain rows → AreReached b rows []
none_reached b rows p = record {
  fragments = [];
  parts = sym (ap (flat_map (chain_of b)) (chains_none rows p));
  ends = subst (AllByRecursion (Ends b)) (sym (chains_none rows p)) tt;
  named = λ at. (λ h. absurd (omega (arith, h)), λ n. absurd (let z = names_none at n.0 rows p in let some = n.1 in omega (arith, z, some)));
  each = λ at f h. absurd (omega (arith, h));
}

abbrev test : Bool → ℕ
test c = cond c 1 0

pub held_place : (size x : ℕ) → held size x ≡ 1 → is_place size x ≡ true
unfolding held
held_place size x h = by_test (is_place size x) refl
  where
    by_test : (c : Bool) → is_place size x ≡ c → is_place size x ≡ true
    by_test true e = e
    by_test false e = absurd (let z : test (is_place size x) ≡ 0 = ap test e in let o : test (is_place size x) ≡ 1 = h in omega (arith, z, o))

pub held_low : (size x : ℕ) → held size x ≡ 1 → x < size
held_low size x h = let low = place_low size x (held_place size x h) in omega (arith, low)

module _ (kind : KeyKind) (b : List ℕ) (level : List Item) (leaves : List ℕ) (seen : ℕ → ℕ) (s : IsShaped kind b level leaves seen) (plain : ArePlain (rows_in kind b)) where
  pub walked : (h : Header) → IsHeaderFor kind (length b) h → h ≡ header_in b → AscendAll kind (entries_alone (entries_met kind b)) → ((x : ℕ) → seen x ≡ held (length b) x) → length b % 1024 ≡ 0 → IsWalked kind b [] (frees_in kind b)
  walked h good is ascends met whole = record {
    whole = whole;
    header = subst (IsTreeHeader kind (length b)) is good.tree;
    good = s.good;
    ascends = ascends;
    linked = s.linked;
    chain = s.freed.chain;
    once = λ x. counts x (s.freed.count x) (met x);
    values = none_reached b (rows_in kind b) plain;
    mean = all_mean b (rows_in kind b) plain;
  }
    where
      counts : (x : ℕ) → built_times kind b x + times x (frees_in kind b) ≡ seen x → seen x ≡ held (length b) x
          → times x (0 ∷ []) + times x [] + (times x (inners_in kind b) + times x (leaves_in kind b)) + times x (frees_in kind b) ≡ held (length b) x
      counts x c m = omega (arith, c, m)

  -- a page that wasn't met is met nowhere
  pub unmet_wrong : (wrong : TreeWrong) → IsUnmet (length b) seen wrong → IsWrongTree kind b wrong
  unmet_wrong wrong u = subst (IsWrongTree kind b) (sym u.is) (nowhere child (by_pages, by_fragments) refl refl)
    where
      count : built_times kind b u.page + times u.page (frees_in kind b) ≡ 0
      count = s.freed.count u.page ∙ u.none

      low : (x : ℕ) → times x (0 ∷ []) ≡ 0 → 1 ≤ x
      low zero e = absurd (omega (arith, e))
      low (suc x) e = omega arith

      child : IsChild (length b) u.page
      child = (low u.page (let c = count in omega (arith, c)), held_place (length b) u.page u.there)

      by_pages : times u.page (pages_met kind b) ≡ 0
      by_pages =
          let x = u.page in
          let c = count in
          let z : times x (chain_pages kind b) ≡ 0 = ap (λ l. times x (flat_map (chain_of b) l)) (chains_none (rows_in kind b) plain) in
          let i = times-append x (inners_in kind b) (leaves_in kind b ++ (frees_in kind b ++ chain_pages kind b)) in
          let l = times-append x (leaves_in kind b) (frees_in kind b ++ chain_pages kind b) in
          let f = times-append x (frees_in kind b) (chain_pages kind b) in
          omega (arith, c, z, i, l, f)

      by_fragments : times u.page (fragments_in (rows_in kind b)) ≡ 0
      by_fragments = ap (times u.page) (fragments_none (rows_in kind b) plain)

wrong_amiss : (kind : KeyKind) (b : List ℕ) (wrong : TreeWrong) → IsWrongTree kind b wrong → IsAmissIn kind b wrong
wrong_amiss kind b (wrongs.Page page part) h = inl h
wrong_amiss kind b (wrongs.Link page found wanted) h = h
wrong_amiss kind b (wrongs.Order page index) h = h

-- what is wrong with a tree is so beside its header too
pub fault_amiss : {F : Type 0} (kind : KeyKind) (b : List ℕ) (fault : WalkFault F) → IsWrong kind b fault → IsAmiss kind b fault
fault_amiss kind b (walk.Wrong wrong) h = wrong_amiss kind b wrong h
fault_amiss kind b (walk.Pages fault) h = tt
fault_amiss kind b walk.NoMemory h = tt
