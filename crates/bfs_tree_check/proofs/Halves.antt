-- A level of which one thing more is passed.
use Rattle.std.proofs.Common.{◌≡◌, ◌≤◌, ◌<◌, ◌+◌, ℕ, ℤ, pos, negsuc, suc, List, [], ◌∷◌, ◌++◌, length, Option, Some, inl, refl, sym, ap, ◌∙◌, subst, arith, append-nil}
use Rattle.std.specs.List.{flat_map}
use Rattle.std.proofs.lemmas.List.Concat.{flat_map-append}
use Rattle.bfs_base.specs.Lists.{times, Has}
use Rattle.bfs_base.specs.declared.kind.KeyKind.{KeyKind}
use Rattle.bfs_node.specs.Page.{Row, rows_of, row_in, overflow_of}
use Rattle.bfs_pages.specs.Answers.{IsChild, IsInteriorPage}
use Rattle.bfs_pages.specs.Shapes.{Body, inner_body}
use Rattle.bfs_pages.specs.Trees.{state_of, place_of, page_in, children_in}
use Rattle.bfs_pages.proofs.Splice.{times-append, self}
use Rattle.bfs_values.specs.Rows.{children_at}
use Rattle.bfs_finding.specs.Walks.{inners_below, leaves_below, entries_below, inner_met, entries_met, inners_in, leaves_in, frees_in, chain_pages, pages_met}
use Rattle.bfs_finding.specs.TreeFaults.{IsLinkFault, met_twice}
use Rattle.bfs_walk.proofs.Going.{inner_good}
use Rattle.bfs_tree_check.specs.Levels.{opened, IsInside, AreInside, IsThere, bound_in, met_in, leaves_at, inners_at, IsGoodAt, IsHalf}
use Rattle.bfs_tree_check.specs.declared.item.Item.{Item}
use Rattle.bfs_tree_check.specs.declared.item.Item.TheVariants as item
use Rattle.bfs_tree_check.proofs.Joined.{moved, all_join, all_before, all_behind}
use Rattle.bfs_tree_check.proofs.Opens.{opened_leaves, opened_inners, opened_good, opened_met, key_there, opened_inside, opened_there}

times_moved : (x : ℕ) (f g : Item → List ℕ) (done more : List Item) (k : Item) (rest : List Item) → flat_map f more ≡ g k
    → times x (flat_map f done) + times x (flat_map g (k ∷ rest)) ≡ times x (flat_map f (done ++ more)) + times x (flat_map g rest)
times_moved x f g done more k rest e =
    let a = times-append x (flat_map f done) (flat_map g (k ∷ rest)) in
    let b = times-append x (flat_map f (done ++ more)) (flat_map g rest) in
    sym a ∙ ap (times x) (moved f g done more k rest e) ∙ b

pub header_none : (x : ℕ) → 1 ≤ x → times x (0 ∷ []) ≡ 0
header_none x low = grind (arith, low)

module _ (kind : KeyKind) (b : List ℕ) (n : ℕ) (done rest : List Item) where
  bodies : ℕ → Option Body
  bodies = (state_of kind b).bodies

  -- a key stays between the pages
  pub key_stays : (page index : ℕ) (seen : ℕ → ℕ) → IsHalf kind b n done (item.Key page index ∷ rest) seen → IsHalf kind b n (done ++ item.Key page index ∷ []) rest seen
  key_stays page index seen h =
      let k : Item = item.Key page index in record {
        met = h.met ∙ moved (met_in (state_of kind b).bodies n) (met_in (state_of kind b).bodies (suc n)) done (k ∷ []) k rest refl;
        leaves = h.leaves ∙ moved (leaves_at (state_of kind b).bodies n) (leaves_at (state_of kind b).bodies (suc n)) done (k ∷ []) k rest refl;
        inners = λ x. h.inners x ∙ ap (λ m. seen x + m) (times_moved x (inners_at (state_of kind b).bodies n) (inners_at (state_of kind b).bodies (suc n)) done (k ∷ []) k rest refl);
        good = λ a r. h.good (all_before (IsGoodAt (state_of kind b).bodies n) done (k ∷ []) a) (tt, r);
        there = (all_join (IsThere kind b) done (k ∷ []) h.there.0 (h.there.1.0, tt), h.there.1.1);
      }

  module _ (size at : ℕ) (child : IsChild size at) (seen : ℕ → ℕ) (h : IsHalf kind b n done (item.Page at ∷ rest) seen) where
    below : List ℕ
    below = flat_map (inners_below (state_of kind b).bodies n) (children_at ((state_of kind b).bodies at))

    behind : List ℕ
    behind = flat_map (inners_at (state_of kind b).bodies (suc n)) rest

    count : seen at + 1 ≤ times at (inners_in kind b)
    unfolding below behind
    count =
        let e = h.inners at in
        let own : 1 ≤ times at (at ∷ (below ++ behind)) = self at (below ++ behind) in
        let all : times at (flat_map (inners_at (state_of kind b).bodies (suc n)) (item.Page at ∷ rest)) ≡ times at (at ∷ (below ++ behind)) = refl in
        let none = header_none at child.0 in
        omega (arith, e, own, all, none)

    -- it is one of the tree
    pub page_met : Has (inners_in kind b) at
    page_met = let c = count in omega (arith, c)

    -- and one that was met before is met twice
    pub page_twice : length b ≡ size → seen at ≡ 1 → IsLinkFault kind b at (pos at) (negsuc 0)
    page_twice long one =
        let c = count in
        let a = times-append at (inners_in kind b) (leaves_in kind b ++ (frees_in kind b ++ chain_pages kind b)) in
        let two : 2 ≤ times at (pages_met kind b) = omega (arith, c, one, a) in
        met_twice (subst (λ m. IsChild m at) (sym long) child) (inl two) refl refl

    -- it is opened
    pub page_opens : (page : List ℕ) (now : List Item) (more : ℕ → ℕ) → page ≡ page_in b at → IsInteriorPage kind size page
        → now ≡ done ++ opened at 0 (rows_of page) (overflow_of page) → ((x : ℕ) → more x ≡ seen x + times x (at ∷ [])) → IsHalf kind b n now rest more
    unfolding below behind
    page_opens page now more is inner now_is more_is =
        let rows : List Row = rows_of page in
        let last : ℤ = overflow_of page in
        let new : List Item = opened at 0 rows last in
        let body = inner_good kind b at size page is inner in
        let keys : (j : ℕ) → j < length rows → bound_in ((state_of kind b).bodies at) (0 + j) ≡ (row_in rows j).0 = λ j low.
        ap (λ o. bound_in o (0 + j)) body ∙ ap (bound_in (Some (inner_body (children_in rows) (place_of last)))) (let z : 0 + j ≡ j = omega arith in z) ∙ key_there rows (place_of last) j in
        let met_e = opened_met (state_of kind b).bodies n at last 0 rows keys ∙ sym (ap (λ o. inner_met (entries_below (state_of kind b).bodies n) at o) body) in
        let leaves_e = opened_leaves (state_of kind b).bodies n at last 0 rows ∙ sym (ap (λ o. flat_map (leaves_below (state_of kind b).bodies n) (children_at o)) body) in
        let inners_e : flat_map (inners_at (state_of kind b).bodies n) new ≡ below = opened_inners (state_of kind b).bodies n at last 0 rows ∙ sym (ap (λ o. flat_map (inners_below (state_of kind b).bodies n) (children_at o)) body) in
        let half : IsHalf kind b n (done ++ new) rest more = record {
          met = h.met ∙ moved (met_in (state_of kind b).bodies n) (met_in (state_of kind b).bodies (suc n)) done new (item.Page at) rest met_e;
          leaves = h.leaves ∙ moved (leaves_at (state_of kind b).bodies n) (leaves_at (state_of kind b).bodies (suc n)) done new (item.Page at) rest leaves_e;
          inners = λ x. counts x new inners_e (more_is x);
          good = λ a r. h.good (all_before (IsGoodAt (state_of kind b).bodies n) done new a)
              ((children_in rows, place_of last, body, opened_good (state_of kind b).bodies n at last 0 rows (all_behind (IsGoodAt (state_of kind b).bodies n) done new a)), r);
          there = (all_join (IsThere kind b) done new h.there.0 (opened_there kind b at 0 rows last page_met (let e = ap (λ (p : List ℕ). length (rows_of p)) is in omega (arith, e))), h.there.1.1);
        } in
        subst (λ l. IsHalf kind b n l rest more) (sym now_is) half
      where
        counts : (x : ℕ) (new : List Item) → flat_map (inners_at (state_of kind b).bodies n) new ≡ below → more x ≡ seen x + times x (at ∷ [])
            → times x (0 ∷ []) + times x (inners_in kind b) ≡ more x + (times x (flat_map (inners_at (state_of kind b).bodies n) (done ++ new)) + times x (flat_map (inners_at (state_of kind b).bodies (suc n)) rest))
        counts x new new_is more_at =
            let e = h.inners x in
            let all : times x (flat_map (inners_at (state_of kind b).bodies (suc n)) (item.Page at ∷ rest)) ≡ times x (at ∷ (below ++ behind)) = refl in
            let split = times-append x below behind in
            let parts : times x (flat_map (inners_at (state_of kind b).bodies n) (done ++ new)) ≡ times x (flat_map (inners_at (state_of kind b).bodies n) done ++ below) =
            ap (times x) (flat_map-append (inners_at (state_of kind b).bodies n) done new ∙ ap (λ l. flat_map (inners_at (state_of kind b).bodies n) done ++ l) new_is) in
            let joined = times-append x (flat_map (inners_at (state_of kind b).bodies n) done) below in
            omega (arith, e, all, split, parts, joined, more_at)

pub inside_opens : (kind : KeyKind) (size at : ℕ) (page : List ℕ) (old now : List Item) → IsChild size at → IsInteriorPage kind size page → now ≡ old ++ opened at 0 (rows_of page) (overflow_of page) → AreInside size old → AreInside size now
inside_opens kind size at page old now child inner now_is all =
    subst (AreInside size) (sym now_is) (all_join (IsInside size) old (opened at 0 (rows_of page) (overflow_of page)) all (opened_inside size at 0 (rows_of page) (overflow_of page) child inner.last inner.children))

-- a level whose pages are yet to be opened
pub level_begins : (kind : KeyKind) (b : List ℕ) (n : ℕ) (items : List Item) (seen : ℕ → ℕ) → IsHalf kind b (suc n) items [] seen → IsHalf kind b n [] items seen
level_begins kind b n items seen h = record {
  met = h.met ∙ none (flat_map (met_in (state_of kind b).bodies (suc n)) items);
  leaves = h.leaves ∙ none (flat_map (leaves_at (state_of kind b).bodies (suc n)) items);
  inners = λ x. let e = h.inners x in omega (arith, e);
  good = λ a r. h.good r tt;
  there = (tt, h.there.0);
}
  where
    none : {X : Type 0} (xs : List X) → xs ++ [] ≡ xs
    none [] = refl
    none (x ∷ xs) = ap (λ l. x ∷ l) (none xs)

-- the root alone is a level
pub root_level : (kind : KeyKind) (b : List ℕ) (root levels : ℕ) (seen : ℕ → ℕ) → root ≡ (state_of kind b).root → levels ≡ (state_of kind b).levels → ((x : ℕ) → seen x ≡ times x (0 ∷ [])) → IsHalf kind b levels (item.Page root ∷ []) [] seen
root_level kind b root levels seen root_is levels_is seen_is =
    subst (λ r. IsHalf kind b levels (item.Page r ∷ []) [] seen) (sym root_is) (subst (λ n. IsHalf kind b n (item.Page (state_of kind b).root ∷ []) [] seen) (sym levels_is) here)
  where
    twice : {X : Type 0} (xs : List X) → xs ≡ (xs ++ []) ++ []
    twice xs = sym (append-nil (xs ++ []) ∙ append-nil xs)

    here : IsHalf kind b (state_of kind b).levels (item.Page (state_of kind b).root ∷ []) [] seen
    here = record {
      met = twice (entries_met kind b);
      leaves = twice (leaves_in kind b);
      inners = λ x.
          let s = seen_is x in
          let a = times-append x (inners_in kind b) [] in
          omega (arith, s, a);
      good = λ a r. a.0;
      there = ((tt, tt), tt);
    }
