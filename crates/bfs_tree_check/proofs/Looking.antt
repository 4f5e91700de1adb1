-- The leaves of a tree, as far as they were looked at.
use Rattle.std.proofs.Common.{◌≡◌, ◌≤◌, ◌<◌, ◌+◌, ℕ, pos, negsuc, List, [], ◌∷◌, ◌++◌, length, take, drop, get_or, Option, true, inl, refl, sym, ap, ◌∙◌, subst, arith, append_assoc, append-nil}
use Rattle.std.specs.List.{AllByRecursion, flat_map}
use Rattle.std.proofs.lemmas.List.{take_more, drop_more}
use Rattle.bfs_base.specs.Lists.{times, Has}
use Rattle.bfs_base.specs.declared.kind.KeyKind.{KeyKind}
use Rattle.bfs_node.specs.Page.{overflow_of}
use Rattle.bfs_pages.specs.Answers.{IsChild}
use Rattle.bfs_pages.specs.Shapes.{Body}
use Rattle.bfs_pages.specs.Trees.{state_of, page_in, is_page}
use Rattle.bfs_pages.proofs.Splice.{times-append, self}
use Rattle.bfs_finding.specs.Walks.{inners_in, leaves_in, frees_in, chain_pages, pages_met}
use Rattle.bfs_finding.specs.TreeFaults.{IsLinkFault, met_twice}
use Rattle.bfs_walk.specs.Walked.{IsGoodBelow}
use Rattle.bfs_walk.proofs.Going.{leaf_good}
use Rattle.bfs_tree_check.specs.Levels.{places, AreInside, leaves_at, inners_at, IsGoodAt, IsHalf, IsLooking}
use Rattle.bfs_tree_check.specs.declared.item.Item.{Item}
use Rattle.bfs_tree_check.specs.declared.item.Item.TheVariants as item
use Rattle.bfs_tree_check.proofs.Joined.{all_join}
use Rattle.bfs_tree_check.proofs.Halves.{header_none}

module _ (kind : KeyKind) (b done rest : List ℕ) (size at : ℕ) (child : IsChild size at) (seen : ℕ → ℕ) (h : IsLooking kind b done (at ∷ rest) seen) where
  -- it is one of the tree
  pub leaf_met : Has (leaves_in kind b) at
  leaf_met =
      let e : times at (leaves_in kind b) ≡ times at (done ++ (at ∷ rest)) = ap (times at) h.all in
      let a = times-append at done (at ∷ rest) in
      let own : 1 ≤ times at (at ∷ rest) = self at rest in
      omega (arith, e, a, own)

  -- and one that was met before is met twice
  pub leaf_twice : length b ≡ size → seen at ≡ 1 → IsLinkFault kind b at (pos at) (negsuc 0)
  leaf_twice long one =
      let e = h.count at in
      let own : 1 ≤ times at (at ∷ rest) = self at rest in
      let none = header_none at child.0 in
      let a = times-append at (inners_in kind b) (leaves_in kind b ++ (frees_in kind b ++ chain_pages kind b)) in
      let c = times-append at (leaves_in kind b) (frees_in kind b ++ chain_pages kind b) in
      let two : 2 ≤ times at (pages_met kind b) = omega (arith, e, own, none, one, a, c) in
      met_twice (subst (λ m. IsChild m at) (sym long) child) (inl two) refl refl

  -- it was looked at
  pub leaf_looked : (page : List ℕ) (more : ℕ → ℕ) → page ≡ page_in b at → is_page kind page ≡ true → overflow_of page ≡ negsuc 0 → ((x : ℕ) → more x ≡ seen x + times x (at ∷ [])) → IsLooking kind b (done ++ at ∷ []) rest more
  leaf_looked page more is good leaf more_is = record {
    all = h.all ∙ sym (append_assoc done (at ∷ []) rest);
    count = λ x. counts x (more_is x);
    good = all_join (IsGoodBelow (state_of kind b).bodies 0) done (at ∷ []) h.good (leaf_good kind b at page is good leaf, tt);
  }
    where
      counts : (x : ℕ) → more x ≡ seen x + times x (at ∷ []) → times x (0 ∷ []) + (times x (inners_in kind b) + times x (leaves_in kind b)) ≡ more x + times x rest
      counts x m = let e = h.count x in omega (arith, e, m)

-- the leaves of a level
same_leaves : (bodies : ℕ → Option Body) (level : List Item) → flat_map (leaves_at bodies 0) level ≡ places level
same_leaves bodies [] = refl
same_leaves bodies (item.Page at ∷ rest) = ap (λ l. at ∷ l) (same_leaves bodies rest)
same_leaves bodies (item.Key page index ∷ rest) = same_leaves bodies rest

no_inners : (bodies : ℕ → Option Body) (level : List Item) → flat_map (inners_at bodies 0) level ≡ []
no_inners bodies [] = refl
no_inners bodies (item.Page at ∷ rest) = no_inners bodies rest
no_inners bodies (item.Key page index ∷ rest) = no_inners bodies rest

good_level : (bodies : ℕ → Option Body) (level : List Item) → AllByRecursion (IsGoodBelow bodies 0) (places level) → AllByRecursion (IsGoodAt bodies 0) level
good_level bodies [] a = tt
good_level bodies (item.Page at ∷ rest) a = (a.0, good_level bodies rest a.1)
good_level bodies (item.Key page index ∷ rest) a = (tt, good_level bodies rest a)

pub places_inside : (size : ℕ) (level : List Item) → AreInside size level → AllByRecursion (IsChild size) (places level)
places_inside size [] a = tt
places_inside size (item.Page at ∷ rest) a = (a.0, places_inside size rest a.1)
places_inside size (item.Key page index ∷ rest) a = places_inside size rest a.1

pub looking_begins : (kind : KeyKind) (b : List ℕ) (level : List Item) (seen : ℕ → ℕ) → IsHalf kind b 0 level [] seen → IsLooking kind b [] (places level) seen
looking_begins kind b level seen h =
    let leaves : leaves_in kind b ≡ places level = h.leaves ∙ append-nil (flat_map (leaves_at (state_of kind b).bodies 0) level) ∙ same_leaves (state_of kind b).bodies level in record {
      all = leaves;
      count = λ x.
          let e = h.inners x in
          let z : times x (flat_map (inners_at (state_of kind b).bodies 0) level) ≡ 0 = ap (times x) (no_inners (state_of kind b).bodies level) in
          let l : times x (leaves_in kind b) ≡ times x (places level) = ap (times x) leaves in
          omega (arith, e, z, l);
      good = tt;
    }

pub looking_ends : (kind : KeyKind) (b : List ℕ) (level : List Item) (seen more : ℕ → ℕ) → IsHalf kind b 0 level [] seen → IsLooking kind b (places level) [] more
    → IsGoodBelow (state_of kind b).bodies (state_of kind b).levels (state_of kind b).root
looking_ends kind b level seen more h l = h.good (good_level (state_of kind b).bodies level l.good) tt

-- one more of a list is done
pub taken_one : (P : List ℕ → List ℕ → Type 0) (xs : List ℕ) (i d : ℕ) → i < length xs → ((done rest : List ℕ) → done ++ get_or xs i d ∷ [] ≡ take (i + 1) xs → P done (get_or xs i d ∷ rest) → P (take (i + 1) xs) rest)
    → P (take i xs) (drop i xs) → P (take (i + 1) xs) (drop (i + 1) xs)
taken_one P xs i d inside go p = go (take i xs) (drop (i + 1) xs) (sym (take_more xs i d inside)) (subst (λ l. P (take i xs) l) (drop_more xs i d inside) p)
