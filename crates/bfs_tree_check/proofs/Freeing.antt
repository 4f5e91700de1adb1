-- The free list of a tree, a page further.
use Rattle.std.proofs.Common.{◌≡◌, ◌≢◌, ◌≤◌, ◌+◌, ◌*◌, ◌/◌, ◌%◌, ◌⊎◌, inl, inr, ℕ, zero, suc, pos, negsuc, List, [], ◌∷◌, ◌++◌, length, Option, Some, Bool, cond, refl, sym, ap, ◌∙◌, subst, arith, append_assoc, append-nil, length-append}
use Rattle.std.proofs.lemmas.Bool.{ne_eqb}
use Rattle.bfs_base.specs.Lists.{times, Has}
use Rattle.bfs_base.specs.declared.kind.KeyKind.{KeyKind}
use Rattle.bfs_node.specs.Page.{left_of, overflow_of}
use Rattle.bfs_pages.specs.Answers.{IsChild, IsLink}
use Rattle.bfs_pages.specs.Trees.{state_of, page_in, place_of, free_in, head_or, FreeFrom, held}
use Rattle.bfs_pages.proofs.Splice.{times-append, self}
use Rattle.bfs_values.proofs.Ending.{few}
use Rattle.bfs_finding.specs.Walks.{free_from, free_next, inners_in, leaves_in, frees_in, chain_pages, pages_met}
use Rattle.bfs_finding.specs.TreeFaults.{IsLinkFault, met_twice, no_mark, no_page, to_next_free, wanted_link}
use Rattle.bfs_walk.specs.declared.fault.TreeWrong.{TreeWrong}
use Rattle.bfs_walk.specs.declared.fault.TreeWrong.TheVariants.{Link}
use Rattle.bfs_walk.specs.Wrong.{IsWrongTree}
use Rattle.bfs_tree_check.specs.Freed.{IsFreeing, IsFreed, built_times}
use Rattle.bfs_tree_check.specs.Marked.{marked}
use Rattle.bfs_tree_check.proofs.Halves.{header_none}
use Rattle.bfs_tree_check.proofs.Marking.{marked_most}

-- what can be wrong with a free page
abbrev pub WrongFree : ℕ → ℕ → List ℕ → TreeWrong → Type 0
WrongFree size at page wrong =
    ((wrong ≡ Link at (overflow_of page) (negsuc 1)) × (overflow_of page ≢ negsuc 1))
    ⊎ ((overflow_of page ≡ negsuc 1) × (wrong ≡ Link at (left_of page) (wanted_link (left_of page))) × ¬ IsLink size (place_of (left_of page)))

goes_on : (frees : ℕ → Option ℕ) (n at : ℕ) → 1 ≤ at → free_from frees (suc n) at ≡ at ∷ free_next (free_from frees n) (frees at)
goes_on frees n at low = ap (λ c. cond c [] (at ∷ free_next (free_from frees n) (frees at))) (ne_eqb at 0 (λ e. omega (arith, e, low)))

module _ (kind : KeyKind) (b done : List ℕ) (left size at : ℕ) (child : IsChild size at) (seen : ℕ → ℕ) (h : IsFreeing kind b done (suc left) at seen) where
  -- it is one of the list
  pub more_times : times at done + 1 ≤ times at (frees_in kind b)
  more_times =
      let behind : List ℕ = free_next (free_from (state_of kind b).frees left) ((state_of kind b).frees at) in
      let e : times at (frees_in kind b) ≡ times at (done ++ (at ∷ behind)) = ap (times at) (h.all ∙ ap (λ l. done ++ l) (goes_on (state_of kind b).frees left at child.0)) in
      let a = times-append at done (at ∷ behind) in
      let own : 1 ≤ times at (at ∷ behind) = self at behind in
      omega (arith, e, a, own)

  pub free_met : Has (frees_in kind b) at
  free_met = let m = more_times in omega (arith, m)

  -- and one that was met before is met twice
  pub free_twice : length b ≡ size → seen at ≡ 1 → IsLinkFault kind b at (pos at) (negsuc 0)
  free_twice long one =
      let m = more_times in
      let e = h.count at in
      let none = header_none at child.0 in
      let a = times-append at (inners_in kind b) (leaves_in kind b ++ (frees_in kind b ++ chain_pages kind b)) in
      let c = times-append at (leaves_in kind b) (frees_in kind b ++ chain_pages kind b) in
      let d = times-append at (frees_in kind b) (chain_pages kind b) in
      let two : 2 ≤ times at (pages_met kind b) = omega (arith, m, e, none, one, a, c, d) in
      met_twice (subst (λ n. IsChild n at) (sym long) child) (inl two) refl refl

  -- what is wrong with it is true
  pub free_wrong : (page : List ℕ) (wrong : TreeWrong) → page ≡ page_in b at → length b ≡ size
      → WrongFree size at page wrong → IsWrongTree kind b wrong
  free_wrong page wrong is long (inl w) =
      subst (IsWrongTree kind b) (sym w.0) (no_mark free_met (subst (λ n. IsChild n at) (sym long) child) (ap overflow_of is) refl w.1)
  free_wrong page wrong is long (inr w) =
      subst (IsWrongTree kind b) (sym w.1)
      (no_page (place_of (left_of page))
      (to_next_free free_met (sym (ap overflow_of is) ∙ w.0) (ap left_of is) (λ e. w.2 (inl (ap place_of e))) refl)
      (λ c. w.2 (inr (subst (λ n. IsChild n (place_of (left_of page))) long c))) refl)

  -- it was met, and the list goes on behind it
  pub free_on : (page : List ℕ) (next : ℕ) (more : ℕ → ℕ) → page ≡ page_in b at → free_in page ≡ Some next → ((x : ℕ) → more x ≡ seen x + times x (at ∷ [])) → IsFreeing kind b (done ++ at ∷ []) left next more
  free_on page next more is free more_is =
      let says : (state_of kind b).frees at ≡ Some next = sym (ap free_in is) ∙ free in
      record {
        all = h.all ∙ ap (λ l. done ++ l) (goes_on (state_of kind b).frees left at child.0 ∙ ap (λ o. at ∷ free_next (free_from (state_of kind b).frees left) o) says)
            ∙ sym (append_assoc done (at ∷ []) (free_from (state_of kind b).frees left next));
        chain = λ rest f. subst (λ l. FreeFrom (state_of kind b).frees (state_of kind b).free l) (sym (append_assoc done (at ∷ []) rest))
            (h.chain (at ∷ rest) (refl, says ∙ ap Some (heads rest f), subst (λ k. FreeFrom (state_of kind b).frees k rest) (heads rest f) f));
        count = λ x. counts x (more_is x);
        long = let l = h.long in let n = length-append done (at ∷ []) in omega (arith, l, n);
      }
    where
      heads : (rest : List ℕ) → FreeFrom (state_of kind b).frees next rest → next ≡ head_or 0 rest
      heads [] f = f
      heads (x ∷ xs) f = f.0

      counts : (x : ℕ) → more x ≡ seen x + times x (at ∷ []) → built_times kind b x + times x (done ++ at ∷ []) ≡ more x
      counts x m = let e = h.count x in let a = times-append x done (at ∷ []) in omega (arith, e, m, a)

-- the list begins
pub free_begins : (kind : KeyKind) (b : List ℕ) (first pages : ℕ) (seen : ℕ → ℕ) → first ≡ (state_of kind b).free → pages ≡ length b / 1024 → ((x : ℕ) → seen x ≡ built_times kind b x) → IsFreeing kind b [] pages first seen
free_begins kind b first pages seen first_is pages_is seen_is = record {
  all = ap (λ n. free_from (state_of kind b).frees n (state_of kind b).free) (sym pages_is) ∙ ap (λ k. free_from (state_of kind b).frees pages k) (sym first_is);
  chain = λ rest f. subst (λ k. FreeFrom (state_of kind b).frees k rest) first_is f;
  count = λ x. let s = seen_is x in omega (arith, s);
  long = let p = pages_is in omega (arith, p);
}

-- it ends
pub free_ends : (kind : KeyKind) (b done : List ℕ) (left at : ℕ) (seen : ℕ → ℕ) → at ≡ 0 → IsFreeing kind b done left at seen → IsFreed kind b seen
free_ends kind b done left at seen none h =
    let same : frees_in kind b ≡ done = h.all ∙ ap (λ l. done ++ l) (ap (λ k. free_from (state_of kind b).frees left k) none ∙ stops left) ∙ append-nil done in
    record {
      chain = subst (λ l. FreeFrom (state_of kind b).frees (state_of kind b).free l) (append-nil done ∙ sym same) (h.chain [] none);
      count = λ x. ap (λ l. built_times kind b x + times x l) same ∙ h.count x;
    }
  where
    stops : (n : ℕ) → free_from (state_of kind b).frees n 0 ≡ []
    stops zero = refl
    stops (suc n) = refl

-- there are no more pages in it than in the stream
pub free_within : (kind : KeyKind) (b done : List ℕ) (size at : ℕ) (marks : List Bool) → length b ≡ size → size % 1024 ≡ 0 → IsFreeing kind b done 0 at (marked size marks) → ⊥
free_within kind b done size at marks long whole h =
    let same : 1024 * (size / 1024) ≡ size = omega (arith, whole) in
    let f = few (size / 1024) (0 ∷ done) (λ x. let e = h.count x in let m = marked_most size x marks in subst (λ n. times x (0 ∷ done) ≤ held n x) (sym same) (omega (arith, e, m))) in
    let l : length done + 0 ≡ size / 1024 = h.long ∙ ap (λ n. n / 1024) long in
    omega (arith, f, l)
