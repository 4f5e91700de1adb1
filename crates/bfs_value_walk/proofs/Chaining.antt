-- A chain of duplicate pages, a page further.
use Rattle.std.proofs.Common.{◌≡◌, ◌≢◌, ◌≤◌, ◌+◌, ◌*◌, ◌/◌, ◌%◌, inl, inr, ℕ, zero, suc, pos, negsuc, List, [], ◌∷◌, ◌++◌, length, Bool, cond, refl, sym, ap, ◌∙◌, subst, arith, append_assoc, append-nil, length-append}
use Rattle.std.proofs.lemmas.Bool.{ne_eqb, eq-eqb}
use Rattle.bfs_base.specs.Lists.{times, Has}
use Rattle.bfs_base.specs.declared.kind.KeyKind.{KeyKind}
use Rattle.bfs_node.specs.Page.{right_of}
use Rattle.bfs_pages.specs.Answers.{IsChild, IsLink}
use Rattle.bfs_pages.specs.Trees.{page_in, place_of, held}
use Rattle.bfs_pages.proofs.Splice.{times-append, self}
use Rattle.bfs_values.specs.Values.{IsDuplicates, page_numbers, next_of, EndsAfter, AreDuplicates, chain_from, chain_of, numbers_of_pages}
use Rattle.bfs_values.proofs.Ending.{few}
use Rattle.bfs_finding.specs.Walks.{chain_pages}
use Rattle.bfs_finding.specs.declared.finding.PagePart.TheVariants as parts
use Rattle.bfs_finding.specs.TreeFaults.{IsLinkFault, IsPageFault, of_value, no_duplicates, met_twice, no_page, to_next, wanted_link}
use Rattle.bfs_walk.specs.declared.fault.TreeWrong.{TreeWrong}
use Rattle.bfs_walk.specs.declared.fault.TreeWrong.TheVariants.{Link}
use Rattle.bfs_walk.specs.Wrong.{IsWrongTree}
use Rattle.bfs_tree_check.specs.Marked.{marked}
use Rattle.bfs_tree_check.proofs.Halves.{header_none}
use Rattle.bfs_tree_check.proofs.Marking.{marked_most}
use Rattle.bfs_value_walk.specs.Chained.{IsChaining, IsChained, IsOwn}

-- ---- one page

module _ (kind : KeyKind) (b : List ℕ) (at size : ℕ) (page : List ℕ) (child : IsChild size at) (long : length b ≡ size) (is : page ≡ page_in b at) (there : Has (chain_pages kind b) at) where
  here : IsChild (length b) at
  here = subst (λ n. IsChild n at) (sym long) child

  pub duplicates_wrong : ¬ IsDuplicates page → IsPageFault kind b at parts.Content
  duplicates_wrong other = of_value (no_duplicates there here (λ d. other (subst IsDuplicates (sym is) d))) refl

  pub next_wrong : (wrong : TreeWrong) → (wrong ≡ Link at (right_of page) (wanted_link (right_of page))) × ¬ IsLink size (place_of (right_of page)) → IsWrongTree kind b wrong
  next_wrong wrong w =
      subst (IsWrongTree kind b) (sym w.0)
      (no_page (place_of (right_of page)) (to_next there here (ap right_of is) (λ e. w.1 (inl (ap place_of e))) refl)
      (λ c. w.1 (inr (subst (λ n. IsChild n (place_of (right_of page))) long c))) refl)

-- ---- pages joined

duplicates_more : (b : List ℕ) (xs : List ℕ) (x : ℕ) → AreDuplicates b xs → IsDuplicates (page_in b x) → AreDuplicates b (xs ++ x ∷ [])
duplicates_more b [] x a d = (d, tt)
duplicates_more b (y ∷ ys) x a d = (a.0, duplicates_more b ys x a.1 d)

numbers_more : (b : List ℕ) (xs : List ℕ) (x : ℕ) → numbers_of_pages b (xs ++ x ∷ []) ≡ numbers_of_pages b xs ++ page_numbers (page_in b x)
numbers_more b [] x = append-nil (page_numbers (page_in b x))
numbers_more b (y ∷ ys) x = ap (λ (l : List ℕ). page_numbers (page_in b y) ++ l) (numbers_more b ys x) ∙ sym (append_assoc (page_numbers (page_in b y)) (numbers_of_pages b ys) (page_numbers (page_in b x)))

from_last : (b : List ℕ) (left at : ℕ) → next_of b at ≡ 0 → chain_from b (suc left) at ≡ at ∷ []
from_last b left at e = ap (λ c. at ∷ cond c [] (chain_from b left (next_of b at))) (eq-eqb (next_of b at) 0 e)

from_next : (b : List ℕ) (left at next : ℕ) → next ≡ next_of b at → next ≢ 0 → chain_from b (suc left) at ≡ at ∷ chain_from b left next
from_next b left at next e off =
    ap (λ c. at ∷ cond c [] (chain_from b left (next_of b at))) (ne_eqb (next_of b at) 0 (λ z. off (e ∙ z))) ∙ ap (λ k. at ∷ chain_from b left k) (sym e)

-- ---- the chain as far as it was walked over

pub chain_begins : (b : List ℕ) (first pages : ℕ) (numbers : List ℕ) (seen : ℕ → ℕ) → pages ≡ length b / 1024 → numbers ≡ [] → IsChaining b first [] pages first numbers seen seen
chain_begins b first pages numbers seen e none = record {
  all = ap (λ n. chain_from b n first) (sym e);
  ends = λ n d. (n, d);
  good = tt;
  are = none;
  count = λ x. omega arith;
  long = omega (arith, e);
}

module _ (b : List ℕ) (first : ℕ) (done : List ℕ) (left at : ℕ) (numbers : List ℕ) (before seen : ℕ → ℕ) (h : IsChaining b first done (suc left) at numbers before seen) where
  first_here : (rest : List ℕ) → chain_from b (suc left) at ≡ at ∷ rest → times at done + 1 ≤ times at (chain_of b first)
  first_here rest e =
      let a : times at (chain_of b first) ≡ times at (done ++ (at ∷ rest)) = ap (times at) (h.all ∙ ap (λ l. done ++ l) e) in
      let d = times-append at done (at ∷ rest) in
      let own : 1 ≤ times at (at ∷ rest) = self at rest in
      omega (arith, a, d, own)

  pub more_there : times at done + 1 ≤ times at (chain_of b first)
  more_there = by_next (next_of b at) refl
    where
      by_next : (n : ℕ) → next_of b at ≡ n → times at done + 1 ≤ times at (chain_of b first)
      by_next zero e = first_here [] (from_last b left at e)
      by_next (suc n) e = first_here (chain_from b left (suc n)) (from_next b left at (suc n) (sym e) (λ z. omega (arith, z)))

  -- it is one of the chain
  pub there_now : Has (chain_of b first) at
  there_now = let m = more_there in omega (arith, m)

  -- and one that was met before is met twice
  pub page_twice : (kind : KeyKind) → IsOwn kind b first before → IsChild (length b) at → seen at ≡ 1 → IsLinkFault kind b at (pos at) (negsuc 0)
  page_twice kind own child one =
      met_twice child (own.twice at child.0 (let m = more_there in let c = h.count at in omega (arith, m, c, one))) refl refl

  module _ (good : IsDuplicates (page_in b at)) (more : List ℕ) (now : ℕ → ℕ) (more_are : more ≡ numbers ++ page_numbers (page_in b at)) (now_is : (x : ℕ) → now x ≡ seen x + times x (at ∷ [])) where
    numbers_now : more ≡ numbers_of_pages b (done ++ at ∷ [])
    numbers_now = more_are ∙ ap (λ (l : List ℕ). l ++ page_numbers (page_in b at)) h.are ∙ sym (numbers_more b done at)

    count_now : (x : ℕ) → now x ≡ before x + times x (done ++ at ∷ [])
    count_now x = let n = now_is x in let c = h.count x in let a = times-append x done (at ∷ []) in omega (arith, n, c, a)

    -- it goes on
    pub chain_on : (next : ℕ) → next ≡ next_of b at → next ≢ 0 → IsChild (length b) next → IsChaining b first (done ++ at ∷ []) left next more before now
    chain_on next e off child = record {
      all = h.all ∙ ap (λ l. done ++ l) (from_next b left at next e off) ∙ sym (append_assoc done (at ∷ []) (chain_from b left next));
      ends = λ n d. h.ends (suc n) (subst (IsChild (length b)) e child, subst (EndsAfter b n) e d);
      good = duplicates_more b done at h.good good;
      are = numbers_now;
      count = count_now;
      long = let l = h.long in let n = length-append done (at ∷ []) in omega (arith, l, n);
    }

    -- it ends
    pub chain_ends : next_of b at ≡ 0 → IsChained b first more before now
    chain_ends e =
        let all : chain_of b first ≡ done ++ at ∷ [] = h.all ∙ ap (λ l. done ++ l) (from_last b left at e) in
        record {
          ends = h.ends 0 e;
          good = subst (AreDuplicates b) (sym all) (duplicates_more b done at h.good good);
          are = numbers_now ∙ ap (numbers_of_pages b) (sym all);
          count = λ x. count_now x ∙ ap (λ (l : List ℕ). before x + times x l) (sym all);
        }

-- there are no more pages in it than in the stream
pub chain_within : (b : List ℕ) (first : ℕ) (done : List ℕ) (size at : ℕ) (numbers : List ℕ) (old marks : List Bool) → length b ≡ size → size % 1024 ≡ 0 → marked size old 0 ≡ 1
    → IsChaining b first done 0 at numbers (marked size old) (marked size marks) → ⊥
chain_within b first done size at numbers old marks long whole header h =
    let same : 1024 * (size / 1024) ≡ size = omega (arith, whole) in
    let f = few (size / 1024) (0 ∷ done) (λ x. subst (λ n. times x (0 ∷ done) ≤ held n x) (sym same) (each x)) in
    let l : length done + 0 ≡ size / 1024 = h.long ∙ ap (λ n. n / 1024) long in
    omega (arith, f, l)
  where
    first_marked : (x : ℕ) → times x (0 ∷ []) ≤ marked size old x
    first_marked zero = let h = header in omega (arith, h)
    first_marked (suc x) = let z = header_none (suc x) (omega arith) in omega (arith, z)

    each : (x : ℕ) → times x (0 ∷ done) ≤ held size x
    each x =
        let a = times-append x (0 ∷ []) done in
        let m = first_marked x in
        let c = h.count x in
        let k = marked_most size x marks in
        omega (arith, a, m, c, k)
