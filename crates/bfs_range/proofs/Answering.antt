-- Rows of an answer, one after the other, and values that lead to pages.
use Rattle.std.proofs.Common.{◌≡◌, ◌≤◌, ◌<◌, ◌+◌, ◌-◌, ◌==◌, ℕ, ℤ, zero, suc, List, [], ◌∷◌, ◌++◌, length, take, drop, Option, Some, IfSome, Bool, true, false, refl, ap, sym, ◌∙◌, subst, arith}
use Rattle.bfs_base.specs.declared.kind.KeyKind.{KeyKind}
use Rattle.bfs_node.specs.Page.{Row, rows_of, row_in, value_of, key_of}
use Rattle.bfs_txn.specs.Pages.{HasLength}
use Rattle.bfs_pages.specs.Answers.{IsLeafPage}
use Rattle.bfs_pages.specs.Trees.{page_in}
use Rattle.bfs_pages.proofs.OfKind.{if_some}
use Rattle.bfs_values.specs.declared.link.Link.{Link}
use Rattle.bfs_values.specs.declared.link.Link.TheVariants.{Number, Fragment, Chain, Nothing}
use Rattle.bfs_values.specs.Kinds.{IsValueOf, IsNamed}
use Rattle.bfs_values.specs.Links.{link_in}
use Rattle.bfs_values.specs.Values.{HasNumbers, IsReadable, values_in}
use Rattle.bfs_range.specs.declared.ranged.RangedRow.{RangedRow}
use Rattle.bfs_range.specs.Answers.{IsRead, IsAnswerOf, AreAnswers}
use Rattle.bfs_values.specs.Reached.{AllMean}
use Rattle.bfs_range.specs.Meant.{AreNamed}
use Rattle.bfs_range.proofs.Rest.{rest-first, mean-first}

-- a row of the leaf that was read, with the numbers of its value
pub answer-here : (kind : KeyKind) (b page : List ℕ) (leaf i : ℕ) (value : ℤ) (key numbers : List ℕ) → IsRead kind b leaf page → i < length (rows_of page) → value ≡ value_of (row_in (rows_of page) i)
    → IsReadable b (link_in value) × (numbers ≡ values_in b value) → key ≡ key_of (row_in (rows_of page) i) → IsAnswerOf kind b (record { key = key; numbers = numbers })
answer-here kind b page leaf i value key numbers read inside v sure k =
    let leaf_page = subst (λ (z : List ℕ). IsLeafPage kind (length b) z) read.0 read.1 in
    let there = subst (λ (z : List ℕ). i < length (rows_of z)) read.0 inside in
    let can = subst (λ (z : ℤ). IsReadable b (link_in z)) v sure.0 in
    let means = sure.1 ∙ ap (λ (z : ℤ). values_in b z) v in (
      row_in (rows_of page) i,
      (leaf, leaf_page, (i, there, ap (λ (z : List ℕ). row_in (rows_of z) i) read.0), can),
      λ j. record { key = k j; numbers = means j },
    )

-- one more answer
pub answers-more : (kind : KeyKind) (b : List ℕ) (old : List RangedRow) (x : RangedRow) → AreAnswers kind b old → IsAnswerOf kind b x → AreAnswers kind b (old ++ (x ∷ []))
answers-more kind b [] x a i = (i, tt)
answers-more kind b (y ∷ ys) x a i = (a.0, answers-more kind b ys x a.1 i)

-- what means numbers is a plain number or leads to a page
pub named-numbers : (b : List ℕ) (l : Link) → HasNumbers b l → IsNamed (length b) l
named-numbers b (Number n) h = tt
named-numbers b (Fragment page i) h = h.0
named-numbers b (Chain page) h = h.0
named-numbers b Nothing h = h

-- what holds of a place and of those behind it holds from it on
from-place : (P : ℕ → Type 0) (at to : ℕ) → P at → ((i : ℕ) → at + 1 ≤ i → i < to → P i) → (i : ℕ) → at ≤ i → i < to → P i
from-place P at to here more i f t = by_test (i == at) refl
  where
    eq_yes : (a b : ℕ) → (a == b) ≡ true → a ≡ b
    eq_yes a b e = grind (arith, e)

    by_test : (c : Bool) → (i == at) ≡ c → P i
    by_test true e = subst P (sym (eq_yes i at e)) here
    by_test false e = more i (grind (arith, e, f)) t

-- the same up to a place
pub upto-place : (P : ℕ → Type 0) (at to : ℕ) → ((i : ℕ) → at ≤ i → i < to → P i) → P to → (i : ℕ) → at ≤ i → i < to + 1 → P i
upto-place P at to before here i f t = by_test (i == to) refl
  where
    eq_yes : (a b : ℕ) → (a == b) ≡ true → a ≡ b
    eq_yes a b e = grind (arith, e)

    by_test : (c : Bool) → (i == to) ≡ c → P i
    by_test true e = subst P (sym (eq_yes i to e)) here
    by_test false e = before i f (grind (arith, e, t))

-- rows whose values mean numbers lead to pages of the stream
pub named-rows : (b : List ℕ) (rows : List Row) (from to : ℕ) → to ≤ length rows → AllMean b (take (to - from) (drop from rows)) → AreNamed (length b) rows from to
named-rows b rows from to l a = by_count (to - from) from refl a
  where
    by_count : (n at : ℕ) → n ≡ to - at → AllMean b (take (to - at) (drop at rows)) → (i : ℕ) → at ≤ i → i < to → IsNamed (length b) (link_in (value_of (row_in rows i)))
    by_count zero at e m = λ i f t. absurd (omega (arith, e, f, t))
    by_count (suc n) at e m =
        let first = mean-first b _ (row_in rows at) _ (rest-first rows at to (omega (arith, e)) l) m in
        from-place (λ (i : ℕ). IsNamed (length b) (link_in (value_of (row_in rows i)))) at to (named-numbers b (link_in (value_of (row_in rows at))) first.0) (by_count n (at + 1) (omega (arith, e)) first.1)

-- and so do those of a leaf whose values all do
pub named-leaf : (kind : KeyKind) (b page : List ℕ) (leaf from to : ℕ) → IsRead kind b leaf page → to ≤ length (rows_of page) → ((value : ℤ) → IsValueOf kind b leaf value → IsNamed (length b) (link_in value)) → AreNamed (length b) (rows_of page) from to
named-leaf kind b page leaf from to read l all =
    λ i f t.
    let there : i < length (rows_of page) = omega (arith, l, t) in
    all (value_of (row_in (rows_of page) i))
    (subst (λ (z : List ℕ). IsLeafPage kind (length b) z) read.0 read.1, (i, subst (λ (z : List ℕ). i < length (rows_of z)) read.0 there, ap (λ (z : List ℕ). value_of (row_in (rows_of z) i)) read.0))

-- the page in hand is the leaf that is told
pub is-read : (kind : KeyKind) (told : Option (List ℕ)) (size at : ℕ) (page b : List ℕ) → HasLength told size → IfSome told (λ b. page ≡ page_in b at) → IsLeafPage kind size page → told ≡ Some b → IsRead kind b at page
is-read kind told size at page b n r f e =
    (if_some (λ (b : List ℕ). page ≡ page_in b at) told b r e, subst (λ (m : ℕ). IsLeafPage kind m page) (sym (if_some (λ (b : List ℕ). length b ≡ size) told b n e)) f)
