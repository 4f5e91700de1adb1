-- Chains whose first two pages become one.
use Rattle.std.proofs.Common.{◌≡◌, ◌%◌, ℕ, ℤ, List, [], ◌∷◌, ◌++◌, length, refl, ap, sym, ◌∙◌, subst, arith, append_assoc}
use Rattle.bfs_base.specs.Lists.{times, IsOnce}
use Rattle.bfs_base.specs.declared.kind.KeyKind.{KeyKind}
use Rattle.bfs_node.specs.Page.{Row}
use Rattle.bfs_pages.specs.Answers.{IsLink}
use Rattle.bfs_pages.specs.Order.{Key}
use Rattle.bfs_pages.specs.Shapes.{Shape}
use Rattle.bfs_pages.specs.Trees.{page_in}
use Rattle.bfs_pages.proofs.Splice.{times-append}
use Rattle.bfs_values.specs.declared.link.Link.TheVariants.{Chain}
use Rattle.bfs_values.specs.Links.{link_in}
use Rattle.bfs_values.specs.Values.{IsDuplicates, page_numbers, next_of, chain_of, numbers_of_pages, AreDuplicates, in_order, placed, HasNumbers, numbers_in, values_in}
use Rattle.bfs_values.specs.Chained.{Chained}
use Rattle.bfs_values.specs.Stored.{Stored, SameNumbers, IsRevalued}
use Rattle.bfs_dups.proofs.Ordered.{with-order, order-times}
use Rattle.bfs_dups_remove.proofs.Lesser.{IsSecond, chain-there, link-on}
use Rattle.bfs_dups_remove.proofs.Passed.{good-at}
use Rattle.bfs_dups_remove.proofs.Without.{order-inner}

order-move : (xs ps bs : List ℕ) → in_order (xs ++ (ps ++ bs)) ≡ in_order (ps ++ (xs ++ bs))
order-move [] ps bs = refl
order-move (x ∷ xs) ps bs = ap (placed x) (order-move xs ps bs) ∙ sym (with-order x (ps ++ (xs ++ bs)) (ps ++ (x ∷ (xs ++ bs))) (ps, xs ++ bs, refl, refl))

same-none : (b : List ℕ) (rows : List Row) → SameNumbers b b rows
same-none b [] = tt
same-none b (r ∷ rs) = (refl, same-none b rs)

-- nothing has changed
pub unchanged-row : (kind : KeyKind) (b : List ℕ) (t : Shape) (front : List Row) (key : Key) (back : List Row) (value : ℤ) → Stored kind b t (front ++ ((key, value) ∷ back)) → IsRevalued kind b b t front key back value (values_in b value)
unchanged-row kind b t front key back value s = record { stored = s; means = refl; others = same-none b (front ++ back) }

-- the first page of a chain
pub record IsFirst (b : List ℕ) (p : ℕ) : Type 0 where
  pub back : List ℕ
  pub parts : chain_of b p ≡ p ∷ back
  pub good : IsDuplicates (page_in b p)
  pub link : IsLink (length b) (next_of b p)

pub the-first : (b : List ℕ) (p : ℕ) → length b % 1024 ≡ 0 → HasNumbers b (Chain p) → IsFirst b p
the-first b p w h = by_chain (chain_of b p) (chain-there b p w h) refl
  where
    by_chain : (xs : List ℕ) → Chained b p xs → chain_of b p ≡ xs → IsFirst b p
    by_chain [] c is = absurd (omega (arith, c, h.0.0))
    by_chain (x ∷ xs) c is =
        let parts : chain_of b p ≡ p ∷ xs = is ∙ ap (λ z. z ∷ xs) (sym c.0) in record {
          back = xs;
          parts = parts;
          good = good-at b [] p xs (subst (λ z. AreDuplicates b z) parts h.2);
          link = link-on b (next_of b p) xs (subst (λ z. Chained b (next_of b z) xs) (sym c.0) c.2);
        }

-- no number is twice in the first two pages
pub two-once : (b : List ℕ) (p next : ℕ) (n : IsSecond b p p next) → HasNumbers b (Chain p) → IsOnce (page_numbers (page_in b next) ++ page_numbers (page_in b p))
two-once b p next n h k =
    let f : List ℕ = page_numbers (page_in b p) in
    let m : List ℕ = page_numbers (page_in b next) in
    let r : List ℕ = numbers_of_pages b n.back in
    let e : times k (numbers_of_pages b (chain_of b p)) ≡ times k (f ++ (m ++ r)) = ap (λ z. times k (numbers_of_pages b z)) n.parts in
    omega (arith, h.3 k, e, times-append k f (m ++ r), times-append k m r, times-append k m f)

-- nor in those of both pages with the pages behind them
pub folded-once : (b : List ℕ) (p next : ℕ) (n : IsSecond b p p next) (ns : List ℕ) → HasNumbers b (Chain p) → ns ≡ in_order (page_numbers (page_in b next) ++ page_numbers (page_in b p)) → IsOnce (ns ++ numbers_of_pages b n.back)
folded-once b p next n ns h is k =
    let f : List ℕ = page_numbers (page_in b p) in
    let m : List ℕ = page_numbers (page_in b next) in
    let r : List ℕ = numbers_of_pages b n.back in
    let e : times k (numbers_of_pages b (chain_of b p)) ≡ times k (f ++ (m ++ r)) = ap (λ z. times k (numbers_of_pages b z)) n.parts in
    let a : times k ns ≡ times k (m ++ f) = ap (times k) is ∙ order-times k (m ++ f) in
    omega (arith, h.3 k, e, a, times-append k f (m ++ r), times-append k m r, times-append k m f, times-append k ns r)

-- they mean what they meant
pub folded-means : (b : List ℕ) (p next : ℕ) (value : ℤ) (n : IsSecond b p p next) (ns : List ℕ) → link_in value ≡ Chain p → ns ≡ in_order (page_numbers (page_in b next) ++ page_numbers (page_in b p)) → in_order (ns ++ numbers_of_pages b n.back) ≡ values_in b value
folded-means b p next value n ns link is =
    let f : List ℕ = page_numbers (page_in b p) in
    let m : List ℕ = page_numbers (page_in b next) in
    let r : List ℕ = numbers_of_pages b n.back in
    ap (λ z. in_order (z ++ r)) is ∙ order-inner (m ++ f) r ∙ ap in_order (append_assoc m f r) ∙ order-move m f r
    ∙ ap (λ z. in_order (numbers_of_pages b z)) (sym n.parts) ∙ ap (numbers_in b) (sym link)
