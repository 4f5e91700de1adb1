-- The children of an interior page, with its keys between them.
use Rattle.std.proofs.Common.{◌≡◌, ◌≤◌, ◌<◌, ◌+◌, ℕ, ℤ, zero, suc, List, [], ◌∷◌, ◌++◌, length, drop, get_or, map, Option, Some, refl, sym, ap, ap₂, ◌∙◌, arith, append_assoc, append-nil}
use Rattle.std.proofs.lemmas.List.{drop_more, drop_all}
use Rattle.std.specs.List.{AllByRecursion, flat_map}
use Rattle.bfs_base.specs.Lists.{Has}
use Rattle.bfs_base.specs.declared.kind.KeyKind.{KeyKind}
use Rattle.bfs_node.specs.Page.{Row, rows_of, row_in, value_of}
use Rattle.bfs_pages.specs.Answers.{IsChild}
use Rattle.bfs_pages.specs.Shapes.{Body, inner_body, a_bound}
use Rattle.bfs_pages.specs.Trees.{place_of, page_in, children_in}
use Rattle.bfs_finding.specs.Walks.{Met, inners_below, leaves_below, entries_below, between, inners_in}
use Rattle.bfs_walk.specs.Walked.{IsGoodBelow}
use Rattle.bfs_tree_check.specs.Levels.{opened, AreInside, AreThere, bound_in, met_in, leaves_at, inners_at, IsGoodAt}
use Rattle.bfs_tree_check.specs.declared.item.Item.{Item}
use Rattle.bfs_tree_check.specs.declared.item.Item.TheVariants as item

-- a row's child and key are pushed
pub pushed : (items start : List Item) (at i : ℕ) (rows : List Row) (last : ℤ) → i < length rows
    → items ++ opened at i (drop i rows) last ≡ start
    → ((items ++ item.Page (place_of (value_of (row_in rows i))) ∷ []) ++ item.Key at i ∷ []) ++ opened at (i + 1) (drop (i + 1) rows) last ≡ start
pushed items start at i rows last inside before =
    append_assoc (items ++ item.Page (place_of (value_of (row_in rows i))) ∷ []) (item.Key at i ∷ []) (opened at (i + 1) (drop (i + 1) rows) last)
    ∙ append_assoc items (item.Page (place_of (value_of (row_in rows i))) ∷ []) (item.Key at i ∷ opened at (i + 1) (drop (i + 1) rows) last)
    ∙ sym (ap (λ (l : List Row). items ++ opened at i l last) (drop_more rows i (row_in rows i) inside ∙ ap (λ r. r ∷ drop (i + 1) rows) same))
    ∙ before
  where
    same : get_or rows i (row_in rows i) ≡ row_in rows i
    same = by_place rows i
      where
        by_place : (rs : List Row) (j : ℕ) → get_or rs j (row_in rs j) ≡ row_in rs j
        by_place [] j = refl
        by_place (r ∷ rs) zero = refl
        by_place (r ∷ rs) (suc j) = by_place rs j

-- the last child is pushed
pub pushed_last : (items start : List Item) (at i : ℕ) (rows : List Row) (last : ℤ) → length rows ≤ i → items ++ opened at i (drop i rows) last ≡ start → items ++ item.Page (place_of last) ∷ [] ≡ start
pushed_last items start at i rows last behind before = sym (ap (λ (l : List Row). items ++ opened at i l last) (drop_all i rows behind)) ∙ before

module _ (bodies : ℕ → Option Body) (n at : ℕ) (last : ℤ) where
  pub opened_leaves : (i : ℕ) (rows : List Row) → flat_map (leaves_at bodies n) (opened at i rows last) ≡ flat_map (leaves_below bodies n) (map (λ e. e.1) (children_in rows) ++ (place_of last ∷ []))
  opened_leaves i [] = refl
  opened_leaves i (r ∷ rs) = ap (λ l. leaves_below bodies n (place_of r.1) ++ l) (opened_leaves (i + 1) rs)

  pub opened_inners : (i : ℕ) (rows : List Row) → flat_map (inners_at bodies n) (opened at i rows last) ≡ flat_map (inners_below bodies n) (map (λ e. e.1) (children_in rows) ++ (place_of last ∷ []))
  opened_inners i [] = refl
  opened_inners i (r ∷ rs) = ap (λ l. inners_below bodies n (place_of r.1) ++ l) (opened_inners (i + 1) rs)

  pub opened_good : (i : ℕ) (rows : List Row) → AllByRecursion (IsGoodAt bodies n) (opened at i rows last) → AllByRecursion (IsGoodBelow bodies n) (map (λ e. e.1) (children_in rows) ++ (place_of last ∷ []))
  opened_good i [] a = (a.0, tt)
  opened_good i (r ∷ rs) a = (a.0, opened_good (i + 1) rs a.1.1)

  pub opened_met : (i : ℕ) (rows : List Row) → ((j : ℕ) → j < length rows → bound_in (bodies at) (i + j) ≡ (row_in rows j).0)
      → flat_map (met_in bodies n) (opened at i rows last) ≡ between (entries_below bodies n) at i (children_in rows) (place_of last)
  opened_met i [] keys = append-nil (entries_below bodies n (place_of last))
  opened_met i (r ∷ rs) keys =
      let here : bound_in (bodies at) i ≡ r.0 = ap (bound_in (bodies at)) (plus_none i) ∙ keys 0 (omega arith) in
      ap₂ (λ k (l : List Met). entries_below bodies n (place_of r.1) ++ ((at, i, a_bound k) ∷ l)) here
      (opened_met (i + 1) rs (λ j h. ap (bound_in (bodies at)) (plus_one i j) ∙ keys (suc j) (omega (arith, h))))
    where
      plus_none : (i : ℕ) → i ≡ i + 0
      plus_none i = omega arith

      plus_one : (i j : ℕ) → i + 1 + j ≡ i + suc j
      plus_one i j = omega arith

pub key_there : (rows : List Row) (last j : ℕ) → bound_in (Some (inner_body (children_in rows) last)) j ≡ (row_in rows j).0
key_there [] last j = refl
key_there (r ∷ rs) last zero = refl
key_there (r ∷ rs) last (suc j) = key_there rs last j

-- the pages lie in the stream
pub opened_inside : (size at i : ℕ) (rows : List Row) (last : ℤ) → IsChild size at → IsChild size (place_of last) → ((j : ℕ) → j < length rows → IsChild size (place_of (value_of (row_in rows j)))) → AreInside size (opened at i rows last)
opened_inside size at i [] last child end all = (end, tt)
opened_inside size at i (r ∷ rs) last child end all = (all 0 (omega arith), (child, opened_inside size at (i + 1) rs last child end (λ j h. all (suc j) (omega (arith, h)))))

-- the keys stand in the page
pub opened_there : (kind : KeyKind) (bytes : List ℕ) (at i : ℕ) (rows : List Row) (last : ℤ) → Has (inners_in kind bytes) at → i + length rows ≡ length (rows_of (page_in bytes at)) → AreThere kind bytes (opened at i rows last)
opened_there kind bytes at i [] last has e = (tt, tt)
opened_there kind bytes at i (r ∷ rs) last has e = (tt, ((has, omega (arith, e)), opened_there kind bytes at (i + 1) rs last has (omega (arith, e))))
