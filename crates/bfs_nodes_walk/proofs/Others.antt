-- Rows whose names no item has.
use Rattle.std.proofs.Common.{◌≡◌, ◌∙◌, ◌≤◌, ◌<◌, ◌+◌, ℕ, List, [], ◌∷◌, ◌++◌, length, take, get_or, Bool, true, false, cond, refl, sym, ap, subst}
use Rattle.std.specs.List.{AllByRecursion}
use Rattle.std.proofs.lemmas.List.{take_more, take_all}
use Rattle.bfs_node.specs.Page.{Row}
use Rattle.bfs_smalldata.specs.Items.{Item}
use Rattle.bfs_sound.specs.Inodes.{is_proper}
use Rattle.bfs_names_walk.specs.Rows.{as_rows}
use Rattle.bfs_names_walk.specs.declared.row.NameRow.{NameRow}
use Rattle.bfs_node_walk.specs.Listed.{proper}
use Rattle.bfs_nodes_walk.specs.Attributes.{HasItem, AreOthers}

module _ (items : List Item) where
  abbrev IsOther : Row → Type 0
  IsOther r = ¬ HasItem items r.0

  abbrev as_row : NameRow → Row
  as_row r = (r.name, r.value)

  pub one_other : (row : NameRow) → (is_proper row.name ≡ true → ¬ HasItem items row.name) → AreOthers items (row ∷ [])
  one_other row h = by_test (is_proper row.name) h
    where
      by_test : (c : Bool) → (c ≡ true → ¬ HasItem items row.name) → AllByRecursion IsOther (cond c (as_row row ∷ []) [])
      by_test true h = (h refl, tt)
      by_test false h = tt

  more : (xs ys : List NameRow) → AreOthers items xs → AreOthers items ys → AreOthers items (xs ++ ys)
  more [] ys a b = b
  more (x ∷ xs) ys a b = by_test (is_proper x.name) (λ h. more xs ys h b) a
    where
      by_test : (c : Bool) → (AreOthers items xs → AreOthers items (xs ++ ys)) → AllByRecursion IsOther (cond c (as_row x ∷ proper (as_rows xs)) (proper (as_rows xs)))
          → AllByRecursion IsOther (cond c (as_row x ∷ proper (as_rows (xs ++ ys))) (proper (as_rows (xs ++ ys))))
      by_test true ih a = (a.0, ih a.1)
      by_test false ih a = ih a

  pub next_other : (rows : List NameRow) (i : ℕ) (row : NameRow) → i < length rows → row ≡ get_or rows i row → AreOthers items (take i rows) → AreOthers items (row ∷ []) → AreOthers items (take (i + 1) rows)
  next_other rows i row inside item a b =
      let next : take (i + 1) rows ≡ take i rows ++ (row ∷ []) = take_more rows i row inside ∙ ap (λ (x : NameRow). take i rows ++ (x ∷ [])) (sym item) in
      subst (AreOthers items) (sym next) (more (take i rows) (row ∷ []) a b)

  pub all_other : (rows : List NameRow) (i : ℕ) → length rows ≤ i → AreOthers items (take i rows) → AreOthers items rows
  all_other rows i past a = subst (AreOthers items) (take_all i rows past) a
