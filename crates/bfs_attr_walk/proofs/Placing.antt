-- The inodes that rows name, in their places.
use Rattle.std.proofs.Common.{◌≡◌, ◌<◌, ◌∙◌, ℕ, List, [], ◌∷◌, ◌++◌, map, Bool, true, false, cond, refl, sym, ap, subst}
use Rattle.std.specs.List.{AllByRecursion}
use Rattle.bfs_node.specs.Page.{Row}
use Rattle.bfs_super.specs.Conditions.{natural}
use Rattle.bfs_sound.specs.Inodes.{id_of, is_proper}
use Rattle.bfs_node_check.specs.declared.role.Role.{Role}
use Rattle.bfs_owner.specs.Owned.{AreInside}
use Rattle.bfs_owner.specs.declared.place.Place.{Place}
use Rattle.bfs_names_walk.specs.Rows.{as_rows}
use Rattle.bfs_names_walk.specs.declared.row.NameRow.{NameRow}
use Rattle.bfs_node_walk.specs.Listed.{proper, NamesBlock}
use Rattle.bfs_attr_walk.specs.Attributed.{places_of_rows}

module _ (role : Role) where
  abbrev pub placed : Row → Place
  placed r = record { id = id_of r; role = role }

  pub places_more : (xs ys : List NameRow) → places_of_rows role (xs ++ ys) ≡ places_of_rows role xs ++ places_of_rows role ys
  places_more [] ys = refl
  places_more (x ∷ xs) ys = by_test (is_proper x.name) (places_more xs ys)
    where
      by_test : (c : Bool) → places_of_rows role (xs ++ ys) ≡ places_of_rows role xs ++ places_of_rows role ys
          → map placed (cond c ((x.name, x.value) ∷ proper (as_rows (xs ++ ys))) (proper (as_rows (xs ++ ys)))) ≡ map placed (cond c ((x.name, x.value) ∷ proper (as_rows xs)) (proper (as_rows xs))) ++ places_of_rows role ys
      by_test true ih = ap (λ (l : List Place). placed (x.name, x.value) ∷ l) ih
      by_test false ih = ih

  pub one_place : (row : NameRow) (id : ℕ) → is_proper row.name ≡ true → id ≡ natural row.value → places_of_rows role (row ∷ []) ≡ (record { id = id; role = role }) ∷ []
  one_place row id p is = ap (λ (c : Bool). map placed (cond c ((row.name, row.value) ∷ []) [])) p ∙ ap (λ (n : ℕ). record { id = n; role = role } ∷ []) (sym is)

  pub no_place : (row : NameRow) → is_proper row.name ≡ false → places_of_rows role (row ∷ []) ≡ []
  no_place row p = ap (λ (c : Bool). map placed (cond c ((row.name, row.value) ∷ []) [])) p

  rows_inside : (blocks : ℕ) (rs : List Row) → AllByRecursion (NamesBlock blocks) rs → AreInside blocks (map placed rs)
  rows_inside blocks [] all = tt
  rows_inside blocks (r ∷ rs) all = (subst (λ (k : ℕ). k < blocks) (sym (ap natural all.0.1)) all.0.2, rows_inside blocks rs all.1)

  behind : (blocks : ℕ) (xs ys : List Place) → AreInside blocks xs → AreInside blocks ys → AreInside blocks (xs ++ ys)
  behind blocks [] ys a b = b
  behind blocks (x ∷ xs) ys a b = (a.0, behind blocks xs ys a.1 b)

  -- places behind others are inside, where the rows name blocks
  pub places_inside : (blocks : ℕ) (before : List Place) (rows : List NameRow) → AreInside blocks before → AllByRecursion (NamesBlock blocks) (proper (as_rows rows)) → AreInside blocks (before ++ places_of_rows role rows)
  places_inside blocks before rows a all = behind blocks before (places_of_rows role rows) a (rows_inside blocks (proper (as_rows rows)) all)
