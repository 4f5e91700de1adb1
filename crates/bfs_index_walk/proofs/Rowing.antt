-- Rows that name indices, one after the other.
use Rattle.std.proofs.Common.{◌≡◌, ◌≤◌, ◌<◌, ◌+◌, ◌∙◌, ℕ, ℤ, pos, List, [], ◌∷◌, ◌++◌, length, take, drop, get_or, map, Bool, true, false, cond, refl, sym, ap, subst}
use Rattle.std.specs.List.{AllByRecursion}
use Rattle.std.proofs.lemmas.List.{take_more, drop_more, take-append-drop, take_all, map-append}
use Rattle.bfs_base.specs.Keys.{IsTreeKind}
use Rattle.bfs_base.specs.declared.kind.KeyKind.{KeyKind}
use Rattle.bfs_node.specs.Page.{Row}
use Rattle.bfs_super.specs.Conditions.{natural}
use Rattle.bfs_sound.specs.Volumes.{Volume}
use Rattle.bfs_sound.specs.Inodes.{is_proper}
use Rattle.bfs_sound.specs.Listings.{IsIndex, index_rows}
use Rattle.bfs_sound.specs.Owners.{In}
use Rattle.bfs_finding.specs.Ways.{Arrives, to_index}
use Rattle.bfs_tree_check.proofs.Joined.{all_join}
use Rattle.bfs_names_walk.specs.Rows.{as_rows}
use Rattle.bfs_names_walk.specs.declared.row.NameRow.{NameRow}
use Rattle.bfs_node_walk.specs.Listed.{proper, NamesBlock}
use Rattle.bfs_tour.specs.Tours.{AreIndices}
use Rattle.bfs_attrs_walk.proofs.Sharing.{proper_parts, value_is}
use Rattle.bfs_index_walk.specs.Indices.{as_row, kinds_of, AreFound, AreInside}
use Rattle.bfs_index_walk.specs.declared.found.FoundIndex.{FoundIndex}

-- a row that is passed over
passed_over : (rows : List NameRow) (row : NameRow) → is_proper row.name ≡ false → proper (as_rows (rows ++ (row ∷ []))) ≡ proper (as_rows rows)
passed_over [] row e = ap (λ (c : Bool). cond c ((row.name, row.value) ∷ []) []) e
passed_over (x ∷ xs) row e = by_test (is_proper x.name) (passed_over xs row e)
  where
    by_test : (c : Bool) → proper (as_rows (xs ++ (row ∷ []))) ≡ proper (as_rows xs)
        → cond c ((x.name, x.value) ∷ proper (as_rows (xs ++ (row ∷ [])))) (proper (as_rows (xs ++ (row ∷ [])))) ≡ cond c ((x.name, x.value) ∷ proper (as_rows xs)) (proper (as_rows xs))
    by_test true ih = ap (λ (l : List Row). (x.name, x.value) ∷ l) ih
    by_test false ih = ih

-- what holds of all rows holds of the first
front_all : (P : Row → Type 0) (xs ys : List NameRow) → AllByRecursion P (proper (as_rows (xs ++ ys))) → AllByRecursion P (proper (as_rows xs))
front_all P [] ys all = tt
front_all P (x ∷ xs) ys all = by_test (is_proper x.name) (front_all P xs ys) all
  where
    by_test : (c : Bool) → (AllByRecursion P (proper (as_rows (xs ++ ys))) → AllByRecursion P (proper (as_rows xs)))
        → AllByRecursion P (cond c ((x.name, x.value) ∷ proper (as_rows (xs ++ ys))) (proper (as_rows (xs ++ ys)))) → AllByRecursion P (cond c ((x.name, x.value) ∷ proper (as_rows xs)) (proper (as_rows xs)))
    by_test true ih a = (a.0, ih a.1)
    by_test false ih a = ih a

pub first_all : (P : Row → Type 0) (rows : List NameRow) (i : ℕ) → AllByRecursion P (proper (as_rows rows)) → AllByRecursion P (proper (as_rows (take i rows)))
first_all P rows i all = front_all P (take i rows) (drop i rows) (subst (λ (l : List NameRow). AllByRecursion P (proper (as_rows l))) (sym (take-append-drop i rows)) all)

-- the rows before a row, the row and those behind it
pub row_parts : (rows : List NameRow) (i : ℕ) (row : NameRow) → i < length rows → row ≡ get_or rows i row → rows ≡ take i rows ++ (row ∷ drop (i + 1) rows)
row_parts rows i row inside item = sym (take-append-drop i rows) ∙ ap (λ (x : List NameRow). take i rows ++ x) (drop_more rows i row inside ∙ ap (λ (x : NameRow). x ∷ drop (i + 1) rows) (sym item))

-- the number of a row's index
pub number_is : (blocks : ℕ) (row : NameRow) (id : ℕ) → id ≡ natural row.value → NamesBlock blocks (row.name, row.value) → row.value ≡ pos id
number_is blocks row id is n = value_is blocks (row.name, row.value) n ∙ ap pos (sym is)

pub inside_next : (blocks : ℕ) (found now : List FoundIndex) (name : List ℕ) (id : ℕ) (kind : KeyKind) → now ≡ found ++ (record { name = name; id = id; kind = kind }) ∷ [] → id < blocks → IsTreeKind kind → AreInside blocks found → AreInside blocks now
inside_next blocks found now name id kind is below tree all = subst (AreInside blocks) (sym is) (all_join (λ (i : FoundIndex). (i.id < blocks) × IsTreeKind i.kind) found ((record { name = name; id = id; kind = kind }) ∷ []) all ((below, tree), tt))

pub none_inside : (blocks : ℕ) (found : List FoundIndex) → found ≡ [] → AreInside blocks found
none_inside blocks found e = subst (AreInside blocks) (sym e) tt

module _ (v : Volume) where
  pub none_found : (found : List FoundIndex) → found ≡ [] → AreFound v [] found
  none_found found e = subst (AreFound v []) (sym e) (record { are = refl; indices = tt })

  pub found_past : (rows : List NameRow) (row : NameRow) (found : List FoundIndex) → is_proper row.name ≡ false → AreFound v (proper (as_rows rows)) found → AreFound v (proper (as_rows (rows ++ (row ∷ [])))) found
  found_past rows row found e a = subst (λ (l : List Row). AreFound v l found) (sym (passed_over rows row e)) a

  pub found_next : (rows : List NameRow) (row : NameRow) (found now : List FoundIndex) (id : ℕ) (kind : KeyKind) → now ≡ found ++ (record { name = row.name; id = id; kind = kind }) ∷ [] → is_proper row.name ≡ true → row.value ≡ pos id
      → IsIndex v id kind → AreFound v (proper (as_rows rows)) found → AreFound v (proper (as_rows (rows ++ (row ∷ [])))) now
  found_next rows row found now id kind is e number index a = record {
    are =
        ap (map as_row) is ∙ map-append as_row found ((record { name = row.name; id = id; kind = kind }) ∷ []) ∙ ap (λ (l : List Row). l ++ ((row.name, pos id) ∷ [])) a.are
        ∙ ap (λ (z : ℤ). proper (as_rows rows) ++ ((row.name, z) ∷ [])) (sym number) ∙ sym (proper_parts rows row [] e);
    indices = subst (AllByRecursion (λ (i : FoundIndex). IsIndex v i.id i.kind)) (sym is) (all_join (λ (i : FoundIndex). IsIndex v i.id i.kind) found ((record { name = row.name; id = id; kind = kind }) ∷ []) a.indices (index, tt));
  }

  pub found_more : (rows : List NameRow) (i : ℕ) (row : NameRow) (found : List FoundIndex) → i < length rows → row ≡ get_or rows i row → AreFound v (proper (as_rows (take i rows ++ (row ∷ [])))) found → AreFound v (proper (as_rows (take (i + 1) rows))) found
  found_more rows i row found inside item a =
      subst (λ (l : List NameRow). AreFound v (proper (as_rows l)) found) (sym (take_more rows i row inside ∙ ap (λ (x : NameRow). take i rows ++ (x ∷ [])) (sym item))) a

  pub found_all : (rows : List NameRow) (i : ℕ) (found : List FoundIndex) → length rows ≤ i → AreFound v (proper (as_rows (take i rows))) found → AreFound v (proper (as_rows rows)) found
  found_all rows i found past a = subst (λ (l : List NameRow). AreFound v (proper (as_rows l)) found) (take_all i rows past) a

  indices_in : (found : List FoundIndex) → AllByRecursion (λ (i : FoundIndex). IsIndex v i.id i.kind) found → AreIndices v (map as_row found) (kinds_of found)
  indices_in [] a = tt
  indices_in (i ∷ is) a = (refl, refl, a.0, indices_in is a.1)

  -- what was found by rows is what a tour asks of them
  pub kinds_found : (rows : List Row) (found : List FoundIndex) → AreFound v rows found → AreIndices v rows (kinds_of found)
  kinds_found rows found a = subst (λ (l : List Row). AreIndices v l (kinds_of found)) a.are (indices_in found a.indices)

  pub arrives_at : (blocks : ℕ) (row : NameRow) (id : ℕ) → id ≡ natural row.value → NamesBlock blocks (row.name, row.value) → In (row.name, row.value) (index_rows v) → Arrives v (to_index row.name) id
  arrives_at blocks row id is n i = subst (λ (z : ℤ). In (row.name, z) (index_rows v)) (number_is blocks row id is n) i
