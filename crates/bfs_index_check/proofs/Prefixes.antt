-- How far the pairs that are wanted were met.
use Rattle.std.proofs.Common.{◌≡◌, ◌≤◌, ◌<◌, ◌+◌, ◌-◌, ◌∙◌, ℕ, zero, suc, List, [], ◌∷◌, ◌++◌, length, length-drop, take, drop, get_or, map, refl, sym, ap, subst, arith, append-nil, append_assoc}
use Rattle.std.proofs.lemmas.List.{take_more, drop_more, take-append-drop, take_all}
use Rattle.std.specs.List.{flat_map}
use Rattle.bfs_range.specs.declared.ranged.RangedRow.{RangedRow}
use Rattle.bfs_index_check.specs.Compared.{Pair, row_pairs, AreMet, IsNext}

module _ {A : Type 0} (xs : List A) (i : ℕ) (x : A) (inside : i < length xs) (item : x ≡ get_or xs i x) where
  pub parts : xs ≡ take i xs ++ (x ∷ drop (i + 1) xs)
  parts = sym (take-append-drop i xs) ∙ ap (λ (ys : List A). take i xs ++ ys) (drop_more xs i x inside ∙ ap (λ (y : A). y ∷ drop (i + 1) xs) (sym item))

  pub next : take (i + 1) xs ≡ take i xs ++ (x ∷ [])
  next = take_more xs i x inside ∙ ap (λ (y : A). take i xs ++ (y ∷ [])) (sym item)

-- what was met, with what is wanted still, is all that is wanted
pub met_with_rest : (wanted : List Pair) (n : ℕ) (met : List Pair) → AreMet wanted n met → met ++ drop n wanted ≡ wanted
met_with_rest wanted n met are = ap (λ (ys : List Pair). ys ++ drop n wanted) (sym are.are) ∙ take-append-drop n wanted

-- the pair that is wanted next was met
pub met_next : (wanted : List Pair) (n : ℕ) (met : List Pair) (x : Pair) → AreMet wanted n met → IsNext (drop n wanted) x → AreMet wanted (n + 1) (met ++ (x ∷ []))
met_next wanted n met x are now =
    let long : length wanted - n ≡ 1 + length now.0 = sym (length-drop n wanted) ∙ ap length now.1 ∙ one_more x now.0 in
    let inside : n < length wanted = omega (arith, long) in
    let more : get_or wanted n x ∷ drop (n + 1) wanted ≡ x ∷ now.0 = sym (drop_more wanted n x inside) ∙ now.1 in
    let same : get_or wanted n x ≡ x = ap (λ (ys : List Pair). get_or ys 0 x) more in record {
      few = omega (arith, inside);
      are = take_more wanted n x inside ∙ ap (λ (y : Pair). take n wanted ++ (y ∷ [])) same ∙ ap (λ (ys : List Pair). ys ++ (x ∷ [])) are.are;
    }
  where
    one_more : (x : Pair) (ys : List Pair) → length (x ∷ ys) ≡ 1 + length ys
    one_more x ys = omega arith

-- all that is wanted was met
pub met_all : (wanted met : List Pair) (n : ℕ) → AreMet wanted n met → length wanted ≤ n → wanted ≡ met
met_all wanted met n are past = sym (take_all n wanted past) ∙ are.are

abbrev pub keyed : List ℕ → ℕ → Pair
keyed key n = (key, n)

mapped : (f : ℕ → Pair) (xs ys : List ℕ) → map f (xs ++ ys) ≡ map f xs ++ map f ys
mapped f [] ys = refl
mapped f (x ∷ xs) ys = ap (λ (ps : List Pair). f x ∷ ps) (mapped f xs ys)

spread : (rows more : List RangedRow) → flat_map row_pairs (rows ++ more) ≡ flat_map row_pairs rows ++ flat_map row_pairs more
spread [] more = refl
spread (r ∷ rs) more = ap (λ (ps : List Pair). row_pairs r ++ ps) (spread rs more) ∙ sym (append_assoc (row_pairs r) (flat_map row_pairs rs) (flat_map row_pairs more))

module _ (key : List ℕ) (ns : List ℕ) (i : ℕ) (x : ℕ) (inside : i < length ns) (item : x ≡ get_or ns i x) where
  pub numbers_met : (wanted : List Pair) (at : ℕ) (met : List Pair) → AreMet wanted at (met ++ map (keyed key) (take i ns)) → IsNext (drop at wanted) (key, x) → AreMet wanted (at + 1) (met ++ map (keyed key) (take (i + 1) ns))
  numbers_met wanted at met are now =
      let more : map (keyed key) (take (i + 1) ns) ≡ map (keyed key) (take i ns) ++ (keyed key x ∷ []) = ap (map (keyed key)) (next ns i x inside item) ∙ mapped (keyed key) (take i ns) (x ∷ []) in
      subst (AreMet wanted (at + 1)) (append_assoc met (map (keyed key) (take i ns)) (keyed key x ∷ []) ∙ ap (λ (ps : List Pair). met ++ ps) (sym more)) (met_next wanted at (met ++ map (keyed key) (take i ns)) (key, x) are now)

  -- a row's pairs with more behind them, from one of its numbers on
  pub row_from : (met more : List Pair) → met ++ (map (keyed key) ns ++ more) ≡ (met ++ map (keyed key) (take i ns)) ++ (keyed key x ∷ (map (keyed key) (drop (i + 1) ns) ++ more))
  row_from met more =
      ap (λ (ps : List Pair). met ++ ps)
      (ap (λ (ps : List Pair). ps ++ more) (ap (map (keyed key)) (parts ns i x inside item) ∙ mapped (keyed key) (take i ns) (x ∷ drop (i + 1) ns)) ∙ append_assoc (map (keyed key) (take i ns)) (keyed key x ∷ map (keyed key) (drop (i + 1) ns)) more)
      ∙ sym (append_assoc met (map (keyed key) (take i ns)) (keyed key x ∷ (map (keyed key) (drop (i + 1) ns) ++ more)))

module _ (rows : List RangedRow) (i : ℕ) (r : RangedRow) (inside : i < length rows) (item : r ≡ get_or rows i r) where
  pub rows_met : (wanted : List Pair) (to : ℕ) → AreMet wanted to (flat_map row_pairs (take i rows) ++ row_pairs r) → AreMet wanted to (flat_map row_pairs (take (i + 1) rows))
  rows_met wanted to are =
      subst (AreMet wanted to)
      (ap (λ (ps : List Pair). flat_map row_pairs (take i rows) ++ ps) (sym (append-nil (row_pairs r))) ∙ sym (spread (take i rows) (r ∷ [])) ∙ ap (flat_map row_pairs) (sym (next rows i r inside item))) are

  pub rows_from : flat_map row_pairs rows ≡ flat_map row_pairs (take i rows) ++ (row_pairs r ++ flat_map row_pairs (drop (i + 1) rows))
  rows_from = ap (flat_map row_pairs) (parts rows i r inside item) ∙ spread (take i rows) (r ∷ drop (i + 1) rows)

pub number_item : (ns : List ℕ) (i : ℕ) → i < length ns → get_or ns i 0 ≡ get_or ns i (get_or ns i 0)
number_item [] i h = absurd (omega (arith, h))
number_item (x ∷ xs) zero h = refl
number_item (x ∷ xs) (suc i) h = number_item xs i (omega (arith, h))
