-- The keys of a whole tree are of its kind.
use Rattle.std.proofs.Common.{◌≡◌, ◌<◌, ◌⊎◌, inl, inr, ⊎_elim, ℕ, suc, List, [], ◌∷◌, ◌++◌, length, map, Option, Some, refl, sym, ap, subst, arith}
use Rattle.std.specs.List.{flat_map}
use Rattle.bfs_base.specs.Keys.{IsTreeKind}
use Rattle.bfs_base.specs.declared.kind.KeyKind.{KeyKind}
use Rattle.bfs_node.specs.Page.{Row, IsKeyLength, row_in, rows_of}
use Rattle.bfs_node.specs.Search.{IsSought}
use Rattle.bfs_pages.specs.Shapes.{Body, leaf_body, Shape, Shapes, leaf_shape, node_shape, last_shape, more_shapes, tree_rows, trees_rows, Stands, StandAll}
use Rattle.bfs_pages.specs.Trees.{body_in, page_in}
use Rattle.bfs_pages.proofs.Good.{page-true}
use Rattle.bfs_pages.proofs.OfKind.{leaf-fields}
use Rattle.bfs_values.specs.Reached.{IsWholeTree, pairs_of}
use Rattle.bfs_values.specs.Rows.{rows_in}
use Rattle.bfs_values.specs.Values.{values_in}
use Rattle.bfs_values.proofs.Rows.{rows_those}
use Rattle.bfs_sound.specs.Owners.{In}
use Rattle.bfs_tree_check.proofs.Rising.{sought_of}

place_in : (rows : List Row) (r : Row) → In r rows → (j : ℕ) × (j < length rows) × (row_in rows j ≡ r)
place_in [] r h = absurd h
place_in (x ∷ xs) r (inl e) = (0, omega arith, sym e)
place_in (x ∷ xs) r (inr h) = let p = place_in xs r h in let low = p.1 in (suc p.0, omega (arith, low), p.2)

in_parts : (xs ys : List Row) (r : Row) → In r (xs ++ ys) → In r xs ⊎ In r ys
in_parts [] ys r h = inr h
in_parts (x ∷ xs) ys r (inl e) = inl (inl e)
in_parts (x ∷ xs) ys r (inr h) = ⊎_elim (λ i. inl (inr i)) (λ i. inr i) (in_parts xs ys r h)

module _ (kind : KeyKind) (bytes : List ℕ) where
  abbrev bodies : ℕ → Option Body
  bodies x = body_in kind (page_in bytes x)

  leaf_keys : (at : ℕ) (rows : List Row) → bodies at ≡ Some (leaf_body rows) → (r : Row) → In r rows → IsKeyLength kind (length r.0)
  leaf_keys at rows is r h =
      let f = leaf-fields kind (page_in bytes at) rows is in
      let there : In r (rows_of (page_in bytes at)) = subst (In r) (sym f.1) h in
      let p = place_in (rows_of (page_in bytes at)) r there in
      subst (λ (x : Row). IsKeyLength kind (length x.0)) p.2 ((page-true kind (page_in bytes at) f.0).keys p.0 p.1)

  mutual
    shape_keys : (t : Shape) → Stands bodies t → (r : Row) → In r (tree_rows t) → IsKeyLength kind (length r.0)
    shape_keys (leaf_shape at rows) stands r h = leaf_keys at rows stands r h
    shape_keys (node_shape at below) stands r h = shapes_keys below stands.1 r h

    shapes_keys : (ts : Shapes) → StandAll bodies ts → (r : Row) → In r (trees_rows ts) → IsKeyLength kind (length r.0)
    shapes_keys (last_shape t) stands r h = shape_keys t stands r h
    shapes_keys (more_shapes t key ts) stands r h = ⊎_elim (λ i. shape_keys t stands.0 r i) (λ i. shapes_keys ts stands.1 r i) (in_parts (tree_rows t) (trees_rows ts) r h)

  row_keys : IsWholeTree kind bytes → (r : Row) → In r (rows_in kind bytes) → IsKeyLength kind (length r.0)
  row_keys w r h = shape_keys w.shape w.tree.holds.built.stands r (subst (In r) (sym (rows_those kind bytes w.reached w.shape w.free w.tree)) h)

abbrev Pair : Type 0
Pair = List ℕ × ℕ

pair_parts : (xs ys : List Pair) (p : Pair) → In p (xs ++ ys) → In p xs ⊎ In p ys
pair_parts [] ys p h = inr h
pair_parts (x ∷ xs) ys p (inl e) = inl (inl e)
pair_parts (x ∷ xs) ys p (inr h) = ⊎_elim (λ i. inl (inr i)) (λ i. inr i) (pair_parts xs ys p h)

of_row : (key : List ℕ) (ns : List ℕ) (p : Pair) → In p (map {B = Pair} (λ n. (key, n)) ns) → p.0 ≡ key
of_row key [] p h = absurd h
of_row key (n ∷ ns) p (inl e) = ap (λ (q : Pair). q.0) e
of_row key (n ∷ ns) p (inr h) = of_row key ns p h

pair_row : (bytes : List ℕ) (rows : List Row) (p : Pair) → In p (flat_map (pairs_of bytes) rows) → (r : Row) × In r rows × (p.0 ≡ r.0)
pair_row bytes [] p h = absurd h
pair_row bytes (r ∷ rs) p h =
    ⊎_elim (λ i. (r, inl refl, of_row r.0 (values_in bytes r.1) p i)) (λ i. let found = pair_row bytes rs p i in (found.0, inr found.1, found.2)) (pair_parts (pairs_of bytes r) (flat_map (pairs_of bytes) rs) p h)

-- each pair of a whole tree has a key that can be looked for
pub pairs_sought : (kind : KeyKind) (bytes : List ℕ) → IsTreeKind kind → IsWholeTree kind bytes → (p : Pair) → In p (flat_map (pairs_of bytes) (rows_in kind bytes)) → IsSought kind p.0
pairs_sought kind bytes tree w p h =
    let f = pair_row bytes (rows_in kind bytes) p h in
    subst (IsSought kind) (sym f.2) (sought_of kind f.0.0 tree (row_keys kind bytes w f.0 f.1))
