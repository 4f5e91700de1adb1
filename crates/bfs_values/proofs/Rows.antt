-- The rows of a stream's bytes are those of any shape that stands there.
use Rattle.std.proofs.Common.{◌≡◌, ℕ, zero, suc, List, [], ◌∷◌, ◌++◌, Option, sym, ap, ap₂, ◌∙◌, subst, map, append-nil}
use Rattle.std.specs.List.{flat_map}
use Rattle.bfs_base.specs.declared.kind.KeyKind.{KeyKind}
use Rattle.bfs_pages.specs.Shapes.{Body, Shape, Shapes, leaf_shape, node_shape, last_shape, more_shapes, place, tree_rows, trees_rows, children_of, last_child, IsDeep, AreDeep, Stands, StandAll}
use Rattle.bfs_pages.specs.Trees.{State, state_of, IsTree}
use Rattle.bfs_values.specs.Rows.{rows_at, children_at, rows_below, rows_in}

mutual
  rows_are : (bodies : ℕ → Option Body) (n : ℕ) (t : Shape) → Stands bodies t → IsDeep n t → rows_below bodies n (place t) ≡ tree_rows t
  rows_are bodies n (leaf_shape at rows) stands deep = subst (λ m. rows_below bodies m at ≡ rows) (sym deep) (ap rows_at stands)
  rows_are bodies zero (node_shape at below) stands deep = absurd deep
  rows_are bodies (suc n) (node_shape at below) stands deep =
      ap (λ o. flat_map (rows_below bodies n) (children_at o)) stands.0 ∙ all_are bodies n below stands.1 deep

  all_are : (bodies : ℕ → Option Body) (n : ℕ) (ts : Shapes) → StandAll bodies ts → AreDeep n ts
      → flat_map (rows_below bodies n) (map (λ e. e.1) (children_of ts) ++ (last_child ts ∷ [])) ≡ trees_rows ts
  all_are bodies n (last_shape t) stands deep = append-nil (rows_below bodies n (place t)) ∙ rows_are bodies n t stands deep
  all_are bodies n (more_shapes t key ts) stands deep = ap₂ (λ a b. a ++ b) (rows_are bodies n t stands.0 deep.0) (all_are bodies n ts stands.1 deep.1)

pub rows_those : (kind : KeyKind) (bytes reached : List ℕ) (t : Shape) (fs : List ℕ) → IsTree kind bytes reached t fs → tree_rows t ≡ rows_in kind bytes
unfolding rows_in
rows_those kind bytes reached t fs tree =
    let st : State = state_of kind bytes in
    sym (rows_are st.bodies st.levels t tree.holds.built.stands tree.holds.built.deep) ∙ ap (λ at. rows_below st.bodies st.levels at) tree.holds.built.root
