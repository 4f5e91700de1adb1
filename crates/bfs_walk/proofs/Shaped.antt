-- The shape of a tree over which a walk has gone.
use Rattle.std.proofs.Common.{◌≡◌, ◌+◌, ℕ, zero, suc, List, [], ◌∷◌, ◌++◌, length, Option, Some, map, refl, sym, ap, ap₂, ◌∙◌, subst}
use Rattle.std.specs.List.{AllByRecursion}
use Rattle.bfs_base.specs.Lists.{times}
use Rattle.bfs_base.specs.declared.kind.KeyKind.{KeyKind}
use Rattle.bfs_pages.specs.Order.{Key}
use Rattle.bfs_pages.specs.Shapes.{Body, inner_body, Shape, Shapes, leaf_shape, node_shape, last_shape, more_shapes, place, children_of, last_child, IsDeep, AreDeep, Stands, StandAll, AscendAll}
use Rattle.bfs_pages.specs.Trees.{State, state_of, held, Linked}
use Rattle.bfs_values.specs.Reached.{IsWholeTree}
use Rattle.bfs_finding.specs.Walks.{inners_below, leaves_below, entries_below}
use Rattle.bfs_finding.proofs.Walking.{split_are, leaves_are, entries_are, entries_only}
use Rattle.bfs_walk.specs.Walked.{IsGoodBelow, IsWalked}

-- the tree below a page
record ShapeAt (bodies : ℕ → Option Body) (n at : ℕ) : Type 0 where
  pub shape : Shape
  pub here : place shape ≡ at
  pub stands : Stands bodies shape
  pub deep : IsDeep n shape

record ShapesAt (bodies : ℕ → Option Body) (n : ℕ) (keys : List (Key × ℕ)) (last : ℕ) : Type 0 where
  pub shapes : Shapes
  pub keys_are : children_of shapes ≡ keys
  pub last_is : last_child shapes ≡ last
  pub stand : StandAll bodies shapes
  pub deep : AreDeep n shapes

shapes_from : (bodies : ℕ → Option Body) (n : ℕ) → ((at : ℕ) → IsGoodBelow bodies n at → ShapeAt bodies n at) → (keys : List (Key × ℕ)) (last : ℕ) → AllByRecursion (IsGoodBelow bodies n) (map (λ e. e.1) keys ++ (last ∷ []))
    → ShapesAt bodies n keys last
shapes_from bodies n one [] last all = let s = one last all.0 in record { shapes = last_shape s.shape; keys_are = refl; last_is = s.here; stand = s.stands; deep = s.deep }
shapes_from bodies n one (k ∷ ks) last all =
    let s = one k.1 all.0 in
    let r = shapes_from bodies n one ks last all.1 in
    record { shapes = more_shapes s.shape k.0 r.shapes; keys_are = ap₂ (λ p l. (k.0, p) ∷ l) s.here r.keys_are; last_is = r.last_is; stand = (s.stands, r.stand); deep = (s.deep, r.deep) }

shape_at : (bodies : ℕ → Option Body) (n at : ℕ) → IsGoodBelow bodies n at → ShapeAt bodies n at
shape_at bodies zero at good = record { shape = leaf_shape at good.0; here = refl; stands = good.1; deep = refl }
shape_at bodies (suc n) at good =
    let r = shapes_from bodies n (shape_at bodies n) good.0 good.1 good.3 in
    record { shape = node_shape at r.shapes; here = refl; stands = (good.2 ∙ ap₂ (λ k l. Some (inner_body k l)) (sym r.keys_are) (sym r.last_is), r.stand); deep = r.deep }

pub walked_whole : (kind : KeyKind) (bytes reached free : List ℕ) → IsWalked kind bytes reached free → IsWholeTree kind bytes
walked_whole kind bytes reached free w =
    let st : State = state_of kind bytes in
    let s = shape_at st.bodies st.levels st.root w.good in
    let leaves = ap (λ at. leaves_below st.bodies st.levels at) (sym s.here) ∙ leaves_are st.bodies st.levels s.shape s.stands s.deep in
    let entries = ap (λ at. entries_only (entries_below st.bodies st.levels at)) (sym s.here) ∙ entries_are st.bodies st.levels s.shape s.stands s.deep in
    record {
      whole = w.whole;
      reached = reached;
      shape = s.shape;
      free = free;
      tree = record {
        header = w.header;
        holds = record {
          built = record {
            root = s.here;
            stands = s.stands;
            deep = s.deep;
            chain = w.chain;
            once = λ x.
                let met = ap (λ at. times x (inners_below st.bodies st.levels at) + times x (leaves_below st.bodies st.levels at)) (sym s.here) ∙ split_are st.bodies x st.levels s.shape s.stands s.deep in
                let o = w.once x in
                subst (λ (n : ℕ). times x (0 ∷ []) + times x reached + n + times x free ≡ held (length bytes) x) met o;
          };
          ascends = subst (λ l. AscendAll kind l) entries w.ascends;
          linked = subst (λ l. Linked st.links 0 l 0) leaves w.linked;
        };
      };
      values = w.values;
      mean = w.mean;
    }
