-- An attribute goes: the index lists the node under it no more, the node has it no more, and its stamp is written.
use Rattle.std.proofs.Common.{◌≡◌, ℕ, ℤ, List, [], Bool, Option, Some, true, false, cond, refl, sym, ap, ◌∙◌, subst}
use Rattle.std.specs.Cmp.{nat_cmp_total}
use Rattle.std.specs.FinMap.{get, insert, remove, get-insert, same_map, nat_cmp-IsAntisymmetric}
use Rattle.std.specs.Ordering.{nat_cmp, eq_by_cmp}
use Rattle.bfs_super.specs.declared.geometry.Geometry.{Geometry}
use Rattle.bfs_bitmap.specs.Runs.{Room}
use Rattle.bfs_tree.specs.Trees.{Node, Nodes, Tree, Attributes, IsNode}
use Rattle.bfs_make.proofs.Telling.{one_map}
use Rattle.bfs_shift.specs.Lists.{Lists}
use Rattle.bfs_shift.specs.Work.{IsStepped}
use Rattle.bfs_shift.proofs.Made.{put_here}
use Rattle.bfs_look.specs.Ready.{IsReady}
use Rattle.bfs_unmake.specs.Leaving.{IsClear, GivesBack, IsLeft}
use Rattle.bfs_unmake.proofs.Steps.{goes_on_gives, gives_back_twice}
use Rattle.bfs_attr_calls.specs.Attributed.{with_attributes}
use Rattle.bfs_attr_calls.specs.Removed.{node_without, tree_with, HasBearerAt, HasUnlistedUnder, IsAttributeRemoved}
use Rattle.bfs_attr_calls.specs.Stamped.{with_changed}
use Rattle.bfs_attr_calls.proofs.Keys.{attribute_unlists}

-- a node that is put twice is put once
pub put_again : (nodes : Nodes) (id : ℕ) (m n : Node) → insert (insert nodes id m) id n ≡ insert nodes id n
put_again nodes id m n = same_map nat_cmp_total nat_cmp-IsAntisymmetric (insert (insert nodes id m) id n) (insert nodes id n) (λ q. at q (eq_by_cmp nat_cmp q id) refl)
  where
    at : (q : ℕ) (t : Bool) → eq_by_cmp nat_cmp q id ≡ t → get (insert (insert nodes id m) id n) q ≡ get (insert nodes id n) q
    at q true e =
        get-insert nat_cmp_total (insert nodes id m) id n q ∙ ap (λ b. cond b (Some n) (get (insert nodes id m) q)) e
        ∙ sym (get-insert nat_cmp_total nodes id n q ∙ ap (λ b. cond b (Some n) (get nodes q)) e)
    at q false e =
        get-insert nat_cmp_total (insert nodes id m) id n q ∙ ap (λ b. cond b (Some n) (get (insert nodes id m) q)) e
        ∙ get-insert nat_cmp_total nodes id m q ∙ ap (λ b. cond b (Some m) (get nodes q)) e
        ∙ sym (get-insert nat_cmp_total nodes id n q ∙ ap (λ b. cond b (Some n) (get nodes q)) e)

module _ (g : Geometry) (v v1 : Room) (m : ℕ → Option (List ℕ)) (tree : Tree) (lists : Lists) (ready : IsReady g v m tree lists) (id : ℕ) (n : Node) (is : IsNode tree id n) (name : List ℕ) (t1 : Option (ℕ → Option (List ℕ))) (c0 c1 : ℕ → Bool)
    (one : HasUnlistedUnder g v v1 m tree lists id n name t1 c0 c1) where
  first : GivesBack g v v1 m one.step.map tree tree c0 c1
  first = goes_on_gives g v v1 m one.step.map tree tree c0 c1 ready.reserved one.step.goes_on

  pub unlisted_clear : IsClear g v1 one.step.map
  unlisted_clear = first.clear

  bearer : HasBearerAt g v1 one.step.map id
  bearer = record { tree = tree; lists = one.last; loose = []; node = n; work = one.step.work; there = is }

  pub bearer_at : (map : ℕ → Option (List ℕ)) → t1 ≡ Some map → HasBearerAt g v1 map id
  bearer_at map told = subst (λ (k : ℕ → Option (List ℕ)). HasBearerAt g v1 k id) (one_map t1 one.step.map map one.step.is told) bearer

  abbrev left : Attributes
  left = remove n.attributes name

  abbrev bare : Node
  bare = record n { attributes = left }

  pub bare_there : IsNode (with_attributes tree id n left) id bare
  bare_there = put_here tree.nodes id bare

  module _ (stamp : ℤ) where
    abbrev after : Tree
    after = tree_with tree id (node_without n name stamp)

    tree_is : with_changed (with_attributes tree id n left) id bare stamp ≡ after
    tree_is = ap (λ (nodes : Nodes). record tree { nodes = nodes }) (put_again tree.nodes id bare (node_without n name stamp))

    module _ (v2 : Room) (t2 t3 : Option (ℕ → Option (List ℕ))) (c2 c3 : ℕ → Bool) (two : IsLeft g v1 v2 one.step.map tree (with_attributes tree id n left) one.last [] t2 c1 c2)
        (three : IsStepped g v2 v2 two.map (with_attributes tree id n left) (with_changed (with_attributes tree id n left) id bare stamp) one.last [] t3 c2 c3) where
      abbrev mid : Tree
      mid = with_attributes tree id n left

      abbrev last : Tree
      last = with_changed mid id bare stamp

      taken : GivesBack g v v2 m two.map tree mid c0 c2
      taken = gives_back_twice g v v1 v2 m one.step.map two.map tree tree mid c0 c1 c2 first two.gives

      stamped : GivesBack g v2 v2 two.map three.map mid last c2 c3
      stamped = goes_on_gives g v2 v2 two.map three.map mid last c2 c3 two.gives.clear three.goes_on

      whole : IsLeft g v v2 m tree last one.last [] t3 c0 c3
      whole = record { map = three.map; is = three.is; work = three.work; gives = gives_back_twice g v v2 v2 m two.map three.map tree mid last c0 c2 c3 taken stamped }

      pub attribute_gone : IsAttributeRemoved g v v2 m tree id name stamp t3 c0 c3
      attribute_gone =
          let both = attribute_unlists tree lists one.last id n name stamp is ready.agrees one.unlists in
          record {
            after = after;
            lists = one.last;
            left = subst (λ (t : Tree). IsLeft g v v2 m tree t one.last [] t3 c0 c3) tree_is whole;
            agrees = both.0;
            root = refl;
            follows = both.1;
          }
