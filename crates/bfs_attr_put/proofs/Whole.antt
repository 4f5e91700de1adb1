-- An attribute is written: the index lists the node under the old one no more, the node has the new one, its stamp is written, and the index
-- lists it under the new one.
use Rattle.std.proofs.Common.{◌≡◌, ℕ, ℤ, List, [], Bool, Option, Some, refl, ap, ◌∙◌, subst}
use Rattle.std.specs.FinMap.{insert}
use Rattle.bfs_super.specs.declared.geometry.Geometry.{Geometry}
use Rattle.bfs_bitmap.specs.Runs.{Room}
use Rattle.bfs_tree.specs.Trees.{Attribute, Attributes, Node, Nodes, Tree, IsNode}
use Rattle.bfs_make.proofs.Telling.{one_map}
use Rattle.bfs_attr_calls.proofs.Brings.{rest_given}
use Rattle.bfs_shift.specs.Lists.{Lists}
use Rattle.bfs_shift.specs.Work.{IsStepped}
use Rattle.bfs_shift.proofs.Made.{put_here}
use Rattle.bfs_look.specs.Ready.{IsReady}
use Rattle.bfs_attr_calls.specs.LeaveLeaving.{IsClear, GivesBack, IsLeft}
use Rattle.bfs_attr_calls.proofs.Steps.{goes_on_gives, gives_back_twice}
use Rattle.bfs_attr_calls.specs.Attributed.{with_attributes}
use Rattle.bfs_attr_calls.specs.Removed.{tree_with, HasBearerAt, HasUnlistedUnder}
use Rattle.bfs_attr_calls.specs.Stamped.{with_changed}
use Rattle.bfs_attr_calls.proofs.Whole.{put_again}
use Rattle.bfs_attr_put.specs.Listed.{IsPutOnly, HasListedUnder}
use Rattle.bfs_attr_put.specs.Written.{node_with, IsAttributeWritten}
use Rattle.bfs_attr_put.proofs.Keyed.{attribute_lists}

-- the bitmap's view after three steps, of which the first and the last give nothing back
pub rest_thrice : (v v1 v2 v3 : Room) → v1 ≡ record v { tally = v1.tally } → v2 ≡ record v1 { given = v2.given; tally = v2.tally } → v3 ≡ record v2 { tally = v3.tally } → v3 ≡ record v { given = v3.given; tally = v3.tally }
rest_thrice v v1 v2 v3 one two three =
    rest_given v2 v3 three
    ∙ ap (λ (r : Room). record r { given = v3.given; tally = v3.tally }) two
    ∙ ap (λ (r : Room). record r { given = v3.given; tally = v3.tally }) one

-- an attribute that was put, and the stamp of that
module _ (g : Geometry) (v v1 : Room) (m : ℕ → Option (List ℕ)) (tree : Tree) (lists : Lists) (loose : List ℕ) (id : ℕ) (n : Node) (name : List ℕ) (attribute : Attribute) (stamp : ℤ) (t1 t2 : Option (ℕ → Option (List ℕ))) (c0 c1 c2 : ℕ → Bool)
    (one : IsLeft g v v1 m tree (with_attributes tree id n (insert n.attributes name attribute)) lists loose t1 c0 c1) where
  abbrev more : Attributes
  more = insert n.attributes name attribute

  abbrev mid : Tree
  mid = with_attributes tree id n more

  abbrev with_more : Node
  with_more = record n { attributes = more }

  pub more_there : IsNode mid id with_more
  more_there = put_here tree.nodes id with_more

  abbrev last : Tree
  last = with_changed mid id with_more stamp

  tree_is : last ≡ tree_with tree id (node_with n name attribute stamp)
  tree_is = ap (λ (nodes : Nodes). record tree { nodes = nodes }) (put_again tree.nodes id with_more (node_with n name attribute stamp))

  module _ (two : IsStepped g v1 v1 one.map mid last lists loose t2 c1 c2) where
    stamped : GivesBack g v1 v1 one.map two.map mid last c1 c2
    stamped = goes_on_gives g v1 v1 one.map two.map mid last c1 c2 one.gives.clear two.goes_on

    both : IsLeft g v v1 m tree last lists loose t2 c0 c2
    both = record { map = two.map; is = two.is; work = two.work; gives = gives_back_twice g v v1 v1 m one.map two.map tree mid last c0 c1 c2 one.gives stamped }

    pub attribute_changed : IsLeft g v v1 m tree (tree_with tree id (node_with n name attribute stamp)) lists loose t2 c0 c2
    attribute_changed = subst (λ (t : Tree). IsLeft g v v1 m tree t lists loose t2 c0 c2) tree_is both

-- and the steps before and after
module _ (g : Geometry) (v v1 : Room) (m : ℕ → Option (List ℕ)) (tree : Tree) (lists : Lists) (ready : IsReady g v m tree lists) (id : ℕ) (n : Node) (is : IsNode tree id n) (name : List ℕ) (t1 : Option (ℕ → Option (List ℕ))) (c0 c1 : ℕ → Bool)
    (one : HasUnlistedUnder g v v1 m tree lists id n name t1 c0 c1) where
  first : GivesBack g v v1 m one.step.map tree tree c0 c1
  first = goes_on_gives g v v1 m one.step.map tree tree c0 c1 ready.reserved one.step.goes_on

  pub left_clear : IsClear g v1 one.step.map
  left_clear = first.clear

  bearer : HasBearerAt g v1 one.step.map id
  bearer = record { tree = tree; lists = one.last; loose = []; node = n; work = one.step.work; there = is }

  pub bearer_left : (map : ℕ → Option (List ℕ)) → t1 ≡ Some map → HasBearerAt g v1 map id
  bearer_left map told = subst (λ (k : ℕ → Option (List ℕ)). HasBearerAt g v1 k id) (one_map t1 one.step.map map one.step.is told) bearer

  module _ (v2 : Room) (attribute : Attribute) (stamp : ℤ) (t2 : Option (ℕ → Option (List ℕ))) (c2 : ℕ → Bool) (two : IsLeft g v1 v2 one.step.map tree (tree_with tree id (node_with n name attribute stamp)) one.last [] t2 c1 c2) where
    abbrev since : Tree
    since = tree_with tree id (node_with n name attribute stamp)

    pub put_only : IsPutOnly g v2 two.map tree since lists one.last id n name
    put_only = record { work = two.work; agrees = ready.agrees; there = is; unlists = one.unlists }

    module _ (v3 : Room) (t3 : Option (ℕ → Option (List ℕ))) (c3 : ℕ → Bool) (three : HasListedUnder g v2 v3 two.map since lists id name attribute t3 c2 c3) where
      changed : GivesBack g v v2 m two.map tree since c0 c2
      changed = gives_back_twice g v v1 v2 m one.step.map two.map tree tree since c0 c1 c2 first two.gives

      listed : GivesBack g v2 v3 two.map three.step.map since since c2 c3
      listed = goes_on_gives g v2 v3 two.map three.step.map since since c2 c3 two.gives.clear three.step.goes_on

      pub attribute_written : IsAttributeWritten g v v3 m tree id name attribute stamp t3 c0 c3
      attribute_written =
          let all = attribute_lists tree lists three.last id n name attribute stamp is ready.agrees three.under in
          record {
            after = since;
            lists = three.last;
            left = record { map = three.step.map; is = three.step.is; work = three.step.work; gives = gives_back_twice g v v2 v3 m two.map three.step.map tree since since c0 c2 c3 changed listed };
            agrees = all.0;
            root = refl;
            follows = all.1;
          }
