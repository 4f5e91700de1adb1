-- A node goes: it is listed no more, its name is taken, its directory is stamped, and it leaves the tree.
use Rattle.std.proofs.Common.{◌≡◌, ◌≢◌, ◌⊎◌, inl, inr, ℕ, ℤ, pos, List, [], Option, Some, Bool, refl, sym, ap, ◌∙◌, subst}
use Rattle.std.specs.Cmp.{nat_cmp_total}
use Rattle.std.specs.FinMap.{get, insert, remove, empty, same_map, nat_cmp-IsAntisymmetric}
use Rattle.bfs_base.specs.declared.kind.KeyKind.TheVariants.{Text}
use Rattle.bfs_super.specs.Conditions.{IsValid}
use Rattle.bfs_super.specs.Geometry.{geometry_of}
use Rattle.bfs_super.specs.declared.geometry.Geometry.{Geometry}
use Rattle.bfs_super.specs.declared.sup.Super.{Super}
use Rattle.bfs_bitmap.specs.Runs.{Room}
use Rattle.bfs_node.specs.Page.{Row}
use Rattle.bfs_pages.specs.Maps.{assoc, without}
use Rattle.bfs_tree.specs.Changes.{removed, dropped, touched, with_node}
use Rattle.bfs_tree.specs.States.{State}
use Rattle.bfs_tree.specs.Steps.{ByTree, Turn}
use Rattle.bfs_tree.specs.Trees.{Node, Nodes, Tree, IsNode, IsPlain, child}
use Rattle.bfs_tree.specs.declared.call.Call.TheVariants as calls
use Rattle.bfs_tree.specs.declared.reply.Reply.TheVariants as replies
use Rattle.bfs_tree.proofs.Keeps.{step-keeps}
use Rattle.bfs_tree.proofs.Members.{child-there, child-seat}
use Rattle.bfs_maps.specs.NumberTrees.{AreNumbers}
use Rattle.bfs_shift.specs.Lists.{Lists, with_rows}
use Rattle.bfs_shift.specs.TreeLaws.{LosesNode}
use Rattle.bfs_shift.specs.Work.{GoesOn, IsStepped, HasDirectoryAt}
use Rattle.bfs_shift.proofs.Dropped.{remove_agrees}
use Rattle.bfs_shift.proofs.Ends.{dropped_nodes}
use Rattle.bfs_shift.proofs.Following.{no_loop, same_or_not}
use Rattle.bfs_shift.proofs.Leaves.{taken_none}
use Rattle.bfs_shift.proofs.Made.{put_here, put_other, taken_other}
use Rattle.bfs_shift.proofs.Parts.{lists_at}
use Rattle.bfs_look.specs.Ready.{IsReady}
use Rattle.bfs_look.proofs.Known.{rows_numbers, row_child}
use Rattle.bfs_leave.specs.Leaving.{GivesBack, IsLeft, tree_without}
use Rattle.bfs_leave.proofs.Steps.{goes_on_gives, gives_back_twice}
use Rattle.bfs_unlist.specs.Without.{HasUnlisted, HasNodeIn}
use Rattle.bfs_unmake.specs.Whole.{HoldsNode}
use Rattle.bfs_calls.specs.Made.{with_touched}
use Rattle.bfs_make.proofs.Telling.{one_map}
use Rattle.bfs_moves.proofs.Ends.{goes_on_twice}
use Rattle.bfs_remove_node.specs.Removed.{MayBeRemoved, IsChildAt, IsRemovedIn}
use Rattle.bfs_remove_node.proofs.Refusing.{none_held}

-- one node goes and another one changes, in either order
commute : (nodes : Nodes) (dir id : ℕ) (n : Node) → dir ≢ id → remove (insert nodes dir n) id ≡ insert (remove nodes id) dir n
commute nodes dir id n apart = same_map nat_cmp_total nat_cmp-IsAntisymmetric (remove (insert nodes dir n) id) (insert (remove nodes id) dir n) (λ q. at q (same_or_not q id))
  where
    other : (q : ℕ) → q ≢ id → (q ≡ dir) ⊎ (q ≢ dir) → get (insert nodes dir n) q ≡ get (insert (remove nodes id) dir n) q
    other q e (inl here) =
        ap (get (insert nodes dir n)) here ∙ put_here nodes dir n ∙ sym (ap (get (insert (remove nodes id) dir n)) here ∙ put_here (remove nodes id) dir n)
    other q e (inr there) = put_other nodes dir n q there ∙ sym (put_other (remove nodes id) dir n q there ∙ taken_other nodes id q e)

    at : (q : ℕ) → (q ≡ id) ⊎ (q ≢ id) → get (remove (insert nodes dir n) id) q ≡ get (insert (remove nodes id) dir n) q
    at q (inl e) =
        ap (get (remove (insert nodes dir n) id)) e ∙ taken_none (insert nodes dir n) id
        ∙ sym (ap (get (insert (remove nodes id) dir n)) e ∙ put_other (remove nodes id) dir n id (λ x. apart (sym x)) ∙ taken_none nodes id)
    at q (inr e) = taken_other (insert nodes dir n) id q e ∙ other q e (same_or_not q dir)

module _ (s : Super) (v : Room) (m : ℕ → Option (List ℕ)) (tree : Tree) (lists : Lists) (ready : IsReady (geometry_of s) v m tree lists) (valid : IsValid s)
    (dir : ℕ) (name : List ℕ) (may : MayBeRemoved tree dir name) (id : ℕ) (child_at : IsChildAt tree dir name id) where
  abbrev g : Geometry
  g = geometry_of s

  abbrev node : Node
  node = child_at.0

  there : IsNode tree id node
  there = (child-there tree dir name (id, node) child_at.1).0

  apart : id ≢ tree.root
  apart = (child-there tree dir name (id, node) child_at.1).1

  up : node.parent ≡ dir
  up = (child-seat tree dir name (id, node) child_at.1).0

  named : node.name ≡ name
  named = (child-seat tree dir name (id, node) child_at.1).1

  dir_apart : dir ≢ id
  dir_apart e = no_loop tree id apart node there (up ∙ e) id (ready.plain.nodes.lead id node there) refl

  row : assoc Text (lists.rows dir) name ≡ Some (pos id)
  row = ap (assoc Text (lists.rows dir)) (sym named) ∙ row_child s v m tree lists ready dir may.d may.there may.dir_kind id node there apart up

  pub node_in : HasNodeIn g v m id
  node_in = record { tree = tree; lists = lists; node = node; ready = ready; there = there; apart = apart }

  pub node_there : IsNode tree id node
  node_there = there

  pub node_apart : id ≢ tree.root
  node_apart = apart

  -- it is listed no more
  module _ (v1 : Room) (t1 : Option (ℕ → Option (List ℕ))) (c0 c1 : ℕ → Bool) (one : HasUnlisted g v v1 m tree lists id t1 c0 c1) where
    directory : HasDirectoryAt g v1 one.step.map dir
    directory = record { tree = tree; lists = one.last; loose = []; node = may.d; work = one.step.work; there = may.there; kind = may.dir_kind }

    pub directory_at : (n : ℕ → Option (List ℕ)) → t1 ≡ Some n → HasDirectoryAt g v1 n dir
    directory_at n told = subst (λ (k : ℕ → Option (List ℕ)). HasDirectoryAt g v1 k dir) (one_map t1 one.step.map n one.step.is told) directory

    pub numbers : AreNumbers (one.last.rows dir)
    numbers = subst AreNumbers (sym (one.without.rows dir)) (rows_numbers s v m tree lists ready dir may.d may.there may.dir_kind valid)

    pub row_still : assoc Text (one.last.rows dir) name ≡ Some (pos id)
    row_still = ap (λ (rows : List Row). assoc Text rows name) (one.without.rows dir) ∙ row

    abbrev last : Lists
    last = with_rows one.last dir (without Text (one.last.rows dir) name)

    loses : LosesNode lists last dir id node
    loses = record {
      parent =
          (lists_at one.last).rows_here dir (without Text (one.last.rows dir) name) ∙ ap (λ (rows : List Row). without Text rows name) (one.without.rows dir)
          ∙ ap (without Text (lists.rows dir)) (sym named);
      others = λ k other. (lists_at one.last).rows_elsewhere dir k (without Text (one.last.rows dir) name) other ∙ one.without.rows k;
      names = one.without.names;
      kinds = one.without.kinds;
      pairs = one.without.pairs;
    }

    -- its name is taken, and its directory is stamped
    module _ (stamp : ℤ) (v2 : Room) (t2 : Option (ℕ → Option (List ℕ))) (c2 : ℕ → Bool) (two : IsStepped g v1 v2 one.step.map tree (with_touched tree dir may.d stamp) last [] t2 c1 c2) where
      abbrev stamped : Tree
      stamped = with_touched tree dir may.d stamp

      abbrev plain : State
      plain = record { tree = tree; holds = []; known = empty }

      abbrev after : Tree
      after = (dropped plain dir stamp id).tree

      both : GoesOn g v v2 m two.map tree stamped c0 c2
      both = goes_on_twice g v v1 v2 m one.step.map two.map tree tree stamped c0 c1 c2 one.step.goes_on two.goes_on

      pub gives : GivesBack g v v2 m two.map tree stamped c0 c2
      gives = goes_on_gives g v v2 m two.map tree stamped c0 c2 ready.reserved both

      pub still : IsNode stamped id node
      still = put_other tree.nodes dir (touched stamp may.d) id (λ e. dir_apart (sym e)) ∙ there

      holds : HoldsNode g v2 two.map id
      holds = record { tree = stamped; lists = last; loose = []; node = node; work = two.work; there = still }

      pub holds_at : (n : ℕ → Option (List ℕ)) → t2 ≡ Some n → HoldsNode g v2 n id
      holds_at n told = subst (λ (k : ℕ → Option (List ℕ)). HoldsNode g v2 k id) (one_map t2 two.map n two.is told) holds

      tree_is : tree_without stamped id ≡ after
      tree_is = ap (λ (ns : Nodes). record tree { nodes = ns }) (commute tree.nodes dir id (touched stamp may.d) dir_apart ∙ sym (dropped_nodes plain dir may.d stamp id may.there dir_apart))

      plain_now : IsPlain after
      plain_now =
          step-keeps plain (dropped plain dir stamp id) (record { session = 0; tag = 0; stamp = stamp; call = calls.Remove dir name; reply = replies.Done }) ready.plain
          (Turn.by_tree (ByTree.answered (none_held plain dir name may refl) refl (sym (ap (removed plain dir stamp) child_at.1))))

      follows : (st : State) → st.tree ≡ tree → (removed st dir stamp (child st.tree dir name)).tree ≡ after
      follows st same =
          ap (λ (o : Option (ℕ × Node)). (removed st dir stamp o).tree) (ap (λ (t : Tree). child t dir name) same ∙ child_at.1)
          ∙ ap (λ (t : Tree). record t { nodes = with_node (remove t.nodes id) dir (touched stamp) }) same

      -- it leaves the tree
      pub removed_in : (v3 : Room) (t3 : Option (ℕ → Option (List ℕ))) (c3 : ℕ → Bool) → IsLeft g v2 v3 two.map stamped (tree_without stamped id) last [] t3 c2 c3 → IsRemovedIn g v v3 m tree dir name stamp t3 c0 c3
      removed_in v3 t3 c3 three = record {
        after = after;
        lists = last;
        left = subst (λ (t : Tree). IsLeft g v v3 m tree t last [] t3 c0 c3) tree_is (record {
          map = three.map;
          is = three.is;
          work = three.work;
          gives = gives_back_twice g v v2 v3 m two.map three.map tree stamped (tree_without stamped id) c0 c2 c3 gives three.gives;
        });
        agrees = remove_agrees plain lists last dir may.d stamp id node ready.plain.nodes plain_now.nodes may.there there apart up ready.agrees loses;
        root = refl;
        follows = follows;
      }
