-- A node has moved to a place that was free: what the tree is then.
use Rattle.std.proofs.Common.{◌≡◌, ◌≢◌, ℕ, ℤ, List, [], Option, Some, None, Bool, false, codes, refl, sym, ap, ◌∙◌, subst}
use Rattle.std.specs.FinMap.{get}
use Rattle.bfs_base.specs.declared.kind.KeyKind.TheVariants.{Text}
use Rattle.bfs_maps.specs.NumberTrees.{IsNumberAt}
use Rattle.bfs_tree.specs.declared.call.Kind.{Kind}
use Rattle.bfs_super.specs.Geometry.{geometry_of}
use Rattle.bfs_super.specs.declared.geometry.Geometry.{Geometry}
use Rattle.bfs_super.specs.declared.sup.Super.{Super}
use Rattle.bfs_bitmap.specs.Runs.{Room}
use Rattle.bfs_tree.specs.Changes.{changed_at, moved, moved_over, renamed, touched, with_node}
use Rattle.bfs_tree.specs.Refusals.{own_refusal}
use Rattle.bfs_tree.specs.States.{State}
use Rattle.bfs_tree.specs.Steps.{ByTree, Turn}
use Rattle.bfs_tree.specs.Trees.{Node, Tree, IsNode, IsPlain, HasPlainNodes, child, is_dir}
use Rattle.bfs_tree.specs.declared.call.Call.TheVariants.{Rename}
use Rattle.bfs_tree.specs.declared.reply.Reply.TheVariants.{Done}
use Rattle.bfs_tree.proofs.Keeps.{step-keeps}
use Rattle.bfs_tree.proofs.Members.{child-there, child-seat, no-child}
use Rattle.bfs_shift.specs.Lists.{Lists, Agrees}
use Rattle.bfs_shift.specs.TreeLaws.{MovesNode, moved_node}
use Rattle.bfs_shift.proofs.Renamed.{rename_agrees, touched_other}
use Rattle.bfs_shift.specs.Work.{IsAtWork}
use Rattle.bfs_make.proofs.Telling.{one_map}
use Rattle.bfs_look.specs.Ready.{IsReady}
use Rattle.bfs_remove_node.proofs.Sought.{plain_of}
use Rattle.bfs_give_name.specs.Named.{HoldsProper}
use Rattle.bfs_rename.specs.Moved.{HasListedMove, HasMove, HasMoved, IsMove, moved_tree, with_seat}
use Rattle.bfs_rename.specs.Rows.{row_taken}
use Rattle.bfs_rename.specs.Stamped.{both_touched}
use Rattle.bfs_rename.proofs.Renaming.{here, into_dir, over_none}
use Rattle.bfs_rename.proofs.Stampings.{still}

pair : (a b : ℕ) (p q : Node) → a ≡ b → p ≡ q → ◌≡◌ {A = Option (ℕ × Node)} (Some (a, p)) (Some (b, q))
pair a b p q e f = cc

-- a node of a volume at work, by whichever map is told
pub holds_proper : (g : Geometry) (v : Room) (map : ℕ → Option (List ℕ)) (told : Option (ℕ → Option (List ℕ))) (tree : Tree) (lists : Lists) (id : ℕ) (n : Node) → told ≡ Some map → IsAtWork g v map tree lists [] → IsNode tree id n → id ≢ g.root
    → (k : ℕ → Option (List ℕ)) → told ≡ Some k → HoldsProper g v k id
holds_proper g v map told tree lists id n is work there apart k now =
    subst (λ (x : ℕ → Option (List ℕ)). HoldsProper g v x id) (one_map told map k is now) (record { tree = tree; lists = lists; work = work; n = n; there = there; apart = apart })

-- by another view of the bitmap that is the same
pub listed_move : (g : Geometry) (v now : Room) (m : ℕ → Option (List ℕ)) (dir : ℕ) (name : List ℕ) (to_dir : ℕ) (to_name : List ℕ) (id : ℕ) (kind : Kind) (names : Option ℕ) → now ≡ v
    → (h : HasMove g v m dir name to_dir to_name id kind) → IsNumberAt Text h.lists.names (codes "name") names → HasListedMove g now m dir name to_dir to_name id kind names
listed_move g v now m dir name to_dir to_name id kind names same h at =
    subst (λ (r : Room). HasListedMove g r m dir name to_dir to_name id kind names) (sym same) (record { has = h; listed = at })

pub moved_from : (g : Geometry) (v mid now : Room) (m : ℕ → Option (List ℕ)) (tree : Tree) (dir to_dir : ℕ) (to_name : List ℕ) (stamp : ℤ) (id : ℕ) (told : Option (ℕ → Option (List ℕ))) (c0 c1 c2 : ℕ → Bool) → mid ≡ v → c1 ≡ c0
    → HasMoved g mid now m tree dir to_dir to_name stamp id told c1 c2 → HasMoved g v now m tree dir to_dir to_name stamp id told c0 c2
moved_from g v mid now m tree dir to_dir to_name stamp id told c0 c1 c2 same changed moved =
    subst (λ (r : Room). HasMoved g r now m tree dir to_dir to_name stamp id told c0 c2) same (subst (λ (ch : ℕ → Bool). HasMoved g mid now m tree dir to_dir to_name stamp id told ch c2) changed moved)

-- in a plain tree the node that has a seat is the child of its name
pub child_of : (tree : Tree) (dir : ℕ) (name : List ℕ) (id : ℕ) (n : Node) → HasPlainNodes tree → IsNode tree id n → id ≢ tree.root → n.parent ≡ dir → n.name ≡ name → child tree dir name ≡ Some (id, n)
child_of tree dir name id n plain there apart parent named = by_child (child tree dir name) refl
  where
    by_child : (o : Option (ℕ × Node)) → child tree dir name ≡ o → child tree dir name ≡ Some (id, n)
    by_child None e = absurd (no-child tree dir name e id n there apart parent named)
    by_child (Some x) e =
        let at = child-there tree dir name x e in
        let seat = child-seat tree dir name x e in
        let same : x.0 ≡ id = plain.apart x.0 id x.1 n at.0 there (seat.0 ∙ sym parent) (seat.1 ∙ sym named) in
        let node : x.1 ≡ n = (let both : Some x.1 ≡ Some n = sym at.0 ∙ ap (get tree.nodes) same ∙ there in cc) in
        e ∙ pair x.0 id x.1 n same node

module _ (s : Super) (v : Room) (m : ℕ → Option (List ℕ)) (tree : Tree) (lists : Lists) (ready : IsReady (geometry_of s) v m tree lists)
    (dir : ℕ) (name : List ℕ) (to_dir : ℕ) (to_name : List ℕ) (id : ℕ) (n : Node) (move : IsMove tree dir name to_dir to_name id n) (stamp : ℤ) where
  abbrev st : State
  st = plain_of tree

  child_is : child tree dir name ≡ Some (id, n)
  child_is = child_of tree dir name id n ready.plain.nodes move.node_there move.apart move.parent move.named

  refusal : own_refusal (Rename dir name to_dir to_name) st ≡ None
  refusal =
      here st dir name to_dir to_name move.d move.there (ap is_dir move.dir_kind) id n child_is
      ∙ into_dir st id n to_dir to_name move.t move.to_there false false (ap is_dir move.to_kind) move.good move.outside
      ∙ over_none st id n.kind to_dir to_name move.free

  renamed_is : moved st dir to_dir to_name stamp id ≡ renamed st dir to_dir to_name stamp (child tree dir name)
  renamed_is = sym (ap (renamed st dir to_dir to_name stamp) child_is ∙ ap (moved_over st dir to_dir to_name stamp id) move.free)

  pub plain_now : IsPlain (moved_tree tree dir to_dir to_name stamp id)
  plain_now =
      step-keeps st (moved st dir to_dir to_name stamp id) (record { session = 0; tag = 0; stamp = stamp; call = Rename dir name to_dir to_name; reply = Done }) ready.plain
      (Turn.by_tree (ByTree.answered refusal refl renamed_is))

  -- the node is what it was, once both directories are stamped
  pub has : IsNode (both_touched tree dir to_dir stamp) id n
  has =
      let x = still tree dir to_dir stamp move.d move.t move.there move.dir_kind move.to_there move.to_kind in
      let first : get (with_node tree.nodes dir (touched stamp)) to_dir ≡ Some x.0 = ap (λ (o : Option Node). get (changed_at (touched stamp) o dir tree.nodes) to_dir) move.there ∙ x.1 in
      touched_other (with_node tree.nodes dir (touched stamp)) to_dir x.0 stamp first x.2 id move.to_apart
      ∙ touched_other tree.nodes dir move.d stamp move.there move.dir_kind id move.dir_apart
      ∙ move.node_there

  pub tree_is : with_seat (both_touched tree dir to_dir stamp) id n to_dir to_name stamp ≡ moved_tree tree dir to_dir to_name stamp id
  tree_is = sym (ap (λ (o : Option Node). record tree { nodes = changed_at (moved_node to_dir to_name stamp) o id (with_node (with_node tree.nodes dir (touched stamp)) to_dir (touched stamp)) }) has)

  pub agrees_now : (last : Lists) → MovesNode tree lists (row_taken lists dir name) last dir to_dir id n (moved_node to_dir to_name stamp n) → Agrees (moved_tree tree dir to_dir to_name stamp id) last
  agrees_now last moves =
      rename_agrees st lists (row_taken lists dir name) last dir to_dir move.d move.t to_name stamp id n ready.plain.nodes plain_now.nodes move.there move.to_there move.to_kind move.node_there move.apart move.parent ready.agrees moves
