-- The nodes after calls.
use Rattle.std.proofs.Common.{◌≡◌, ◌≢◌, ℕ, ℤ, List, length, refl, sym, ap, ◌∙◌, Option, Some, None, Bool, true, false, cond}
use Rattle.std.specs.Ordering.{nat_cmp, eq_by_cmp}
use Rattle.std.specs.Cmp.{nat_cmp_total}
use Rattle.std.specs.FinMap.{get, insert, remove, get-insert, same_map, nat_cmp-IsAntisymmetric}
use Rattle.bfs_tree.specs.declared.call.MakeKind.{MakeKind}
use Rattle.bfs_tree.specs.Changes.{changed_at, with_node, touched, kind_made, made, dropped, moved}
use Rattle.bfs_tree.specs.Names.{target_of}
use Rattle.bfs_tree.specs.States.{State}
use Rattle.bfs_tree.specs.Trees.{Node, Nodes, IsNode, new_node}
use Rattle.bfs_shift.specs.TreeLaws.{moved_node}
use Rattle.bfs_shift.proofs.Made.{put_here, put_other, taken_other}

-- a node that is changed where it is there
changed_is : (nodes : Nodes) (id : ℕ) (f : Node → Node) (n : Node) → get nodes id ≡ Some n → with_node nodes id f ≡ insert nodes id (f n)
changed_is nodes id f n is = ap (λ (o : Option Node). changed_at f o id nodes) is

-- a node that is put twice
put_twice : (nodes : Nodes) (id : ℕ) (m n : Node) → insert (insert nodes id m) id n ≡ insert nodes id n
put_twice nodes id m n = same_map nat_cmp_total nat_cmp-IsAntisymmetric (insert (insert nodes id m) id n) (insert nodes id n) (λ q. at q (eq_by_cmp nat_cmp q id) refl)
  where
    at : (q : ℕ) (t : Bool) → eq_by_cmp nat_cmp q id ≡ t → get (insert (insert nodes id m) id n) q ≡ get (insert nodes id n) q
    at q true e =
        get-insert nat_cmp_total (insert nodes id m) id n q ∙ ap (λ b. cond b (Some n) (get (insert nodes id m) q)) e
        ∙ sym (get-insert nat_cmp_total nodes id n q ∙ ap (λ b. cond b (Some n) (get nodes q)) e)
    at q false e =
        get-insert nat_cmp_total (insert nodes id m) id n q ∙ ap (λ b. cond b (Some n) (get (insert nodes id m) q)) e
        ∙ get-insert nat_cmp_total nodes id m q ∙ ap (λ b. cond b (Some m) (get nodes q)) e
        ∙ sym (get-insert nat_cmp_total nodes id n q ∙ ap (λ b. cond b (Some n) (get nodes q)) e)

pub made_nodes : (s : State) (dir : ℕ) (d : Node) (name : List ℕ) (kind : MakeKind) (mode : ℕ) (stamp : ℤ) (id : ℕ) → IsNode s.tree dir d → get s.tree.nodes id ≡ None
    → (made s dir name kind mode stamp id).tree.nodes ≡ insert (insert s.tree.nodes id (new_node (kind_made kind) name dir mode (length (target_of kind)) (target_of kind) stamp)) dir (touched stamp d)
made_nodes s dir d name kind mode stamp id is absent = changed_is (insert s.tree.nodes id node) dir (touched stamp) d (put_other s.tree.nodes id node dir apart ∙ is)
  where
    node : Node
    node = new_node (kind_made kind) name dir mode (length (target_of kind)) (target_of kind) stamp

    apart : dir ≢ id
    apart e = let both : Some d ≡ None = sym is ∙ ap (get s.tree.nodes) e ∙ absent in cc

pub dropped_nodes : (s : State) (dir : ℕ) (d : Node) (stamp : ℤ) (id : ℕ) → IsNode s.tree dir d → dir ≢ id → (dropped s dir stamp id).tree.nodes ≡ insert (remove s.tree.nodes id) dir (touched stamp d)
dropped_nodes s dir d stamp id is apart = changed_is (remove s.tree.nodes id) dir (touched stamp) d (taken_other s.tree.nodes id dir apart ∙ is)

module _ (s : State) (dir to : ℕ) (d t : Node) (name : List ℕ) (stamp : ℤ) (id : ℕ) (n : Node) (is : IsNode s.tree dir d) (is_to : IsNode s.tree to t) (there : IsNode s.tree id n) (one_apart : dir ≢ id) (two_apart : to ≢ id) where
  abbrev first : Nodes
  first = insert s.tree.nodes dir (touched stamp d)

  first_is : with_node s.tree.nodes dir (touched stamp) ≡ first
  first_is = changed_is s.tree.nodes dir (touched stamp) d is

  last_is : with_node (with_node (with_node s.tree.nodes dir (touched stamp)) to (touched stamp)) id (moved_node to name stamp) ≡ with_node (with_node first to (touched stamp)) id (moved_node to name stamp)
  last_is = ap (λ (m : Nodes). with_node (with_node m to (touched stamp)) id (moved_node to name stamp)) first_is

  first_has : get first id ≡ Some n
  first_has = put_other s.tree.nodes dir (touched stamp d) id (λ e. one_apart (sym e)) ∙ there

  pub within : to ≡ dir → (moved s dir to name stamp id).tree.nodes ≡ insert first id (moved_node to name stamp n)
  within e =
      let touched_there : get first to ≡ Some (touched stamp d) = ap (get first) e ∙ put_here s.tree.nodes dir (touched stamp d) in
      let again : with_node first to (touched stamp) ≡ first = changed_is first to (touched stamp) (touched stamp d) touched_there ∙ ap (λ (j : ℕ). insert first j (touched stamp d)) e ∙ put_twice s.tree.nodes dir (touched stamp d) (touched stamp d) in
      last_is ∙ ap (λ (m : Nodes). with_node m id (moved_node to name stamp)) again ∙ changed_is first id (moved_node to name stamp) n first_has

  pub across : to ≢ dir → (moved s dir to name stamp id).tree.nodes ≡ insert (insert first to (touched stamp t)) id (moved_node to name stamp n)
  across other =
      let t_there : get first to ≡ Some t = put_other s.tree.nodes dir (touched stamp d) to other ∙ is_to in
      let second : with_node first to (touched stamp) ≡ insert first to (touched stamp t) = changed_is first to (touched stamp) t t_there in
      let has : get (insert first to (touched stamp t)) id ≡ Some n = put_other first to (touched stamp t) id (λ e. two_apart (sym e)) ∙ first_has in
      last_is ∙ ap (λ (m : Nodes). with_node m id (moved_node to name stamp)) second ∙ changed_is (insert first to (touched stamp t)) id (moved_node to name stamp) n has
