-- A node that a move replaces leaves the tree.
use Rattle.std.proofs.Common.{◌≡◌, ◌≢◌, ℕ, refl, sym, ap, ◌∙◌, subst, Bool, true, false, cond, Some, None}
use Rattle.std.specs.Prelude.{◌&&◌}
use Rattle.std.specs.Option.{option_map, option_and_then}
use Rattle.std.specs.Ordering.{nat_cmp, eq_by_cmp}
use Rattle.std.specs.Cmp.{nat_cmp_total}
use Rattle.std.specs.FinMap.{get, remove, entries, get-remove}
use Rattle.bfs_tree.specs.declared.call.Kind.{Kind}
use Rattle.bfs_tree.specs.declared.call.Kind.TheVariants.{File, Dir, Link}
use Rattle.bfs_tree.specs.Changes.{without_node}
use Rattle.bfs_tree.specs.Listings.{key_in}
use Rattle.bfs_tree.specs.Refusals.{is_full, has_children}
use Rattle.bfs_tree.specs.States.{State}
use Rattle.bfs_tree.specs.Trees.{Node, Nodes, Tree, IsNode, HasPlainNodes, is_dir}
use Rattle.bfs_tree.proofs.Members.{no-children}
use Rattle.bfs_tree.proofs.Plains.{Shape, shape, shapes, seen, Plain, plain-of, plain-nodes, taken, plain-taken}
use Rattle.bfs_shift.specs.Lists.{Lists, Agrees}
use Rattle.bfs_shift.specs.Seats.{seat, ChangesSeat}
use Rattle.bfs_shift.specs.TreeLaws.{LosesNode}
use Rattle.bfs_shift.proofs.Leaves.{taken_none}
use Rattle.bfs_shift.proofs.Made.{taken_other}
use Rattle.bfs_shift.proofs.Dropped.{lost_agrees}

not_full : (k : Kind) (b : Bool) → (is_dir k && b) ≡ false → k ≡ Dir → b ≡ false
not_full File b h is = let bad : is_dir File ≡ true = ap is_dir is in absurd (let e : false ≡ true = bad in cc)
not_full Dir b h is = h
not_full Link b h is = let bad : is_dir Link ≡ true = ap is_dir is in absurd (let e : false ≡ true = bad in cc)

-- the shapes of the nodes that are left
left_shapes : (nodes : Nodes) (id q : ℕ) → shapes (remove nodes id) q ≡ taken (shapes nodes) id q
left_shapes nodes id q = ap (option_map shape) (get-remove nat_cmp_total nodes id q) ∙ by_test (eq_by_cmp nat_cmp q id)
  where
    by_test : (t : Bool) → option_map shape (cond t None (get nodes q)) ≡ cond t None (option_map shape (get nodes q))
    by_test true = refl
    by_test false = refl

module _ (s : State) (lists now : Lists) (id : ℕ) (node : Node) (plain : HasPlainNodes s.tree) (there : IsNode s.tree id node) (other : id ≢ s.tree.root) (empty_one : is_full s.tree id node ≡ false) where
  abbrev new : Tree
  new = (without_node s id).tree

  childless : (q : ℕ) (t : Shape) → shapes s.tree.nodes q ≡ Some t → q ≢ s.tree.root → t.parent ≢ id
  childless q t is apart up =
      let n = seen (get s.tree.nodes q) t is in
      let above : n.0.parent ≡ id = ap (λ (u : Shape). u.parent) n.2 ∙ up in
      let d = plain.parents q n.0 n.1 in
      let same : d.0 ≡ node = (let both : Some d.0 ≡ Some node = sym d.1 ∙ ap (get s.tree.nodes) above ∙ there in cc) in
      let directory : node.kind ≡ Dir = ap (λ (m : Node). m.kind) (sym same) ∙ d.2 in
      no-children s.tree id (not_full node.kind (has_children s.tree.root id (entries s.tree.nodes)) empty_one directory) q n.0 n.1 apart above

  pub plain_without : HasPlainNodes (without_node s id).tree
  plain_without = plain-nodes new (subst (Plain s.tree.root) (λ i q. sym (left_shapes s.tree.nodes id q) i) (plain-taken (shapes s.tree.nodes) id s.tree.root (plain-of s.tree plain) other childless))

  changes : ChangesSeat s.tree new id
  changes = record {
    root = refl;
    not_root = other;
    indices = refl;
    kind = λ n m before at. absurd (let both : None ≡ Some m = sym (taken_none s.tree.nodes id) ∙ at in cc);
    others = λ q apart. ap (option_map seat) (taken_other s.tree.nodes id q apart);
    keys = λ q apart index kind. ap (option_and_then (key_in s.tree.root index kind q)) (taken_other s.tree.nodes id q apart);
  }

  pub replaced_agrees : Agrees s.tree lists → LosesNode lists now node.parent id node → Agrees (without_node s id).tree now
  replaced_agrees agrees loses = lost_agrees s.tree new lists now node.parent id node plain plain_without there refl changes (taken_none s.tree.nodes id) refl agrees loses
