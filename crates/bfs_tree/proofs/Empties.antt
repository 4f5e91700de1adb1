-- The tree of a new volume is plain.
use Rattle.std.proofs.Common.{◌≡◌, inr, ℕ, ℤ, [], Some, None, true, false, cond, refl, ap, sym, ◌∙◌, subst, arith}
use Rattle.std.specs.Prelude.{codes}
use Rattle.std.specs.Ordering.{nat_cmp, eq_by_cmp}
use Rattle.std.specs.Cmp.{nat_cmp_total}
use Rattle.std.specs.Cmp.Lexicographic.{nat_list_cmp_total}
use Rattle.std.specs.FinMap.{get, empty, get-insert, get-empty}
use Rattle.bfs_tree.specs.declared.call.Kind.TheVariants.{Dir}
use Rattle.bfs_tree.specs.Trees.{Node, IsNode, IsDirectory, HasPlainNodes, HasBuiltIn, IsPlain, built_in, LeadsTo, at_top, new_node, empty_tree}

module _ (root : ℕ) (stamp : ℤ) where
  abbrev the_root : Node
  the_root = new_node Dir [] root 493 0 [] stamp

  there : IsNode (empty_tree root stamp) root the_root
  there = get-insert nat_cmp_total empty root the_root root ∙ ap (λ b. cond b (Some the_root) (get (empty {R = nat_cmp}) root)) (same root)
    where
      same : (n : ℕ) → eq_by_cmp nat_cmp n n ≡ true
      same n = grind arith

  only : (id : ℕ) (node : Node) → IsNode (empty_tree root stamp) id node → (id ≡ root) × (node ≡ the_root)
  only id node is =
      let seen : cond (eq_by_cmp nat_cmp id root) (Some the_root) None ≡ Some node =
      ap (λ o. cond (eq_by_cmp nat_cmp id root) (Some the_root) o) (sym (get-empty nat_cmp id)) ∙ sym (get-insert nat_cmp_total empty root the_root id) ∙ is in
      elim (eq_by_cmp nat_cmp id root) as (λ b. eq_by_cmp nat_cmp id root ≡ b → cond b (Some the_root) None ≡ Some node → (id ≡ root) × (node ≡ the_root)) [
        | true ↦ λ tie e. (grind (arith, tie), cc)
        | false ↦ λ _ e. cc
      ] refl seen

  is_dir : IsDirectory (empty_tree root stamp) root
  is_dir = (the_root, there, refl)

  plain-nodes : HasPlainNodes (empty_tree root stamp)
  plain-nodes = record {
    root = is_dir;
    own = λ node is. (ap (λ (n : Node). n.name) (only root node is).1, ap (λ (n : Node). n.parent) (only root node is).1);
    parents = λ id node is. subst (λ (n : Node). IsDirectory (empty_tree root stamp) n.parent) (sym (only id node is).1) is_dir;
    lead = λ id node is. subst (LeadsTo (empty_tree root stamp) root) (sym (only id node is).0) at_top;
    apart = λ a b m n is_a is_b parents names. (only a m is_a).0 ∙ sym (only b n is_b).0;
    named = λ id node is other. absurd (other (only id node is).0);
  }

has-built-in : HasBuiltIn built_in
has-built-in = record {
  by_name = get-insert nat_list_cmp_total _ _ _ (codes "name") ∙ get-insert nat_list_cmp_total _ _ _ (codes "name") ∙ get-insert nat_list_cmp_total _ _ _ (codes "name");
  by_size = get-insert nat_list_cmp_total _ _ _ (codes "size") ∙ get-insert nat_list_cmp_total _ _ _ (codes "size");
  by_time = get-insert nat_list_cmp_total _ _ _ (codes "last_modified");
}

pub empty-plain : (root : ℕ) (stamp : ℤ) → IsPlain (empty_tree root stamp)
empty-plain root stamp = record { nodes = plain-nodes root stamp; indices = inr has-built-in }
