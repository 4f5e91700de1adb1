-- The way up from a directory, past nodes that aren't the one that is sought.
use Rattle.std.proofs.Common.{◌≡◌, ◌≢◌, ◌-◌, ℕ, zero, suc, IsTrue, arith, Bool, true, false, Some, refl, sym, ap, ◌∙◌, subst}
use Rattle.std.specs.Prelude.{◌↔◌, ◌&&◌, ◌==◌}
use Rattle.std.specs.List.{list_any}
use Rattle.std.specs.FinMap.{len}
use Rattle.bfs_super.specs.Geometry.{geometry_of}
use Rattle.bfs_super.specs.declared.sup.Super.{Super}
use Rattle.bfs_bitmap.specs.Runs.{Room}
use Rattle.std.specs.Prelude.{List, Option}
use Rattle.bfs_tree.specs.Refusals.{is_inside, line_up}
use Rattle.bfs_tree.specs.Trees.{Node, Tree, IsNode, LeadsTo, at_top, by_parent, is_dir}
use Rattle.bfs_tree.specs.declared.call.Kind.TheVariants.{Dir}
use Rattle.bfs_tree.proofs.Ways.{inside-below}
use Rattle.bfs_shift.specs.Lists.{Lists}
use Rattle.bfs_look.specs.Ready.{IsReady, HasNodeAt}
use Rattle.bfs_look.proofs.Climbing.{HasRootAbove, root_here, root_above}
use Rattle.bfs_look.proofs.Known.{dir_is, node_above, root_within}

same_node : (tree : Tree) (x y : ℕ) (m n : Node) → x ≡ y → IsNode tree x m → IsNode tree y n → m ≡ n
same_node tree x y m n e a b = let both : Some m ≡ Some n = sym a ∙ subst (λ (k : ℕ). IsNode tree k n) (sym e) b in cc

-- where parents lead from a node to another one, it is that one, or they lead there from its parent
goes_up : (tree : Tree) (top at x : ℕ) (n : Node) → x ≡ at → IsNode tree at n → at ≢ top → LeadsTo tree top x → LeadsTo tree top n.parent
goes_up tree top at _ n e is apart at_top = absurd (apart (sym e))
goes_up tree top at _ n e is apart (by_parent x m there up) = subst (λ (k : Node). LeadsTo tree top k.parent) (same_node tree x at m n e there is) up

-- from a node that is its own parent they lead nowhere else
stays : (tree : Tree) (top at x : ℕ) (n : Node) → x ≡ at → IsNode tree at n → n.parent ≡ at → LeadsTo tree top x → at ≡ top
stays tree top at _ n e is own at_top = sym e
stays tree top at _ n e is own (by_parent x m there up) =
    stays tree top at m.parent n (ap (λ (k : Node). k.parent) (same_node tree x at m n e there is) ∙ own) is own up

less_one : (n : ℕ) → n ≢ 0 → suc (n - 1) ≡ n
less_one zero some = absurd (some refl)
less_one (suc n) some = omega arith

-- a way up from a directory has come to this node, past others than the one that is sought, and the root is within so many steps more
pub record IsPassed (tree : Tree) (id from left at : ℕ) : Type 0 where
  pub node : Node
  pub there : IsNode tree at node
  pub within : HasRootAbove tree left at
  pub up : LeadsTo tree id at → LeadsTo tree id from
  pub down : LeadsTo tree id from → LeadsTo tree id at

pub never : {A : Type 0} (b : Bool) → b ≡ false → (A → ⊥) → IsTrue b ↔ A
never {A} b e no_a = ((λ t. let bad : true ≡ false = sym t ∙ e in absurd cc), (λ a. absurd (no_a a)))

module _ (s : Super) (v : Room) (m : ℕ → Option (List ℕ)) (tree : Tree) (lists : Lists) (ready : IsReady (geometry_of s) v m tree lists) where
  pub passing : (id from : ℕ) (n : Node) → IsNode tree from n → IsPassed tree id from (geometry_of s).blocks from
  passing id from n is = record { node = n; there = is; within = root_within s v m tree lists ready from n is; up = λ x. x; down = λ x. x }

  pub passes : (id from left at : ℕ) (p : IsPassed tree id from left at) → at ≢ id → left ≢ 0 → p.node.parent ≢ at → IsPassed tree id from (left - 1) p.node.parent
  passes id from left at p apart some other =
      let above : HasNodeAt tree p.node.parent = node_above s v m tree lists ready at p.node p.there in
      record {
        node = above.0;
        there = above.1;
        within = root_above tree (left - 1) at p.node p.there (λ e. other (own e)) (subst (λ (k : ℕ). HasRootAbove tree k at) (sym (less_one left some)) p.within);
        up = λ x. p.up (by_parent at p.node p.there x);
        down = λ x. goes_up tree id at at p.node refl p.there apart (p.down x);
      }
    where
      own : at ≡ tree.root → p.node.parent ≡ at
      own e = (ready.plain.nodes.own p.node (subst (λ (k : ℕ). IsNode tree k p.node) e p.there)).1 ∙ sym e

  -- it stops at the root
  pub stops : (id from left at : ℕ) (p : IsPassed tree id from left at) → at ≢ id → p.node.parent ≡ at → LeadsTo tree id from → ⊥
  stops id from left at p apart own leads = apart (stays tree id at at p.node refl p.there own (p.down leads))

  pub ends : (id from left at : ℕ) (p : IsPassed tree id from left at) → at ≢ id → left ≡ 0 → LeadsTo tree id from → ⊥
  ends id from left at p apart none leads =
      let e : at ≡ tree.root = root_here tree at (subst (λ (k : ℕ). HasRootAbove tree k at) none p.within) in
      let own : p.node.parent ≡ at = (ready.plain.nodes.own p.node (subst (λ (k : ℕ). IsNode tree k p.node) e p.there)).1 ∙ sym e in
      stops id from left at p apart own leads

  pub comes : (id from left at : ℕ) (p : IsPassed tree id from left at) → at ≡ id → IsTrue true ↔ LeadsTo tree id from
  comes id from left at p e = ((λ _. p.up (subst (λ (k : ℕ). LeadsTo tree k at) e at_top)), (λ _. refl))

-- whether a directory is the node or below it, by whether parents lead there
pub leaf_outside : (tree : Tree) (id d : ℕ) (node : Node) → is_dir node.kind ≡ false → false ≡ is_inside tree id node d
leaf_outside tree id d node e = sym (ap (λ (b : Bool). b && list_any (λ x. x == id) (line_up tree.nodes (len tree.nodes) d)) e)

pub inside_by : (tree : Tree) (id d : ℕ) (node : Node) (b : Bool) → is_dir node.kind ≡ true → IsTrue b ↔ LeadsTo tree id d → b ≡ is_inside tree id node d
inside_by tree id d node b isdir leads = by_cases b (is_inside tree id node d) refl refl
  where
    law : IsTrue (is_inside tree id node d) ↔ ((node.kind ≡ Dir) × LeadsTo tree id d)
    law = inside-below tree id d node

    by_cases : (x y : Bool) → b ≡ x → is_inside tree id node d ≡ y → b ≡ is_inside tree id node d
    by_cases true true e f = e ∙ sym f
    by_cases false false e f = e ∙ sym f
    by_cases true false e f = let bad : true ≡ false = sym (law.1 (dir_is node.kind isdir, leads.0 e)) ∙ f in absurd cc
    by_cases false true e f = let bad : true ≡ false = sym (leads.1 (law.0 f).1) ∙ e in absurd cc
