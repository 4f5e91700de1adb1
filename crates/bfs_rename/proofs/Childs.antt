-- What a look-up says of the node that is renamed, and of the one that it replaces.
use Rattle.std.proofs.Common.{◌≡◌, ◌≢◌, ◌+◌, ℕ, List, Option, Some, None, Bool, true, false, cond, refl, sym, ap, ◌∙◌, subst, arith}
use Rattle.std.specs.Prelude.{◌==◌, min, IfSome}
use Rattle.std.specs.FinMap.{entries}
use Rattle.bfs_tree.specs.Answers.{rows_of_indices}
use Rattle.bfs_tree.specs.Refusals.{replaced}
use Rattle.bfs_tree.specs.Steps.{Reads}
use Rattle.bfs_tree.specs.Trees.{Node, Tree, IsNode, is_dir, child}
use Rattle.bfs_tree.specs.declared.call.Call.TheVariants as calls
use Rattle.bfs_tree.specs.declared.call.Kind.TheVariants.{Dir}
use Rattle.bfs_tree.specs.declared.reply.Reply.{Reply}
use Rattle.bfs_tree.proofs.Members.{child-there}
use Rattle.bfs_sound.specs.Volumes.{Volume}
use Rattle.bfs_sound.specs.Owners.{node_owners}
use Rattle.bfs_calls.specs.Allowances.{left_alone}
use Rattle.bfs_remove_node.specs.Counted.{listed_among}
use Rattle.bfs_remove_node.specs.Refused.{found_in}
use Rattle.bfs_remove_node.specs.declared.child.Child.{Child}
use Rattle.bfs_remove_node.proofs.Refusing.{looked_some}
use Rattle.bfs_remove_node.proofs.Sought.{plain_of}
use Rattle.bfs_remove_node.specs.Removed.{IsOf}
use Rattle.bfs_rename.specs.Counted.{AreOf, IsLeaving, IsProperNode}
use Rattle.bfs_remove_node.proofs.Looking.{no_child}

same_is : (a b : ℕ) → a ≡ b → (a == b) ≡ true
same_is a b e = grind (arith, e)

not_same : (a b : ℕ) → a ≢ b → (a == b) ≡ false
not_same a b other = grind (arith, other)

module _ (tree : Tree) (dir : ℕ) (name : List ℕ) (reply : Reply) (reads : Reads (calls.Lookup dir name) (plain_of tree) reply) where
  pub other_none : (id : ℕ) (d : Node) → IsNode tree dir d → d.kind ≡ Dir → found_in reply ≡ None → AreOf (replaced id (child tree dir name)) None
  other_none id d is kind nothing =
      subst (λ (o : Option (ℕ × Node)). AreOf (replaced id o) None) (sym (no_child (plain_of tree) dir name reply reads nothing d is (ap is_dir kind))) refl

  pub other_same : (id : ℕ) (c : Child) → found_in reply ≡ Some c → c.id ≡ id → AreOf (replaced id (child tree dir name)) None
  other_same id c found same =
      let f = looked_some (plain_of tree) dir name reply reads c found in
      subst (λ (o : Option (ℕ × Node)). AreOf (replaced id o) None) (sym f.child_is)
      (subst (λ (b : Bool). AreOf (cond b None (Some (c.id, f.node))) None) (sym (same_is c.id id same)) refl)

  pub other_some : (id : ℕ) (c : Child) → found_in reply ≡ Some c → c.id ≢ id → AreOf (replaced id (child tree dir name)) (Some c)
  other_some id c found apart =
      let f = looked_some (plain_of tree) dir name reply reads c found in
      subst (λ (o : Option (ℕ × Node)). AreOf (replaced id o) (Some c)) (sym f.child_is)
      (subst (λ (b : Bool). AreOf (cond b None (Some (c.id, f.node))) (Some c)) (sym (not_same c.id id apart)) (record { id = refl; kind = f.kind_is }))

-- what was found is there
pub is_there : (o : Option (ℕ × Node)) (c : Child) → AreOf o (Some c) → (e : ℕ × Node) × (o ≡ Some e) × IsOf e c
is_there None c of = let bad : Some c ≡ None = of in absurd cc
is_there (Some e) c of = (e, refl, of)

pub node_of : (tree : Tree) (o : Option (ℕ × Node)) (e : ℕ × Node) (c : Child) → o ≡ Some e → IsOf e c → IfSome o (λ x. IsNode tree x.0 x.1) → IsNode tree c.id e.1
node_of tree o e c is of node =
    subst (λ (k : ℕ). IsNode tree k e.1) (sym of.id) (subst (λ (x : Option (ℕ × Node)). IfSome x (λ y. IsNode tree y.0 y.1)) is node)

pub leaving_some : (v : Volume) (tree : Tree) (built most listed blocks : ℕ) (o : Option (ℕ × Node)) (e : ℕ × Node) (c : Child) → o ≡ Some e → IsOf e c
    → listed ≡ listed_among tree c.id (rows_of_indices (entries tree.indices)) → blocks ≡ min (left_alone v (node_owners v (c.id, e.1))) most
    → IsLeaving v tree built most o (record { rows = 1 + built + listed; blocks = blocks })
leaving_some v tree built most listed blocks o e c is of many left = subst (λ (x : Option (ℕ × Node)). IsLeaving v tree built most x (record { rows = 1 + built + listed; blocks = blocks })) (sym is) (record {
  rows = ap (λ (k : ℕ). 1 + built + k) (many ∙ ap (λ (k : ℕ). listed_among tree k (rows_of_indices (entries tree.indices))) of.id);
  blocks = left ∙ ap (λ (k : ℕ). min (left_alone v (node_owners v (k, e.1))) most) of.id;
})

-- the node that is replaced has the name
pub replaced_is : (id : ℕ) (o : Option (ℕ × Node)) (e : ℕ × Node) → replaced id o ≡ Some e → (o ≡ Some e) × (e.0 ≢ id)
replaced_is id None e is = let bad : None ≡ Some e = is in absurd cc
replaced_is id (Some x) e is = by_test (x.0 == id) refl is
  where
    by_test : (b : Bool) → (x.0 == id) ≡ b → cond b None (Some x) ≡ Some e → (Some x ≡ Some e) × (e.0 ≢ id)
    by_test true t f = let bad : None ≡ Some e = f in absurd cc
    by_test false t f = (f, λ same. let one : x ≡ e = (let both : Some x ≡ Some e = f in cc) in let bad : true ≡ false = sym (same_is x.0 id (ap (λ (y : ℕ × Node). y.0) one ∙ same)) ∙ t in absurd cc)

pub nodes_there : (tree : Tree) (id to_dir : ℕ) (to_name : List ℕ) → IfSome (replaced id (child tree to_dir to_name)) (λ e. IsNode tree e.0 e.1)
nodes_there tree id to_dir to_name = by_node (replaced id (child tree to_dir to_name)) refl
  where
    by_node : (o : Option (ℕ × Node)) → replaced id (child tree to_dir to_name) ≡ o → IfSome o (λ e. IsNode tree e.0 e.1)
    by_node None e = tt
    by_node (Some x) e = (child-there tree to_dir to_name x (replaced_is id (child tree to_dir to_name) x e).0).0

pub proper : (tree : Tree) (id to_dir : ℕ) (to_name : List ℕ) (o : Option Child) → AreOf (replaced id (child tree to_dir to_name)) o → IfSome o (λ c. IsProperNode tree c.id)
proper tree id to_dir to_name None of = tt
proper tree id to_dir to_name (Some c) of =
    let t = is_there (replaced id (child tree to_dir to_name)) c of in
    let there = child-there tree to_dir to_name t.0 (replaced_is id (child tree to_dir to_name) t.0 t.1).0 in
    (t.0.1, subst (λ (k : ℕ). IsNode tree k t.0.1) (sym t.2.id) there.0, (λ root. there.1 (sym t.2.id ∙ root)))
