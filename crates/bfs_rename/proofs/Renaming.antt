-- The refusals of a call that renames a node, and what the call has found where none holds.
use Rattle.std.proofs.Common.{◌≡◌, ◌≢◌, ℕ, List, ◌∷◌, Option, Some, None, Bool, true, false, cond, refl, ap, ◌∙◌, arith}
use Rattle.std.specs.Prelude.{not, ◌==◌, IfSome}
use Rattle.std.specs.FinMap.{get}
use Rattle.bfs_tree.specs.declared.call.Call.TheVariants.{Rename}
use Rattle.bfs_tree.specs.declared.call.Kind.{Kind}
use Rattle.bfs_tree.specs.declared.reply.Reply.{Reply}
use Rattle.bfs_tree.specs.declared.reply.Reply.TheVariants as replies
use Rattle.bfs_tree.specs.Names.{is_bad_name}
use Rattle.bfs_tree.specs.Refusals.{own_refusal, first, at_node, at_child, at_replaced, held, is_full, is_inside, is_one_dir, replaced}
use Rattle.bfs_tree.specs.States.{State, conflict}
use Rattle.bfs_tree.specs.Trees.{Node, IsNode, is_dir, child}
use Rattle.bfs_look.proofs.Known.{dir_is}
use Rattle.bfs_rename.specs.Refused.{over_refusals, into_refusals}
use Rattle.bfs_rename.specs.Renamed.{MayBeRenamed, MayBeReplaced}

same_is : (a b : ℕ) → a ≡ b → (a == b) ≡ true
same_is a b e = grind (arith, e)

not_same : (a b : ℕ) → a ≢ b → (a == b) ≡ false
not_same a b other = grind (arith, other)

module _ (s : State) (id : ℕ) (kind : Kind) (to_dir : ℕ) (to_name : List ℕ) where
  -- what refuses the call by a node that would be replaced
  abbrev by_other : ℕ → Node → List (Bool × Reply)
  by_other there other = (is_one_dir kind other.kind, replies.Exists) ∷ (is_full s.tree there other, replies.NotEmpty) ∷ held (conflict s.holds there true)

  -- where no node has the name
  pub over_none : child s.tree to_dir to_name ≡ None → first (over_refusals s id kind to_dir to_name) ≡ None
  over_none e = ap (λ (o : Option (ℕ × Node)). first (at_replaced (replaced id o) by_other)) e

  -- where the node itself has it
  pub over_itself : (there : ℕ) (other : Node) → child s.tree to_dir to_name ≡ Some (there, other) → there ≡ id → first (over_refusals s id kind to_dir to_name) ≡ None
  over_itself there other e same =
      ap (λ (o : Option (ℕ × Node)). first (at_replaced (replaced id o) by_other)) e
      ∙ ap (λ (b : Bool). first (at_replaced (cond b None (Some (there, other))) by_other)) (same_is there id same)

  -- where another has it
  pub over_other : (there : ℕ) (other : Node) → child s.tree to_dir to_name ≡ Some (there, other) → there ≢ id → first (over_refusals s id kind to_dir to_name) ≡ first (by_other there other)
  over_other there other e apart =
      ap (λ (o : Option (ℕ × Node)). first (at_replaced (replaced id o) by_other)) e
      ∙ ap (λ (b : Bool). first (at_replaced (cond b None (Some (there, other))) by_other)) (not_same there id apart)

pub over_kind : (s : State) (id : ℕ) (a b : Kind) (to_dir : ℕ) (to_name : List ℕ) → a ≡ b → first (over_refusals s id a to_dir to_name) ≡ first (over_refusals s id b to_dir to_name)
over_kind s id a b to_dir to_name e = ap (λ (k : Kind). first (over_refusals s id k to_dir to_name)) e

module _ (s : State) (id : ℕ) (n : Node) (to_dir : ℕ) (to_name : List ℕ) where
  abbrev by_place : Node → List (Bool × Reply)
  by_place t = (not (is_dir t.kind), replies.NotDir) ∷ (is_bad_name to_name, replies.NameBad) ∷ (is_inside s.tree id n to_dir, replies.Inside) ∷ over_refusals s id n.kind to_dir to_name

  pub into_absent : get s.tree.nodes to_dir ≡ None → first (into_refusals s id n to_dir to_name) ≡ Some replies.NotFound
  into_absent e = ap (λ (o : Option Node). first (at_node o by_place)) e

  abbrev by_kind : Bool → Option Reply
  by_kind b = first ((not b, replies.NotDir) ∷ (is_bad_name to_name, replies.NameBad) ∷ (is_inside s.tree id n to_dir, replies.Inside) ∷ over_refusals s id n.kind to_dir to_name)

  abbrev by_name : Bool → Bool → Option Reply
  by_name bad inside = first ((bad, replies.NameBad) ∷ (inside, replies.Inside) ∷ over_refusals s id n.kind to_dir to_name)

  module _ (t : Node) (is : IsNode s.tree to_dir t) where
    into_there : (b : Bool) → is_dir t.kind ≡ b → first (into_refusals s id n to_dir to_name) ≡ by_kind b
    into_there b e = ap (λ (o : Option Node). first (at_node o by_place)) is ∙ ap by_kind e

    pub into_leaf : is_dir t.kind ≡ false → first (into_refusals s id n to_dir to_name) ≡ Some replies.NotDir
    into_leaf e = into_there false e

    pub into_dir : (bad inside : Bool) → is_dir t.kind ≡ true → is_bad_name to_name ≡ bad → is_inside s.tree id n to_dir ≡ inside → first (into_refusals s id n to_dir to_name) ≡ by_name bad inside
    into_dir bad inside e b i = into_there true e ∙ ap (λ (x : Bool). by_name x (is_inside s.tree id n to_dir)) b ∙ ap (by_name bad) i

    pub into_bad : is_dir t.kind ≡ true → is_bad_name to_name ≡ true → first (into_refusals s id n to_dir to_name) ≡ Some replies.NameBad
    into_bad e b = into_there true e ∙ ap (λ (x : Bool). by_name x (is_inside s.tree id n to_dir)) b

module _ (s : State) (dir : ℕ) (name : List ℕ) (to_dir : ℕ) (to_name : List ℕ) where
  abbrev pub rest : ℕ → Node → List (Bool × Reply)
  rest id node = into_refusals s id node to_dir to_name

  pub here : (d : Node) → IsNode s.tree dir d → is_dir d.kind ≡ true → (id : ℕ) (node : Node) → child s.tree dir name ≡ Some (id, node) → own_refusal (Rename dir name to_dir to_name) s ≡ first (rest id node)
  here d is isdir id node found =
      ap (λ (o : Option Node). first (at_node o (λ (x : Node). (not (is_dir x.kind), replies.NotDir) ∷ at_child (child s.tree dir name) rest))) is
      ∙ ap (λ (b : Bool). first ((not b, replies.NotDir) ∷ at_child (child s.tree dir name) rest)) isdir
      ∙ ap (λ (o : Option (ℕ × Node)). first (at_child o rest)) found

  -- ---- where there is no refusal

  -- the first condition doesn't hold, and the rest doesn't refuse
  passed : (b : Bool) (reply : Reply) (more : List (Bool × Reply)) → first ((b, reply) ∷ more) ≡ None → (b ≡ false) × (first more ≡ None)
  passed false reply more e = (refl, e)
  passed true reply more e = let bad : Some reply ≡ None = e in absurd cc

  over_passed : (id : ℕ) (kind : Kind) (o : Option (ℕ × Node)) → first (at_replaced o (by_other s id kind to_dir to_name)) ≡ None → IfSome o (MayBeReplaced s.tree kind)
  over_passed id kind None e = tt
  over_passed id kind (Some x) e =
      let one = passed (is_one_dir kind x.1.kind) replies.Exists ((is_full s.tree x.0 x.1, replies.NotEmpty) ∷ held (conflict s.holds x.0 true)) e in
      record { alike = one.0; empty = (passed (is_full s.tree x.0 x.1) replies.NotEmpty (held (conflict s.holds x.0 true)) one.1).0 }

  into_passed : (d : Node) → IsNode s.tree dir d → is_dir d.kind ≡ true → (x : ℕ × Node) → child s.tree dir name ≡ Some x → (o : Option Node) → get s.tree.nodes to_dir ≡ o
      → first (at_node o (by_place s x.0 x.1 to_dir to_name)) ≡ None → MayBeRenamed s.tree dir name to_dir to_name
  into_passed d is k x found None e f = let bad : Some replies.NotFound ≡ None = f in absurd cc
  into_passed d is k x found (Some t) e f =
      let one = passed (not (is_dir t.kind)) replies.NotDir ((is_bad_name to_name, replies.NameBad) ∷ (is_inside s.tree x.0 x.1 to_dir, replies.Inside) ∷ over_refusals s x.0 x.1.kind to_dir to_name) f in
      let two = passed (is_bad_name to_name) replies.NameBad ((is_inside s.tree x.0 x.1 to_dir, replies.Inside) ∷ over_refusals s x.0 x.1.kind to_dir to_name) one.1 in
      let three = passed (is_inside s.tree x.0 x.1 to_dir) replies.Inside (over_refusals s x.0 x.1.kind to_dir to_name) two.1 in
      record {
        d = d;
        there = is;
        dir_kind = dir_is d.kind k;
        id = x.0;
        node = x.1;
        child_is = found;
        t = t;
        to_there = e;
        to_kind = dir_is t.kind (not_false (is_dir t.kind) one.0);
        good_name = two.0;
        outside = three.0;
        over = over_passed x.0 x.1.kind (replaced x.0 (child s.tree to_dir to_name)) three.1;
      }
    where
      not_false : (b : Bool) → not b ≡ false → b ≡ true
      not_false true e = refl
      not_false false e = let bad : true ≡ false = e in absurd cc

  child_passed : (d : Node) → IsNode s.tree dir d → is_dir d.kind ≡ true → (t : Option (ℕ × Node)) → child s.tree dir name ≡ t → first (at_child t rest) ≡ None → MayBeRenamed s.tree dir name to_dir to_name
  child_passed d is k None c e = let bad : Some replies.NotFound ≡ None = e in absurd cc
  child_passed d is k (Some x) c e = into_passed d is k x c (get s.tree.nodes to_dir) refl e

  kind_passed : (d : Node) → IsNode s.tree dir d → (b : Bool) → is_dir d.kind ≡ b → first ((not b, replies.NotDir) ∷ at_child (child s.tree dir name) rest) ≡ None → MayBeRenamed s.tree dir name to_dir to_name
  kind_passed d is false k e = let bad : Some replies.NotDir ≡ None = e in absurd cc
  kind_passed d is true k e = child_passed d is k (child s.tree dir name) refl e

  node_passed : (o : Option Node) → get s.tree.nodes dir ≡ o → first (at_node o (λ (x : Node). (not (is_dir x.kind), replies.NotDir) ∷ at_child (child s.tree dir name) rest)) ≡ None → MayBeRenamed s.tree dir name to_dir to_name
  node_passed None is e = let bad : Some replies.NotFound ≡ None = e in absurd cc
  node_passed (Some d) is e = kind_passed d is (is_dir d.kind) refl e

  pub may_be : own_refusal (Rename dir name to_dir to_name) s ≡ None → MayBeRenamed s.tree dir name to_dir to_name
  may_be fine = node_passed (get s.tree.nodes dir) refl fine
