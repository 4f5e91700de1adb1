-- What a look-up says of every call whose refusals begin as its own do.
use Rattle.std.proofs.Common.{◌≡◌, ℕ, pos, List, [], ◌∷◌, Option, Some, None, Bool, true, false, refl, sym, ap, ◌∙◌, subst}
use Rattle.std.specs.Prelude.{not, IsSomeAnd}
use Rattle.std.specs.FinMap.{get}
use Rattle.bfs_tree.specs.declared.call.Call.TheVariants as calls
use Rattle.bfs_tree.specs.declared.reply.Reply.{Reply}
use Rattle.bfs_tree.specs.declared.reply.Reply.TheVariants as replies
use Rattle.bfs_tree.specs.Refusals.{first, at_node, at_child}
use Rattle.bfs_tree.specs.States.{State}
use Rattle.bfs_tree.specs.Steps.{ByTree, Reads}
use Rattle.bfs_tree.specs.Trees.{Node, IsNode, is_dir, child}
use Rattle.bfs_remove_node.specs.Refused.{found_in, refused_by}
use Rattle.bfs_remove_node.specs.declared.child.Child.{Child}

-- the refusals of a directory and of a child in it, and then the rest
abbrev of_dir : Option (ℕ × Node) → (ℕ → Node → List (Bool × Reply)) → Node → List (Bool × Reply)
of_dir t rest d = (not (is_dir d.kind), replies.NotDir) ∷ at_child t rest

abbrev by_there : Option (ℕ × Node) → (ℕ → Node → List (Bool × Reply)) → Option Node → Option Reply
by_there t rest o = first (at_node o (of_dir t rest))

abbrev none : ℕ → Node → List (Bool × Reply)
none id node = []

-- what refuses a look-up refuses any such call
both_refuse : (o : Option Node) (t : Option (ℕ × Node)) (reply : Reply) (rest : ℕ → Node → List (Bool × Reply)) → by_there t none o ≡ Some reply → by_there t rest o ≡ Some (refused_by reply)
both_refuse None t reply rest e = let same : replies.NotFound ≡ reply = (let b : Some replies.NotFound ≡ Some reply = e in cc) in ap (λ (r : Reply). Some (refused_by r)) same
both_refuse (Some d) t reply rest e = by_kind (is_dir d.kind) e
  where
    by_child : (x : Option (ℕ × Node)) → first (at_child x none) ≡ Some reply → first (at_child x rest) ≡ Some (refused_by reply)
    by_child None e = let same : replies.NotFound ≡ reply = (let b : Some replies.NotFound ≡ Some reply = e in cc) in ap (λ (r : Reply). Some (refused_by r)) same
    by_child (Some x) e = let bad : None ≡ Some reply = e in absurd cc

    by_kind : (b : Bool) → first ((not b, replies.NotDir) ∷ at_child t none) ≡ Some reply → first ((not b, replies.NotDir) ∷ at_child t rest) ≡ Some (refused_by reply)
    by_kind false e = let same : replies.NotDir ≡ reply = (let b : Some replies.NotDir ≡ Some reply = e in cc) in ap (λ (r : Reply). Some (refused_by r)) same
    by_kind true e = by_child t e

-- where a look-up isn't refused, a child is there
answered_child : (o : Option Node) (t : Option (ℕ × Node)) → by_there t none o ≡ None → (x : ℕ × Node) × (t ≡ Some x)
answered_child None t e = let bad : Some replies.NotFound ≡ None = e in absurd cc
answered_child (Some d) t e = by_kind (is_dir d.kind) e
  where
    by_child : (x : Option (ℕ × Node)) → first (at_child x none) ≡ None → (y : ℕ × Node) × (x ≡ Some y)
    by_child None e = let bad : Some replies.NotFound ≡ None = e in absurd cc
    by_child (Some y) e = (y, refl)

    by_kind : (b : Bool) → first ((not b, replies.NotDir) ∷ at_child t none) ≡ None → (y : ℕ × Node) × (t ≡ Some y)
    by_kind false e = let bad : Some replies.NotDir ≡ None = e in absurd cc
    by_kind true e = by_child t e

module _ (s : State) (dir : ℕ) (name : List ℕ) (reply : Reply) (reads : Reads (calls.Lookup dir name) s reply) (nothing : found_in reply ≡ None) where
  pub looked_none : (rest : ℕ → Node → List (Bool × Reply)) → by_there (child s.tree dir name) rest (get s.tree.nodes dir) ≡ Some (refused_by reply)
  looked_none rest = by_turn (reads 0 (pos 0))
    where
      by_turn : ByTree 0 (pos 0) (calls.Lookup dir name) reply s s → by_there (child s.tree dir name) rest (get s.tree.nodes dir) ≡ Some (refused_by reply)
      by_turn (ByTree.refused e same) = both_refuse (get s.tree.nodes dir) (child s.tree dir name) reply rest e
      by_turn (ByTree.answered e a same) =
          let t = answered_child (get s.tree.nodes dir) (child s.tree dir name) e in
          let is : reply ≡ replies.Found t.0.0 t.0.1.kind = subst (λ (o : Option (ℕ × Node)). IsSomeAnd o (λ x. reply ≡ replies.Found x.0 x.1.kind)) t.1 a in
          let at : Child = record { id = t.0.0; kind = t.0.1.kind } in
          let bad : Some at ≡ None = sym (ap found_in is) ∙ nothing in
          absurd cc

  -- in a directory that is there, no child has the name
  pub no_child : (d : Node) → IsNode s.tree dir d → is_dir d.kind ≡ true → child s.tree dir name ≡ None
  no_child d is isdir = by_child (child s.tree dir name) (sym (ap (by_there (child s.tree dir name) none) is ∙ ap (λ (b : Bool). first ((not b, replies.NotDir) ∷ at_child (child s.tree dir name) none)) isdir) ∙ looked_none none)
    where
      by_child : (t : Option (ℕ × Node)) → first (at_child t none) ≡ Some (refused_by reply) → t ≡ None
      by_child None e = refl
      by_child (Some x) e = let bad : None ≡ Some (refused_by reply) = e in absurd cc
