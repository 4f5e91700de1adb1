-- Whether a call takes the place of another node.
use Rattle.std.proofs.Common.{◌≡◌, ◌∙◌, ℕ, pos, List, [], ◌∷◌, Bool, true, false, Option, Some, None, sym, ap, subst}
use Rattle.std.specs.Prelude.{is_some, not, IsSomeAnd}
use Rattle.std.specs.FinMap.{get}
use Rattle.bfs_count.specs.Counts.{has_place, replaces}
use Rattle.bfs_node.specs.declared.fault.TreeFault.{TreeFault}
use Rattle.bfs_node.specs.declared.fault.TreeFault.TheVariants as tree
use Rattle.bfs_stream.specs.declared.fault.GrowFault.{GrowFault}
use Rattle.bfs_stream.specs.declared.fault.GrowFault.TheVariants as grow
use Rattle.bfs_txn.specs.declared.fault.BlockFault.{BlockFault}
use Rattle.bfs_txn.specs.declared.fault.BlockFault.TheVariants as block
use Rattle.bfs_tree.specs.declared.call.Call.{Call}
use Rattle.bfs_tree.specs.declared.call.Call.TheVariants as calls
use Rattle.bfs_tree.specs.declared.reply.Reply.{Reply}
use Rattle.bfs_tree.specs.declared.reply.Reply.TheVariants as replies
use Rattle.bfs_tree.specs.Refusals.{at_child, at_node, first, own_refusal}
use Rattle.bfs_tree.specs.States.{State}
use Rattle.bfs_tree.specs.Steps.{ByTree, Reads, is_done}
use Rattle.bfs_tree.specs.Trees.{Node, Tree, child, is_dir}
use Rattle.bfs_maps.specs.Refused.{IsUndone}
use Rattle.bfs_calls.specs.Done.{IsUnanswered}
use Rattle.bfs_answers.proofs.Renaming.{may_be}
use Rattle.bfs_replies.specs.Replaced.{FindsPlace, IsThere, is_found}
use Rattle.bfs_replies.specs.Replies.{reply_to, reply_to_block}

-- what a look-up answers in a directory says whether there is a child of this name
module _ (s : State) (dir : ℕ) (name : List ℕ) where
  -- the one refusal that is left in a directory
  absent : (c : Option (ℕ × Node)) (reply : Reply) → first (at_child c (λ id node. [])) ≡ Some reply → is_found reply ≡ is_some c
  absent None reply is = let e : replies.NotFound ≡ reply = cc in ap is_found (sym e)
  absent (Some e) reply is = absurd cc

  abbrev below : Node → List (Bool × Reply)
  below d = (not (is_dir d.kind), replies.NotDir) ∷ at_child (child s.tree dir name) (λ id node. [])

  refused_there : (d : Node) (reply : Reply) → get s.tree.nodes dir ≡ Some d → is_dir d.kind ≡ true → own_refusal (calls.Lookup dir name) s ≡ Some reply → is_found reply ≡ is_some (child s.tree dir name)
  refused_there d reply at directory refused = absent (child s.tree dir name) reply
      (ap (λ (b : Bool). first ((not b, replies.NotDir) ∷ at_child (child s.tree dir name) (λ id node. []))) (sym directory) ∙ ap (λ (o : Option Node). first (at_node o below)) (sym at) ∙ refused)

  there : (c : Option (ℕ × Node)) (reply : Reply) → IsSomeAnd c (λ e. reply ≡ replies.Found e.0 e.1.kind) → is_found reply ≡ is_some c
  there None reply answer = absurd answer
  there (Some e) reply answer = ap is_found answer

pub looked_there : (s : State) (tree : Tree) (dir : ℕ) (name : List ℕ) (reply : Reply) → s.tree ≡ tree → Reads (calls.Lookup dir name) s reply → IsThere tree dir name (is_found reply)
looked_there s tree dir name reply same reads = subst (λ (t : Tree). IsThere t dir name (is_found reply)) same (λ d at directory. by_turn d at directory (reads 0 (pos 0)))
  where
    by_turn : (d : Node) → get s.tree.nodes dir ≡ Some d → is_dir d.kind ≡ true → ByTree 0 (pos 0) (calls.Lookup dir name) reply s s → is_found reply ≡ is_some (child s.tree dir name)
    by_turn d at directory (ByTree.refused refused stays) = refused_there s dir name d reply at directory refused
    by_turn d at directory (ByTree.answered fine answer is) = there s dir name (child s.tree dir name) reply answer

-- what is found at the place of a Rename says whether it takes the place of another node
pub finds_place : (tree : Tree) (call : Call) (found : Bool) (dir : ℕ) (name : List ℕ) (to_dir : ℕ) (to_name : List ℕ) → call ≡ calls.Rename dir name to_dir to_name → IsThere tree to_dir to_name found
    → (replaced : Bool) → ((t : Tree) → found ≡ has_place t call → replaced ≡ replaces t call) → FindsPlace tree call replaced
finds_place tree call found dir name to_dir to_name is there replaced says = λ s same fine.
    let may = may_be s dir name to_dir to_name (subst (λ (c : Call). own_refusal c s ≡ None) is fine) in
    let at : get tree.nodes to_dir ≡ Some may.t = subst (λ (t : Tree). get t.nodes to_dir ≡ Some may.t) same may.to_there in
    says tree (there may.t at (ap is_dir may.to_kind) ∙ ap (has_place tree) (sym is))

-- a fault of a step says of no call that it was done
pub step_not_done : (f : TreeFault GrowFault) (r : Reply) → reply_to f ≡ Some r → is_done r ≡ true → ⊥
step_not_done (tree.Pages (grow.Block f)) r is done = by_block f r is done
  where
    by_block : (f : BlockFault) (r : Reply) → reply_to_block f ≡ Some r → is_done r ≡ true → ⊥
    by_block (block.Disk before after) r is done = let e : replies.DiskFault before after false ≡ r = cc in let bad : false ≡ true = ap is_done e ∙ done in cc
    by_block (block.Stopped durable faults) r is done = let e : replies.Stopped durable faults ≡ r = cc in let bad : false ≡ true = ap is_done e ∙ done in cc
    by_block (block.Damaged b) r is done = let e : replies.Damaged b ≡ r = cc in let bad : false ≡ true = ap is_done e ∙ done in cc
    by_block block.NoMemory r is done = absurd cc
step_not_done tree.Exists r is done = absurd cc
step_not_done tree.Absent r is done = absurd cc
step_not_done (tree.Damaged page sort) r is done = absurd cc
step_not_done (tree.Pages (grow.NoRun wanted free)) r is done = absurd cc
step_not_done (tree.Pages (grow.Full room)) r is done = absurd cc
step_not_done tree.NoMemory r is done = absurd cc

-- what a look-up isn't answered for is no answer of a call
pub undone_unanswered : (f : TreeFault GrowFault) → IsUndone f → IsUnanswered f
undone_unanswered tree.Exists undone = undone
undone_unanswered tree.Absent undone = undone
undone_unanswered (tree.Damaged page sort) undone = undone
undone_unanswered (tree.Pages (grow.NoRun wanted free)) undone = tt
undone_unanswered (tree.Pages (grow.Full room)) undone = tt
undone_unanswered (tree.Pages (grow.Block (block.Damaged b))) undone = undone
undone_unanswered (tree.Pages (grow.Block (block.Disk before after))) undone = λ d. d
undone_unanswered (tree.Pages (grow.Block (block.Stopped durable faults))) undone = λ d. d
undone_unanswered (tree.Pages (grow.Block block.NoMemory)) undone = λ d. d
undone_unanswered tree.NoMemory undone = tt
