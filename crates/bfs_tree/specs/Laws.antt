-- What is true of steps and histories, whatever keeps them.
use Rattle.std.specs.Prelude.{◌≡◌, ◌⊎◌, ◌↔◌, ◌<ℤ◌, List, [], ◌∷◌, ◌++◌, Some, IsTrue, ℕ, ℤ}
use Rattle.std.specs.List.{All}
use Rattle.std.specs.FinMap.{empty}
use Rattle.bfs_tree.specs.declared.reply.Reply.{Reply}
use Rattle.bfs_tree.specs.declared.reply.Entry.{Entry}
use Rattle.bfs_tree.specs.declared.call.Kind.TheVariants.{Dir}
use Rattle.bfs_tree.specs.Trees.{Tree, Node, LeadsTo, HasBuiltIn, IsPlain, empty_tree}
use Rattle.bfs_tree.specs.States.{State}
use Rattle.bfs_tree.specs.Refusals.{own_refusal, is_inside}
use Rattle.bfs_tree.specs.Steps.{Step, next, is_by_disk}
use Rattle.bfs_tree.specs.Histories.{Mounted, Follows, Legal, after, drawn, last_stamp}

-- the entry and the state before it determine the state after it
abbrev pub StateIsDetermined : Type 0
StateIsDetermined = (old new : State) (entry : Entry) → Step old entry new → new ≡ next old entry

-- where an own refusal's condition holds, the first is the only reply but a fault of the disk, and the state stays
abbrev pub RefusalIsUnique : Type 0
RefusalIsUnique = (old new : State) (entry : Entry) (refusal : Reply) → own_refusal entry.call old ≡ Some refusal → Step old entry new
    → ((entry.reply ≡ refusal) ⊎ IsTrue (is_by_disk entry.reply)) × (new ≡ old)

-- a legal history goes on by an entry that may follow it
abbrev pub LegalGoesOn : Type 0
LegalGoesOn = (t0 : Mounted) (history : List Entry) (entry : Entry) → Legal t0 history → Follows t0 history entry → Legal t0 (history ++ entry ∷ [])

-- what a legal history begins with is legal
abbrev pub PrefixIsLegal : Type 0
PrefixIsLegal = (t0 : Mounted) (history more : List Entry) → Legal t0 (history ++ more) → Legal t0 history

-- the tree of a new volume is plain
abbrev pub EmptyIsPlain : Type 0
EmptyIsPlain = (root : ℕ) (stamp : ℤ) → IsPlain (empty_tree root stamp)

-- what Inside asks of the tree: the node is a directory, and it stands on the way up from the other one
abbrev pub InsideIsBelow : Type 0
InsideIsBelow = (tree : Tree) (id d : ℕ) (node : Node) → IsTrue (is_inside tree id node d) ↔ ((node.kind ≡ Dir) × LeadsTo tree id d)

-- a step keeps a tree plain
abbrev pub StepKeepsPlain : Type 0
StepKeepsPlain = (old new : State) (entry : Entry) → IsPlain old.tree → Step old entry new → IsPlain new.tree

-- a step keeps the built-in indices where they are there, and makes none where there is none
abbrev pub StepKeepsIndices : Type 0
StepKeepsIndices = (old new : State) (entry : Entry) → Step old entry new → (HasBuiltIn old.tree.indices → HasBuiltIn new.tree.indices) × (old.tree.indices ≡ empty → new.tree.indices ≡ empty)

-- the tree is plain after all that a legal history begins with
abbrev pub HistoryKeepsPlain : Type 0
HistoryKeepsPlain = (t0 : Mounted) (history more : List Entry) → IsPlain t0.tree → Legal t0 (history ++ more) → IsPlain (after t0 history)

-- a stamp that is drawn after a legal history is above all of its stamps
abbrev pub DrawnIsLater : Type 0
DrawnIsLater = (t0 : Mounted) (history : List Entry) (now : ℕ) → Legal t0 history → All (λ e. e.stamp <ℤ drawn (last_stamp history) now) history
