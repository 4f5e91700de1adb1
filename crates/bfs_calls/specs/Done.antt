-- What a call's answer makes of a volume, and why a call isn't answered.
use Rattle.std.specs.Prelude.{◌≡◌, ℕ, ℤ, List, [], Bool, Option}
use Rattle.bfs_super.specs.declared.geometry.Geometry.{Geometry}
use Rattle.bfs_bitmap.specs.Runs.{Room}
use Rattle.bfs_txn.specs.Faults.{Counts}
use Rattle.bfs_node.specs.declared.fault.TreeFault.{TreeFault}
use Rattle.bfs_node.specs.declared.fault.TreeFault.TheVariants as tree
use Rattle.bfs_stream.specs.declared.fault.GrowFault.{GrowFault}
use Rattle.bfs_stream.specs.declared.fault.GrowFault.TheVariants as grow
use Rattle.bfs_stream.specs.Faults.{IsGrowCause}
use Rattle.bfs_stream.specs.Scans.{IsDamage}
use Rattle.bfs_tree.specs.declared.call.Call.{Call}
use Rattle.bfs_tree.specs.declared.reply.Reply.{Reply}
use Rattle.bfs_tree.specs.States.{State}
use Rattle.bfs_tree.specs.Steps.{Writes}
use Rattle.bfs_tree.specs.Trees.{Tree}
use Rattle.bfs_shift.specs.Lists.{Lists, Agrees}
use Rattle.bfs_shift.specs.Work.{IsStepped}

-- A call that gives nothing back was done: its steps have made the volume stand for another tree with the same root, whose lists agree
-- with it, and no block is loose.
pub record IsDone (g : Geometry) (v now : Room) (m : ℕ → Option (List ℕ)) (tree after : Tree) (told : Option (ℕ → Option (List ℕ))) (old new : ℕ → Bool) : Type 0 where
  pub lists : Lists
  pub step : IsStepped g v now m tree after lists [] told old new
  pub agrees : Agrees after lists
  pub root : after.root ≡ tree.root

-- the answer and the tree since are those of the plain tree, in every state that has this tree
abbrev pub AnswersAs : ℤ → Call → Reply → Tree → Tree → Type 0
AnswersAs stamp call reply tree after = (s : State) → s.tree ≡ tree → (t : State) × (t.tree ≡ after) × Writes stamp call reply s t

-- A call that gives nothing back was answered, and so it was done.
pub record IsDoneSo (g : Geometry) (v now : Room) (m : ℕ → Option (List ℕ)) (tree : Tree) (stamp : ℤ) (call : Call) (reply : Reply) (told : Option (ℕ → Option (List ℕ))) (old new : ℕ → Bool) : Type 0 where
  pub after : Tree
  pub done : IsDone g v now m tree after told old new
  pub answers : AnswersAs stamp call reply tree after

-- Why a call isn't answered, of a volume that is told and stands for a tree: a block could not be had, or a run of blocks or a place in
-- the double indirect level of a stream, or there is no memory. No block is damaged.
abbrev pub IsUnanswered : TreeFault GrowFault → Type 0
IsUnanswered tree.Exists = ⊥
IsUnanswered tree.Absent = ⊥
IsUnanswered (tree.Damaged page sort) = ⊥
IsUnanswered (tree.Pages (grow.NoRun wanted free)) = Unit {0}
IsUnanswered (tree.Pages (grow.Full room)) = Unit {0}
IsUnanswered (tree.Pages (grow.Block fault)) = ¬ IsDamage fault
IsUnanswered tree.NoMemory = Unit {0}

-- the cause of it in what lies below
abbrev pub HasAnswerCause : Counts → Counts → TreeFault GrowFault → Type 0
HasAnswerCause old new tree.Exists = ⊥
HasAnswerCause old new tree.Absent = ⊥
HasAnswerCause old new (tree.Damaged page sort) = Unit {0}
HasAnswerCause old new (tree.Pages fault) = IsGrowCause 1 old new fault
HasAnswerCause old new tree.NoMemory = Unit {0}
