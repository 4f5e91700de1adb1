-- What a call's answer makes of a volume, and when its changes may be kept.
use Rattle.std.specs.Prelude.{◌≡◌, ℕ, ℤ, List, [], length, max, Bool, Option, Some}
use Rattle.bfs_super.specs.declared.geometry.Geometry.{Geometry}
use Rattle.bfs_super.specs.Conditions.{ceil}
use Rattle.bfs_bitmap.specs.Runs.{Room, IsSettled}
use Rattle.bfs_tree.specs.declared.call.Call.{Call}
use Rattle.bfs_tree.specs.declared.call.Call.TheVariants as calls
use Rattle.bfs_tree.specs.declared.reply.Reply.{Reply}
use Rattle.bfs_tree.specs.declared.state.Hold.{Hold}
use Rattle.bfs_tree.specs.States.{State}
use Rattle.bfs_tree.specs.Steps.{ByTree}
use Rattle.bfs_tree.specs.Trees.{Tree}
use Rattle.bfs_calls.specs.Done.{IsDoneSo}
use Rattle.bfs_look.specs.Ready.{IsReady}
use Rattle.bfs_leave.specs.Leaving.{IsLeft}
use Rattle.bfs_shift.specs.Lists.{Lists, Agrees}
use Rattle.bfs_shift.specs.Shifts.{volume_in}
use Rattle.bfs_answers.specs.Called.{IsCalled}
use Rattle.bfs_answers.specs.Files.{KeepsBlocks}

-- the answer and the tree since are those of the plain tree, in every state that has this tree and these holds, whatever the session
abbrev pub AnswersIn : ℤ → Call → Reply → Tree → List Hold → Tree → Type 0
AnswersIn stamp call reply tree holds after = (s : State) → s.tree ≡ tree → s.holds ≡ holds → (session : ℕ) → (t : State) × (t.tree ≡ after) × ByTree session stamp call reply s t

-- A call was answered: what is told now is what the call has made of the volume, and the answer and the tree since are those of the plain
-- tree, in every state that has this tree and these holds; and files have kept their blocks.
pub record IsAnswered (g : Geometry) (v now : Room) (m : ℕ → Option (List ℕ)) (tree : Tree) (holds : List Hold) (stamp : ℤ) (call : Call) (reply : Reply) (told : Option (ℕ → Option (List ℕ))) (old new : ℕ → Bool) : Type 0 where
  pub map : ℕ → Option (List ℕ)
  pub is : told ≡ Some map
  pub after : Tree
  pub called : IsCalled g v now m map tree after old new
  pub by_tree : AnswersIn stamp call reply tree holds after
  pub blocks : KeepsBlocks (volume_in g m) (volume_in g map) tree after call

-- the blocks that a call asks for at once, at most, where blocks have so many bytes: those of an attribute, or those of a first attribute
-- directory, which a longer name of a node may need too, and one in other calls
abbrev pub asked : ℕ → Call → ℕ
asked size (calls.AttrWrite id name kind bytes) = max 1 (max (ceil 2048 size) (ceil (length bytes) size))
asked size (calls.Rename dir name to_dir to_name) = max 1 (ceil 2048 size)
asked size _ = 1

-- A call that gives nothing back and was answered is answered as a space asks it.
abbrev pub DoneIsAnswered : Type 0
DoneIsAnswered = (g : Geometry) (v now : Room) (m : ℕ → Option (List ℕ)) (tree : Tree) (lists : Lists) (holds : List Hold) (stamp : ℤ) (call : Call) (reply : Reply) (told : Option (ℕ → Option (List ℕ))) (old new : ℕ → Bool)
    → IsReady g v m tree lists → IsDoneSo g v now m tree stamp call reply told old new → IsAnswered g v now m tree holds stamp call reply told old new

-- And so is one that may have given blocks back.
abbrev pub LeftIsAnswered : Type 0
LeftIsAnswered = (g : Geometry) (v now : Room) (m : ℕ → Option (List ℕ)) (tree after : Tree) (before lists : Lists) (holds : List Hold) (stamp : ℤ) (call : Call) (reply : Reply) (told : Option (ℕ → Option (List ℕ))) (old new : ℕ → Bool)
    → IsReady g v m tree before → IsSettled v → IsLeft g v now m tree after lists [] told old new → Agrees after lists → after.root ≡ tree.root → AnswersIn stamp call reply tree holds after
    → IsAnswered g v now m tree holds stamp call reply told old new
