-- When the changes of a call may be kept, and what was kept of them.
use Rattle.std.specs.Prelude.{◌≡◌, ◌≢◌, ◌≤◌, ◌<◌, ◌+◌, ◌⊎◌, ℕ, ℤ, List, [], length, map, Option}
use Rattle.bfs_base.specs.Lists.{Has}
use Rattle.bfs_super.specs.declared.geometry.Geometry.{Geometry}
use Rattle.bfs_super.specs.Conditions.{ceil}
use Rattle.bfs_bitmap.specs.Givens.{settled}
use Rattle.bfs_bitmap.specs.Runs.{Room, Fits}
use Rattle.bfs_txn.specs.Changed.{number_at, over}
use Rattle.bfs_txn.specs.Faults.{Counts}
use Rattle.bfs_tree.specs.declared.call.Call.{Call}
use Rattle.bfs_tree.specs.declared.reply.Reply.{Reply}
use Rattle.bfs_tree.specs.declared.state.Hold.{Hold}
use Rattle.bfs_tree.specs.Trees.{Tree}
use Rattle.bfs_device.specs.Layouts.{Layout, IsData, ring_count}
use Rattle.bfs_calls.specs.Done.{IsUnanswered}
use Rattle.bfs_answers.specs.Written.{HasWriteCause}
use Rattle.bfs_shift.specs.Shifts.{volume_in}
use Rattle.bfs_answers.specs.Called.{IsCalled, is_changed}
use Rattle.bfs_answers.specs.Files.{KeepsBlocks}
use Rattle.bfs_answers.specs.declared.answers.Allowance.{Allowance}
use Rattle.bfs_answers.specs.Answered.{AnswersIn}
use Rattle.bfs_replies.specs.declared.calling.CallFault.{CallFault}
use Rattle.bfs_replies.specs.declared.calling.CallFault.TheVariants as calling
use Rattle.bfs_replies.specs.declared.keep.Unkept.{Unkept}
use Rattle.bfs_replies.specs.declared.keep.Unkept.TheVariants.{Damaged, TooMany, Beyond}

-- Why a call isn't answered, or its changes may not be kept: over a volume that is told no block is changed that no group may have; but more
-- may be changed than the log has room for, or more changed or taken than the call is allowed
abbrev pub IsCallFault : CallFault → Type 0
IsCallFault (calling.Map fault) = IsUnanswered fault
IsCallFault (calling.Unkept (Damaged block)) = ⊥
IsCallFault (calling.Unkept (TooMany blocks)) = Unit {0}
IsCallFault (calling.Unkept Beyond) = Unit {0}

abbrev pub HasCallCause : ℕ → Counts → Counts → CallFault → Type 0
HasCallCause blocks old new (calling.Map fault) = HasWriteCause blocks old new fault
HasCallCause blocks old new (calling.Unkept why) = Unit {0}

-- the blocks that a call changed, behind so many pairs of an open group, may go into a group: they are blocks of data, and all fit the log
pub record AreFit (l : Layout) (pairs : List (ℕ × List ℕ)) (mark : ℕ) : Type 0 where
  pub places : (i : ℕ) → mark ≤ i → i < length pairs → IsData l (number_at pairs i)
  pub room : ring_count pairs < l.len

-- a block that the call changed is no block of data
pub record IsStray (l : Layout) (pairs : List (ℕ × List ℕ)) (mark block : ℕ) : Type 0 where
  pub place : ℕ
  pub own : mark ≤ place
  pub inside : place < length pairs
  pub is : number_at pairs place ≡ block
  pub stray : ¬ IsData l block

-- why they may not, where so many blocks were used and are, and so many may be changed and taken
abbrev pub IsUnfit : Layout → Allowance → ℕ → ℕ → List (ℕ × List ℕ) → ℕ → Unkept → Type 0
IsUnfit l allowed was used pairs mark (Damaged block) = IsStray l pairs mark block
IsUnfit l allowed was used pairs mark (TooMany blocks) = (l.len ≤ ring_count pairs) × (mark + blocks ≡ length pairs) × (blocks ≤ allowed.logged)
IsUnfit l allowed was used pairs mark Beyond = (mark + allowed.logged < length pairs) ⊎ (was + allowed.taken < used) ⊎ ((length pairs ≡ 0) × (used ≢ was))

-- the blocks that a call changed are more than the log takes, with so many of the open group, and no more than it is allowed to change
abbrev pub IsCrowding : Layout → ℕ → ℕ → CallFault → Type 0
IsCrowding l logged begun (calling.Unkept (TooMany blocks)) = (l.len ≤ begun + blocks + ceil (begun + blocks) 126) × (blocks ≤ logged)
IsCrowding l logged begun _ = Unit {0}

-- Where no block waits for a seal, none did before, and as many are used as then.
abbrev pub StaysIdle : Room → Room → List (ℕ × List ℕ) → List (ℕ × List ℕ) → Type 0
StaysIdle v new before now = now ≡ [] → (before ≡ []) × (new.tally.used ≡ v.tally.used)

-- the bitmap of a call that was kept
abbrev pub room_kept : Room → Room
room_kept v = record v { given = map settled v.given; tally_kept = v.tally }

-- A call was answered and kept: what its open group has made of the volume, over what is told below it, by the bitmap as it was when the
-- call was answered; answer and tree are those of the plain tree; and files have kept their blocks.
pub record IsKept (g : Geometry) (v new : Room) (m : ℕ → Option (List ℕ)) (before now : List (ℕ × List ℕ)) (tree : Tree) (holds : List Hold) (stamp : ℤ) (call : Call) (reply : Reply) : Type 0 where
  pub room : Room
  pub kept : new ≡ room_kept room
  pub after : Tree
  pub called : IsCalled g v room (over before m) (over now m) tree after (is_changed before) (is_changed now)
  pub fits : Fits new (over now m)
  pub by_tree : AnswersIn stamp call reply tree holds after
  pub blocks : KeepsBlocks (volume_in g (over before m)) (volume_in g (over now m)) tree after call

-- At most so many blocks of what is told are other ones since a call was kept, and at most so many more are used: the first are those that the
-- log holds, and among the second are the data blocks that a file has gained, which aren't written.
pub record IsWithin (logged taken : ℕ) (v new : Room) (m : ℕ → Option (List ℕ)) (before now : List (ℕ × List ℕ)) : Type 0 where
  pub changed : List ℕ
  pub few : length changed ≤ logged
  pub are : (k : ℕ) → over now m k ≢ over before m k → Has changed k
  pub used : new.tally.used ≤ v.tally.used + taken
