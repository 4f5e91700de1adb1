-- Why a call is turned away: for want of space or of room in the log, by the disk; or it is put off until the log is empty.
use Rattle.std.specs.Prelude.{◌≡◌, ◌≤◌, ◌<◌, ◌⊎◌, ◌+◌, ◌-◌, ◌/◌, max, ℕ, ℤ, List, true, false, Option, Some, None, Result, MatchResult}
use Rattle.bfs_super.specs.declared.geometry.Geometry.{Geometry}
use Rattle.bfs_super.specs.Conditions.{ceil}
use Rattle.bfs_bitmap.specs.Counted.{NoMoreRuns}
use Rattle.bfs_bitmap.specs.Runs.{Room}
use Rattle.bfs_txn.specs.Changed.{over}
use Rattle.bfs_txn.specs.Faults.{Counts, IsCauseOf}
use Rattle.bfs_node.specs.declared.fault.TreeFault.{TreeFault}
use Rattle.bfs_node.specs.declared.fault.TreeFault.TheVariants as tree
use Rattle.bfs_stream.specs.declared.fault.GrowFault.{GrowFault}
use Rattle.bfs_stream.specs.declared.fault.GrowFault.TheVariants as grow
use Rattle.bfs_txn.specs.declared.fault.BlockFault.{BlockFault}
use Rattle.bfs_txn.specs.declared.fault.BlockFault.TheVariants as block
use Rattle.bfs_tree.specs.declared.call.Call.{Call}
use Rattle.bfs_tree.specs.declared.reply.Reply.{Reply}
use Rattle.bfs_tree.specs.declared.reply.Reply.TheVariants as replies
use Rattle.bfs_tree.specs.declared.state.Hold.{Hold}
use Rattle.bfs_tree.specs.Refusals.{own_refusal}
use Rattle.bfs_tree.specs.States.{State}
use Rattle.bfs_tree.specs.Steps.{changes_tree, is_done}
use Rattle.bfs_tree.specs.Trees.{Tree}
use Rattle.bfs_calls.specs.Refusals.{is_own}
use Rattle.bfs_core.specs.Caused.{takes_out}
use Rattle.bfs_device.specs.declared.journal.Stop.{Stop}
use Rattle.bfs_sound.specs.Need.{logged_need, need}
use Rattle.bfs_shift.specs.Shifts.{volume_in}
use Rattle.bfs_replies.specs.Kept.{IsKept, IsWithin}
use Rattle.bfs_replies.specs.declared.replying.NoReply.{NoReply}
use Rattle.bfs_replies.specs.declared.replying.NoReply.TheVariants.{NoMemory, Drain}

-- the length of a run of an array, in blocks
abbrev pub array_run : Room → ℕ
array_run v = max 1 (4096 / v.block_size)

-- fewer free runs of a length than are needed share no block; what is reserved isn't free
abbrev pub HasFewRuns : Room → (ℕ → Option (List ℕ)) → ℕ → ℕ → Type 0
HasFewRuns v m len needed = (n : ℕ) × (n < needed) × NoMoreRuns v m len n

-- so many blocks, with the array blocks that tell of them, are more than the log takes
abbrev pub IsTooLong : Geometry → ℕ → Type 0
IsTooLong g n = g.log.len - 1 < n + ceil n 126

-- A call that changes the tree, and has no refusal of its own with these holds.
pub record IsChange (tree : Tree) (holds : List Hold) (call : Call) : Type 0 where
  pub changes : changes_tree call ≡ true
  pub fine : (s : State) → s.tree ≡ tree → s.holds ≡ holds → own_refusal call s ≡ None

-- Space is wanting, with nothing held back: of so many that are needed, which are at most Need, fewer blocks are free, or fewer runs of an
-- array's length.
pub record IsShort (g : Geometry) (v : Room) (m : ℕ → Option (List ℕ)) (tree : Tree) (holds : List Hold) (Idle : Type 0) (call : Call) (free needed : ℕ) : Type 0 where
  pub change : IsChange tree holds call
  pub idle : Idle
  pub takes : takes_out call ≡ false
  pub free_is : free ≡ v.blocks - v.tally.used
  pub within : needed ≤ need (volume_in g m) tree call
  pub why : (free < needed) ⊎ HasFewRuns v m (array_run v) needed

-- Room in the log is wanting, with nothing held back: so many blocks, at most Need for the log, are more than it takes.
pub record IsCrowded (g : Geometry) (m : ℕ → Option (List ℕ)) (tree : Tree) (holds : List Hold) (Idle : Type 0) (call : Call) (blocks room : ℕ) : Type 0 where
  pub change : IsChange tree holds call
  pub idle : Idle
  pub room_is : room ≡ g.log.len - 1
  pub within : blocks ≤ logged_need (volume_in g m) tree call
  pub why : IsTooLong g blocks

-- Why a call was turned away, of a volume that is told and stands for a tree, with these holds. No block is damaged.
abbrev pub IsOutside : Geometry → Room → (ℕ → Option (List ℕ)) → Tree → List Hold → Type 0 → Call → Reply → Type 0
IsOutside g v m tree holds Idle call (replies.DiskFault before after stops) = stops ≡ false
IsOutside g v m tree holds Idle call (replies.Stopped durable faults) = Unit {0}
IsOutside g v m tree holds Idle call (replies.NoSpace free needed) = IsShort g v m tree holds Idle call free needed
IsOutside g v m tree holds Idle call (replies.NoLogRoom blocks room) = IsCrowded g m tree holds Idle call blocks room
IsOutside g v m tree holds Idle call _ = ⊥

-- A call was turned away, and has changed nothing.
pub record IsTurnedAway (g : Geometry) (v new : Room) (m : ℕ → Option (List ℕ)) (before now : List (ℕ × List ℕ)) (tree : Tree) (holds : List Hold) (Idle : Type 0) (call : Call) (reply : Reply) : Type 0 where
  pub room : new ≡ v
  pub group : now ≡ before
  pub why : IsOutside g v (over before m) tree holds Idle call reply

-- A call was answered by the tree and kept: it has changed at most as many blocks as Need for the log says, and at most as many more are used
-- as Need says; one that was refused has changed none.
pub record IsDoneWithin (g : Geometry) (v new : Room) (m : ℕ → Option (List ℕ)) (before now : List (ℕ × List ℕ)) (tree : Tree) (holds : List Hold) (stamp : ℤ) (call : Call) (reply : Reply) : Type 0 where
  pub kept : IsKept g v new m before now tree holds stamp call reply
  pub own : is_own reply ≡ true
  pub unchanged : is_done reply ≡ false → (now ≡ before) × (new.tally.used ≡ v.tally.used)
  pub within : IsWithin (logged_need (volume_in g (over before m)) tree call) (need (volume_in g (over before m)) tree call) v new m before now

abbrev pub IsReplied : Geometry → Room → Room → (ℕ → Option (List ℕ)) → List (ℕ × List ℕ) → List (ℕ × List ℕ) → Tree → List Hold → Type 0 → ℤ → Call → Reply → Type 0
IsReplied g v new m before now tree holds Idle stamp call reply = IsDoneWithin g v new m before now tree holds stamp call reply ⊎ IsTurnedAway g v new m before now tree holds Idle call reply

-- so many blocks that a call needs, at most Need for the log, are with those of an open group more than the log takes
abbrev pub WantsLog : Geometry → (ℕ → Option (List ℕ)) → ℕ → Tree → Call → ℕ → Type 0
WantsLog g m begun tree call needed = (needed ≤ logged_need (volume_in g m) tree call) × IsTooLong g (begun + needed)

-- of so many blocks that a call needs, at most Need, fewer are free, or fewer runs of an array's length, where reserved ones count as used
abbrev pub WantsSpace : Geometry → Room → (ℕ → Option (List ℕ)) → Tree → Call → ℕ → Type 0
WantsSpace g v m tree call needed = (needed ≤ need (volume_in g m) tree call) × (takes_out call ≡ false) × (HasFewRuns v m 1 needed ⊎ HasFewRuns v m (array_run v) needed)

-- A call is put off while something is held back, for want of room in the log or of space.
pub record IsPutOff (g : Geometry) (v : Room) (m : ℕ → Option (List ℕ)) (begun : ℕ) (tree : Tree) (holds : List Hold) (Idle : Type 0) (call : Call) : Type 0 where
  pub change : IsChange tree holds call
  pub busy : ¬ Idle
  pub needed : ℕ
  pub why : WantsLog g m begun tree call needed ⊎ WantsSpace g v m tree call needed

-- why a call has no reply
abbrev pub IsNoReply : Geometry → Room → (ℕ → Option (List ℕ)) → ℕ → Tree → List Hold → Type 0 → Call → NoReply → Type 0
IsNoReply g v m begun tree holds Idle call NoMemory = Unit {0}
IsNoReply g v m begun tree holds Idle call Drain = IsPutOff g v m begun tree holds Idle call

-- The reply to a fault of a block, and to one of a step: want of memory has none, and nor has want of space, which is looked into.
abbrev pub reply_to_block : BlockFault → Option Reply
reply_to_block (block.Disk before after) = Some (replies.DiskFault before after false)
reply_to_block (block.Stopped durable faults) = Some (replies.Stopped durable faults)
reply_to_block (block.Damaged b) = Some (replies.Damaged b)
reply_to_block block.NoMemory = None

abbrev pub reply_to : TreeFault GrowFault → Option Reply
reply_to (tree.Pages (grow.Block fault)) = reply_to_block fault
reply_to _ = None

-- a reply, or want of memory where there is none
abbrev pub IsThat : Option Reply → Result Reply NoReply → Type 0
IsThat o result = MatchResult result (λ r. o ≡ Some r) (λ e. (o ≡ None) × (e ≡ NoMemory))

-- the cause of a reply in what lies below, or in the stop that an entry has told
abbrev pub HasReplyCause : Counts → Counts → Option Stop → Reply → Type 0
HasReplyCause old new stop (replies.DiskFault before after stops) = (stops ≡ false) × IsCauseOf old new (block.Disk before after)
HasReplyCause old new stop (replies.Stopped durable faults) = (stop ≡ Some (record { durable = durable; faults = faults })) ⊎ IsCauseOf old new (block.Stopped durable faults)
HasReplyCause old new stop _ = Unit {0}
