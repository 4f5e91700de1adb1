-- Caused: what the entry of a call may have done to a volume, by the volume before it and the one after it.
use Rattle.std.specs.Prelude.{◌≡◌, ◌≢◌, ◌⊎◌, ◌≤◌, ◌<◌, ◌+◌, ◌-◌, ◌/◌, ◌%◌, ◌^◌, max, ℕ, List, length, Bool, true, false}
use Rattle.std.specs.List.{All}
use Rattle.bfs_base.specs.Lists.{Has}
use Rattle.bfs_super.specs.Conditions.{ceil}
use Rattle.bfs_bitmap.specs.Runs.{AreFrom}
use Rattle.bfs_tree.specs.declared.call.Call.{Call}
use Rattle.bfs_tree.specs.declared.call.Call.TheVariants as calls
use Rattle.bfs_tree.specs.declared.reply.Reply.{Reply}
use Rattle.bfs_tree.specs.declared.reply.Reply.TheVariants as replies
use Rattle.bfs_tree.specs.Steps.{is_done}
use Rattle.bfs_tree.specs.Trees.{Tree}
use Rattle.bfs_sound.specs.Volumes.{Volume, IsMarked}
use Rattle.bfs_sound.specs.Owners.{IsMetadata}
use Rattle.bfs_sound.specs.Need.{logged_need, need}

-- file data: a block that is marked, and is no metadata
abbrev pub IsFileData : Volume → Tree → ℕ → Type 0
IsFileData v tree k = IsMarked v k × ¬ IsMetadata v tree k

-- two volumes are compared at a block that is file data in neither
pub record IsCompared (old new : Volume) (before after : Tree) (k : ℕ) : Type 0 where
  pub inside : k < old.geometry.blocks
  pub old_is : ¬ IsFileData old before k
  pub new_is : ¬ IsFileData new after k

-- no such block differs, and as many are used
pub record IsUnchanged (old new : Volume) (before after : Tree) : Type 0 where
  pub blocks : (k : ℕ) → IsCompared old new before after k → new.blocks k ≡ old.blocks k
  pub used : new.geometry.used ≡ old.geometry.used

-- the calls that only take out
abbrev pub takes_out : Call → Bool
takes_out (calls.Remove dir name) = true
takes_out (calls.AttrRemove id name) = true
takes_out (calls.IndexRemove name) = true
takes_out _ = false

-- a run of free blocks of the volume, in one allocation group
pub record IsFreeIn (v : Volume) (len first : ℕ) : Type 0 where
  pub inside : first + len ≤ v.geometry.blocks
  pub one_group : first % 2 ^ v.geometry.shift + len ≤ 2 ^ v.geometry.shift
  pub free : (k : ℕ) → first ≤ k → k < first + len → ¬ IsMarked v k

-- fewer free runs of a length than are needed share no block
abbrev pub AreFewIn : Volume → ℕ → ℕ → Type 0
AreFewIn v len needed = (firsts : List ℕ) → AreFrom len 0 firsts → All (IsFreeIn v len) firsts → length firsts < needed

-- Space is wanting: of so many blocks or runs of an array's length that are needed, at most Need, fewer are free.
pub record IsSpaceWanting (v : Volume) (tree : Tree) (call : Call) (free needed : ℕ) : Type 0 where
  pub takes : takes_out call ≡ false
  pub free_is : free ≡ v.geometry.blocks - v.geometry.used
  pub within : needed ≤ need v tree call
  pub why : (free < needed) ⊎ AreFewIn v (max 1 (4096 / v.geometry.block_size)) needed

-- Room in the log is wanting: so many blocks, at most Need for the log, are with their array blocks more than it takes.
pub record IsLogWanting (v : Volume) (tree : Tree) (call : Call) (blocks room : ℕ) : Type 0 where
  pub room_is : room ≡ v.geometry.log.len - 1
  pub within : blocks ≤ logged_need v tree call
  pub why : room < blocks + ceil blocks 126

abbrev pub IsWanting : Volume → Tree → Call → Reply → Type 0
IsWanting v tree call (replies.NoSpace free needed) = IsSpaceWanting v tree call free needed
IsWanting v tree call (replies.NoLogRoom blocks room) = IsLogWanting v tree call blocks room
IsWanting v tree call _ = Unit {0}

-- Caused: at most as many blocks differ as Need for the log says, and at most as many more are used as Need says; where the call wasn't done
-- none differs; and where space or room in the log was wanting, it was.
pub record IsCausedBy (old new : Volume) (before after : Tree) (call : Call) (reply : Reply) : Type 0 where
  pub changed : List ℕ
  pub few : length changed ≤ logged_need old before call
  pub are : (k : ℕ) → IsCompared old new before after k → new.blocks k ≢ old.blocks k → Has changed k
  pub used : new.geometry.used ≤ old.geometry.used + need old before call
  pub unchanged : is_done reply ≡ false → IsUnchanged old new before after
  pub why : IsWanting old before call reply
