-- Step: what one entry of the history says of the state before it and the state after it.
use Rattle.std.specs.Prelude.{◌≡◌, ℕ, ℤ, Some, None, Bool, true, false, IsTrue, if◌then◌else◌}
use Rattle.bfs_tree.specs.declared.call.Call.{Call}
use Rattle.bfs_tree.specs.declared.call.Call.TheVariants as calls
use Rattle.bfs_tree.specs.declared.reply.Reply.{Reply}
use Rattle.bfs_tree.specs.declared.reply.Reply.TheVariants as replies
use Rattle.bfs_tree.specs.declared.reply.Entry.{Entry}
use Rattle.bfs_tree.specs.Refusals.{own_refusal}
use Rattle.bfs_tree.specs.Answers.{IsAnswer}
use Rattle.bfs_tree.specs.Changes.{changed}
use Rattle.bfs_tree.specs.States.{State}

-- the call changes the tree where it is done; a hold for writing does, by its file's stamps
abbrev pub changes_tree : Call → Bool
changes_tree (calls.Make dir name kind mode) = true
changes_tree (calls.Remove dir name) = true
changes_tree (calls.Rename dir name to_dir to_name) = true
changes_tree (calls.Lookup dir name) = false
changes_tree (calls.List dir) = false
changes_tree (calls.Stat id) = false
changes_tree (calls.SetMode id mode uid gid) = true
changes_tree (calls.SetSize id size) = true
changes_tree (calls.ReadLink id) = false
changes_tree (calls.AttrWrite id name kind bytes) = true
changes_tree (calls.AttrRead id name) = false
changes_tree (calls.AttrRemove id name) = true
changes_tree (calls.AttrList id) = false
changes_tree (calls.IndexMake name kind) = true
changes_tree (calls.IndexRemove name) = true
changes_tree calls.IndexList = false
changes_tree (calls.IndexFind name low high) = false
changes_tree (calls.Hold id at count writes) = writes
changes_tree (calls.Release id bytes whole before after) = false
changes_tree calls.Sync = false

-- refusals by the disk
abbrev pub is_by_disk : Reply → Bool
is_by_disk (replies.DiskFault before after stops) = true
is_by_disk (replies.Stopped durable faults) = true
is_by_disk _ = false

-- refusals for want of space and of room in the log
abbrev pub is_for_room : Reply → Bool
is_for_room (replies.NoSpace free needed) = true
is_for_room (replies.NoLogRoom blocks room) = true
is_for_room _ = false

-- replies of calls that are done
abbrev pub is_done : Reply → Bool
is_done (replies.Made id) = true
is_done replies.Done = true
is_done (replies.Found id kind) = true
is_done (replies.Names names) = true
is_done (replies.Info info) = true
is_done (replies.Target bytes) = true
is_done (replies.Attr kind bytes) = true
is_done (replies.Attrs rows) = true
is_done (replies.Indices rows) = true
is_done (replies.Rows rows) = true
is_done (replies.Synced upto) = true
is_done _ = false

-- One call of a session that is answered by the tree alone, its reply, and the states before and after. It is refused
-- by the first of its own refusals whose condition holds, and then the state stays. Or no such condition holds, and it is
-- done with the reply and the change that belong to it.
pub data ByTree (session : ℕ) (stamp : ℤ) (call : Call) (reply : Reply) (old new : State) : Type 0 where
  refused : own_refusal call old ≡ Some reply → new ≡ old → ByTree session stamp call reply old new
  answered : own_refusal call old ≡ None → IsAnswer session call old reply → new ≡ changed session stamp call reply old → ByTree session stamp call reply old new

-- One call of a session, its reply, and the states before and after. It is answered by the tree alone; or it is refused by
-- the disk; or for want of room, where it changes the tree and no own refusal's condition holds; and where it is refused
-- the state stays.
pub data Turn (session : ℕ) (stamp : ℤ) (call : Call) (reply : Reply) (old new : State) : Type 0 where
  by_tree : ByTree session stamp call reply old new → Turn session stamp call reply old new
  by_disk : IsTrue (is_by_disk reply) → new ≡ old → Turn session stamp call reply old new
  no_room : own_refusal call old ≡ None → IsTrue (changes_tree call) → IsTrue (is_for_room reply) → new ≡ old → Turn session stamp call reply old new

-- Step: the entry leads from the old state to the new one
abbrev pub Step : State → Entry → State → Type 0
Step old entry new = Turn entry.session entry.stamp entry.call entry.reply old new

-- the tree alone answers the call so, and the state stays
abbrev pub Reads : Call → State → Reply → Type 0
Reads call s reply = (session : ℕ) (stamp : ℤ) → ByTree session stamp call reply s s

-- the tree alone answers the call so, with this stamp and whatever the session, and it leads from one state to another
abbrev pub Writes : ℤ → Call → Reply → State → State → Type 0
Writes stamp call reply old new = (session : ℕ) → ByTree session stamp call reply old new

-- the state after an entry that is a Step
abbrev pub next : State → Entry → State
next old entry = if is_done entry.reply then changed entry.session entry.stamp entry.call entry.reply old else old
