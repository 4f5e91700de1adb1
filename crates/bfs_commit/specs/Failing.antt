-- The disk's counts of faults and of stops beside the entries of a history.
use Rattle.std.specs.Prelude.{◌≡◌, ◌≤◌, ◌⊎◌, ◌++◌, ℕ, List, [], ◌∷◌, true, false, Option, Some, None}
use Rattle.std.specs.List.{All}
use Rattle.bfs_base.specs.Counts.{Rose}
use Rattle.bfs_tree.specs.declared.call.Call.{Call}
use Rattle.bfs_tree.specs.declared.call.Call.TheVariants as calls
use Rattle.bfs_tree.specs.declared.reply.Reply.{Reply}
use Rattle.bfs_tree.specs.declared.reply.Reply.TheVariants as replies
use Rattle.bfs_tree.specs.declared.reply.Entry.{Entry}
use Rattle.bfs_device.specs.declared.journal.Stop.{Stop}

-- Of a piece that was let go and isn't whole, a call of the disk failed between these counts of faults, and the count rose from the one of the
-- release to the other; or the device has stopped, with the count that both are.
abbrev pub IsLetGoIn : Option Stop → ℕ → ℕ → Call → Type 0
IsLetGoIn stop low high (calls.Release id bytes false from upto) = ((low ≤ from) × Rose from upto × (upto ≤ high))
    ⊎ ((low ≤ high) × (from ≡ upto) × (durable : ℕ) × (stop ≡ Some (record { durable = durable; faults = from })))
IsLetGoIn stop low high _ = low ≤ high

-- Of a call that a failed disk has answered, the count of faults rose between these, from the first number of the reply to the other; where the reply
-- is that the device has stopped, it has, with these numbers.
abbrev pub IsReplyIn : Option Stop → ℕ → ℕ → Call → Reply → Type 0
IsReplyIn stop low high call (replies.DiskFault before after stops) = (low ≤ before) × Rose before after × (after ≤ high)
IsReplyIn stop low high call (replies.Stopped durable faults) = (low ≤ high) × (stop ≡ Some (record { durable = durable; faults = faults }))
IsReplyIn stop low high call _ = IsLetGoIn stop low high call

-- An entry beside the disk's counts of faults before and after it, where the device has stopped in the end, or hasn't.
abbrev pub IsCountedIn : Option Stop → ℕ → ℕ → Entry → Type 0
IsCountedIn stop low high e = IsReplyIn stop low high e.call e.reply

-- The entries have their failures one behind the other: at each entry's end the disk has a count of faults, which the next one begins with.
abbrev pub AreCountedIn : Option Stop → ℕ → ℕ → List Entry → Type 0
AreCountedIn stop low high [] = low ≤ high
AreCountedIn stop low high (e ∷ es) = (mid : ℕ) × IsCountedIn stop low mid e × AreCountedIn stop mid high es

-- where a fault of the disk says that the device stops, the count of stops rose
abbrev pub HasSign : ℕ → ℕ → Entry → Type 0
HasSign stops stops' e = (before after : ℕ) → e.reply ≡ replies.DiskFault before after true → Rose stops stops'

-- The counts of a device's disk never fall. A device that had stopped is stopped, with the same numbers. Where it has stopped since, the count of
-- faults rose to the one that the stop has, and the count of stops rose.
pub record KeepsCounts (old new : Option Stop) (faults faults' stops stops' : ℕ) : Type 0 where
  pub later : faults ≤ faults'
  pub stops_later : stops ≤ stops'
  pub kept : (s : Stop) → old ≡ Some s → new ≡ Some s
  pub stopped : old ≡ None → (s : Stop) → new ≡ Some s → Rose faults s.faults × (s.faults ≤ faults') × Rose stops stops'

-- Entries were appended while the disk's counts were these, and the device was stopped so or not, before and after: the failures of the entries lie
-- one behind the other between the counts of faults.
pub record HasFailures (before now : List Entry) (old new : Option Stop) (faults faults' stops stops' : ℕ) : Type 0 where
  pub entries : List Entry
  pub appended : now ≡ before ++ entries
  pub counted : AreCountedIn new faults faults' entries
  pub counts : KeepsCounts old new faults faults' stops stops'
  pub signs : All (HasSign stops stops') entries
