-- The entries that calls of a volume append.
use Rattle.std.specs.Prelude.{◌≡◌, ◌≢◌, ◌≤◌, ℕ, ℤ, List, [], ◌∷◌, ◌++◌, true, false, Option, Some, None, Result, Ok, Err, length}
use Rattle.std.specs.List.{list_any}
use Rattle.std.specs.Option.{option_map}
use Rattle.bfs_txn.specs.Faults.{Counts}
use Rattle.bfs_tree.specs.declared.call.Call.{Call}
use Rattle.bfs_tree.specs.declared.call.Call.TheVariants as calls
use Rattle.bfs_tree.specs.declared.reply.Reply.{Reply}
use Rattle.bfs_tree.specs.declared.reply.Reply.TheVariants as replies
use Rattle.bfs_tree.specs.declared.reply.Entry.{Entry}
use Rattle.bfs_tree.specs.Histories.{Mounted, is_stop}
use Rattle.bfs_base.specs.Counts.{Rose}
use Rattle.bfs_disk.specs.State.{State}
use Rattle.bfs_core.specs.Cores.{newest_map}
use Rattle.bfs_space.specs.Books.{SpaceBooks}
use Rattle.bfs_space.specs.Faces.{HasEntered, HasReplied}
use Rattle.bfs_device.specs.Books.{Books, durable_of}
use Rattle.bfs_device.specs.declared.journal.DeviceFault.{DeviceFault}
use Rattle.bfs_device.specs.declared.journal.DeviceFault.TheVariants as device
use Rattle.bfs_device.specs.declared.journal.Stop.{Stop}
use Rattle.bfs_commit.specs.declared.events.SyncFault.{SyncFault}
use Rattle.bfs_commit.specs.declared.events.SyncFault.TheVariants as syncs

-- one entry of this call was appended, with this session, tag and reply
pub record HasEntryOf (before now : List Entry) (session tag : ℕ) (call : Call) (reply : Reply) : Type 0 where
  pub stamp : ℤ
  pub appended : now ≡ before ++ record { session = session; tag = tag; stamp = stamp; call = call; reply = reply } ∷ []

-- one of this call, with some reply
pub record HasEntry (before now : List Entry) (session tag : ℕ) (call : Call) : Type 0 where
  pub reply : Reply
  pub entry : HasEntryOf before now session tag call reply

-- the counts of a device and its disk, as those of blocks
abbrev pub counts_of : ℕ → ℕ → Option Stop → Counts
counts_of faults stops stop = record { faults = faults; stops = stops; stop = option_map (λ (s : Stop). (s.durable, s.faults)) stop }

-- the reply to a fault of the device, and that of a sync that met it
abbrev pub reply_of : DeviceFault → Reply
reply_of (device.Disk before after stops) = replies.DiskFault before after stops
reply_of (device.Stopped durable faults) = replies.Stopped durable faults

abbrev pub sync_fault_of : DeviceFault → SyncFault
sync_fault_of (device.Disk before after stops) = syncs.Disk before after stops
sync_fault_of (device.Stopped durable faults) = syncs.Stopped durable faults

-- What a device tells of an entry: all entries before it are durable, of a device that goes on; or a fault has stopped the device, of which no
-- entry tells yet; or the device has stopped, with these numbers.
abbrev pub IsToldBy : Books → List Entry → Call → Reply → Type 0
IsToldBy b history call (replies.Synced upto) = (call ≡ calls.Sync) × (upto ≡ length history) × (upto ≤ durable_of b) × (b.stop ≡ None)
IsToldBy b history call (replies.DiskFault before after stops) = (list_any (λ e. is_stop e.reply) history ≡ false) × (b.stop ≢ None)
IsToldBy b history call (replies.Stopped durable faults) = b.stop ≡ Some (record { durable = durable; faults = faults })
IsToldBy b history call _ = ⊥

-- A sync that failed has an entry with its fault, but for want of memory, where nothing has changed.
abbrev pub HasFailedSync : List Entry → List Entry → ℕ → ℕ → SyncFault → Type 0
HasFailedSync before now session tag (syncs.Disk from to stops) = HasEntryOf before now session tag calls.Sync (replies.DiskFault from to stops)
HasFailedSync before now session tag (syncs.Stopped durable faults) = HasEntryOf before now session tag calls.Sync (replies.Stopped durable faults)
HasFailedSync before now session tag syncs.NoMemory = now ≡ before

-- The space was asked while its history was as before, and has replied: the entry, and its cause in the counts of the device, which lie between
-- these. The volume's space is since as that reply left it, but for promises.
pub record HasReplyIn (old new : SpaceBooks) (faults later session tag : ℕ) (call : Call) : Type 0 where
  pub at : SpaceBooks
  pub books : SpaceBooks
  pub now : ℕ
  pub begun : Counts
  pub ended : Counts
  pub same : at.view.history ≡ old.view.history
  pub rest : new ≡ record books { promised = new.promised }
  pub from : faults ≤ begun.faults
  pub upto : ended.faults ≤ later
  pub replied : HasReplied begun ended at books session tag now call

-- And over what the device told then, and tells since, of a volume with this tree at mounting, the call was entered.
pub record IsAnsweredIn (t0 : Mounted) (old new : SpaceBooks) (b : Books) (told : Option State) (session tag : ℕ) (call : Call) : Type 0 where
  pub at : SpaceBooks
  pub books : SpaceBooks
  pub map : ℕ → Option (List ℕ)
  pub now : ℕ
  pub same : at.view.history ≡ old.view.history
  pub rest : new ≡ record books { promised = new.promised }
  pub tells : option_map (newest_map b) told ≡ Some map
  pub entered : HasEntered t0 at books map session tag now call

-- a reply that the device tells of a call: it has failed in it, or had stopped before
abbrev pub IsDeviceEnd : Option Stop → ℕ → ℕ → Reply → Type 0
IsDeviceEnd old faults later (replies.DiskFault before after stops) = (old ≡ None) × (faults ≤ before) × Rose before after × (after ≤ later) × (stops ≡ true)
IsDeviceEnd old faults later (replies.Stopped durable count) = old ≡ Some (record { durable = durable; faults = count })
IsDeviceEnd old faults later _ = ⊥

pub record IsEnded (before now : List Entry) (session tag : ℕ) (call : Call) (old : Option Stop) (faults later : ℕ) : Type 0 where
  pub reply : Reply
  pub entry : HasEntryOf before now session tag call reply
  pub cause : IsDeviceEnd old faults later reply

-- the one entry of a call of a device that had stopped says that it has, with the numbers of that stop
abbrev pub IsStoppedEntry : List Entry → List Entry → ℕ → ℕ → Call → Stop → Type 0
IsStoppedEntry before now session tag call s = HasEntryOf before now session tag call (replies.Stopped s.durable s.faults)

-- A sync of a device that had stopped is never made: it answers that it has, with the numbers of that stop, and so does its one entry; but for
-- want of memory, where no entry came.
abbrev pub IsStoppedSync : List Entry → List Entry → ℕ → ℕ → Stop → Result ℕ SyncFault → Type 0
IsStoppedSync before now session tag s (Err (syncs.Stopped durable faults)) = (durable ≡ s.durable) × (faults ≡ s.faults) × IsStoppedEntry before now session tag calls.Sync s
IsStoppedSync before now session tag s (Err syncs.NoMemory) = now ≡ before
IsStoppedSync before now session tag s (Err (syncs.Disk from to stops)) = ⊥
IsStoppedSync before now session tag s (Ok n) = ⊥
