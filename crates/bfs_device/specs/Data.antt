-- Reads and writes of single blocks beside the groups.
use Rattle.std.specs.Prelude.{◌≡◌, ◌≢◌, ℕ, ◌==◌, ◌||◌, List, [], ◌∷◌, Bool, false, Option, Some, None}
use Rattle.bfs_base.specs.Counts.{Rose}
use Rattle.bfs_disk.specs.State.{State}
use Rattle.bfs_txn.specs.Changed.{or_else, newest}
use Rattle.bfs_txn.specs.declared.group.Group.{Group}
use Rattle.bfs_device.specs.declared.journal.DeviceFault.{DeviceFault}
use Rattle.bfs_device.specs.declared.journal.DeviceFault.TheVariants.{Disk, Stopped}
use Rattle.bfs_device.specs.Layouts.{IsData, layout_of}
use Rattle.bfs_device.specs.Books.{Books, IsVersion, version}
use Rattle.bfs_device.specs.Steps.{counted}

-- the bytes of the newest group that has the block
abbrev pub newest_in : List Group → ℕ → Option (List ℕ)
newest_in [] k = None
newest_in (g ∷ gs) k = or_else (newest_in gs k) (newest g.blocks k)

-- a call was made, and nothing else has changed
abbrev pub moved_on : Books → Books
moved_on b = record b { moment = counted b.moment }

-- the books are as before, but for the count of calls
abbrev pub IsRested : Books → Books → Type 0
IsRested old new = new ≡ record old { moment = new.moment }

-- A fault of a read and its cause: the read failed, so that the count of faults rose, and the device goes on; or it had stopped
-- before, and nothing has changed.
abbrev pub IsReadFault : Books → Books → ℕ → ℕ → DeviceFault → Type 0
IsReadFault b new old_faults faults (Disk before after stopped) = (b.stop ≡ None) × (before ≡ old_faults) × (after ≡ faults) × Rose old_faults faults × (stopped ≡ false) × (new ≡ moved_on b)
IsReadFault b new old_faults faults (Stopped durable count) = (b.stop ≡ Some (record { durable = durable; faults = count })) × (new ≡ b)

-- the touched blocks, and this one
abbrev pub touching : ℕ → (ℕ → Bool) → ℕ → Bool
touching block touched k = (k == block) || touched k

-- each block but block 0, those of the log and this one has the same bytes in each version
abbrev pub AreSameBut : ℕ → Books → State → Books → State → Type 0
AreSameBut block old_books old new_books new = (n : ℕ) → IsVersion new_books n → (k : ℕ) → IsData (layout_of old_books.sup) k → k ≢ block → version new_books new n k ≡ version old_books old n k
