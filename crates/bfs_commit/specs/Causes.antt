-- Why a sync or a close has failed.
use Rattle.std.specs.Prelude.{◌≡◌, ◌≤◌, ℕ, true, Option, Some, None}
use Rattle.bfs_base.specs.Counts.{Rose}
use Rattle.bfs_device.specs.declared.journal.Stop.{Stop}
use Rattle.bfs_device.specs.declared.journal.DeviceFault.{DeviceFault}
use Rattle.bfs_device.specs.declared.journal.DeviceFault.TheVariants as device
use Rattle.bfs_commit.specs.declared.events.SyncFault.{SyncFault}
use Rattle.bfs_commit.specs.declared.events.SyncFault.TheVariants.{Disk, Stopped, NoMemory}

-- The disk failed in it, whose count rose, of a device that went on; or the device had stopped before.
abbrev pub HasSyncCause : Option Stop → ℕ → ℕ → SyncFault → Type 0
HasSyncCause old faults later (Disk before after stops) = (old ≡ None) × (faults ≤ before) × Rose before after × (after ≤ later) × (stops ≡ true)
HasSyncCause old faults later (Stopped durable count) = old ≡ Some (record { durable = durable; faults = count })
HasSyncCause old faults later NoMemory = Unit {0}

-- and so of a close
abbrev pub HasStopCause : Option Stop → ℕ → ℕ → DeviceFault → Type 0
HasStopCause old faults later (device.Disk before after stops) = (old ≡ None) × (faults ≤ before) × Rose before after × (after ≤ later) × (stops ≡ true)
HasStopCause old faults later (device.Stopped durable count) = old ≡ Some (record { durable = durable; faults = count })
