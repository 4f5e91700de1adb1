-- Why steps of a device have ended.
use Rattle.std.specs.Prelude.{◌≡◌, ◌≢◌, ◌≤◌, ℕ, true, Option, Some, None}
use Rattle.bfs_base.specs.Counts.{Rose}
use Rattle.bfs_device.specs.declared.journal.DeviceFault.{DeviceFault}
use Rattle.bfs_device.specs.declared.journal.DeviceFault.TheVariants.{Disk, Stopped}
use Rattle.bfs_device.specs.declared.journal.Stop.{Stop}

-- A fault among steps: the disk failed in one of them, so that its count rose, and the device, which went on at their start, has stopped; or it
-- had stopped before them, and nothing has changed.
abbrev pub HasStepCause : Option Stop → Option Stop → ℕ → ℕ → DeviceFault → Type 0
HasStepCause old new faults later (Disk before after stops) = (old ≡ None) × (new ≢ None) × (faults ≤ before) × Rose before after × (after ≤ later) × (stops ≡ true)
HasStepCause old new faults later (Stopped durable count) = (old ≡ Some (record { durable = durable; faults = count })) × (new ≡ old)
