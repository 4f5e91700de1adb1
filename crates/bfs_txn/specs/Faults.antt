-- The counts of what lies below, and the causes of a block's fault.
use Rattle.std.specs.Prelude.{◌≡◌, ◌≤◌, ℕ, Option, Some, Result, IfErr}
use Rattle.bfs_base.specs.Counts.{Rose}
use Rattle.bfs_txn.specs.declared.fault.BlockFault.{BlockFault}
use Rattle.bfs_txn.specs.declared.fault.BlockFault.TheVariants.{Disk, Stopped, Damaged, NoMemory}

-- The counts of faults and of stops of the disk below. Where it has stopped, the stop has the number of the
-- entries that were durable then, and the count of faults then.
pub record Counts : Type 0 where
  pub faults : ℕ
  pub stops : ℕ
  pub stop : Option (ℕ × ℕ)

-- reads alone lie between them: the count of faults does not fall, and no read stops a disk
pub record AreLater (old new : Counts) : Type 0 where
  pub faults : old.faults ≤ new.faults
  pub stops : new.stops ≡ old.stops
  pub stop : new.stop ≡ old.stop

-- The fault has its cause between these counts: at a failed read the count of faults rose to what it is now; a
-- stopped disk's numbers are those of its stop; and no block that is only read is damaged.
abbrev pub IsCauseOf : Counts → Counts → BlockFault → Type 0
IsCauseOf old new (Disk before after) = (old.faults ≤ before) × Rose before after × (after ≡ new.faults)
IsCauseOf old new (Stopped durable faults) = new.stop ≡ Some (durable, faults)
IsCauseOf old new (Damaged block) = ⊥
IsCauseOf old new NoMemory = Unit {0}

-- a refusal has its cause
pub record IsCaused {T : Type 0} (old new : Counts) (result : Result T BlockFault) : Type 0 where
  pub later : AreLater old new
  pub failed : IfErr result (IsCauseOf old new)
