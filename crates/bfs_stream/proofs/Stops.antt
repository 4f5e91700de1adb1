-- The cause of a fault, over more calls.
use Rattle.std.proofs.Common.{◌≤◌, ◌<◌, ℕ, arith}
use Rattle.bfs_txn.specs.declared.fault.BlockFault.{BlockFault}
use Rattle.bfs_txn.specs.declared.fault.BlockFault.TheVariants.{Disk, Stopped, Damaged, NoMemory}
use Rattle.bfs_txn.specs.Faults.{Counts, AreLater, IsCauseOf}
use Rattle.bfs_stream.specs.Scans.{IsDamage}
use Rattle.bfs_stream.specs.Faults.{IsCauseIn, IsGrowCause}
use Rattle.bfs_stream.specs.declared.fault.GrowFault.{GrowFault}
use Rattle.bfs_stream.specs.declared.fault.GrowFault.TheVariants.{NoRun, Full, Block}

-- a read or a write alone never says that a block is damaged
pub not_damage : (a b : Counts) (fault : BlockFault) → IsCauseOf a b fault → ¬ IsDamage fault
not_damage a b (Disk before after) cause t = t
not_damage a b (Stopped durable faults) cause t = t
not_damage a b (Damaged block) cause t = cause
not_damage a b NoMemory cause t = t

pub caused_in : (a b : Counts) (fault : BlockFault) → IsCauseOf a b fault → IsCauseIn a b fault
caused_in a b (Disk before after) cause = cause
caused_in a b (Stopped durable faults) cause = cause
caused_in a b (Damaged block) cause = absurd cause
caused_in a b NoMemory cause = cause

pub cause_later : (a b c : Counts) (fault : BlockFault) → AreLater a b → IsCauseIn b c fault → IsCauseIn a c fault
cause_later a b c (Disk before after) later cause = let x = later.faults in let y = cause.0 in (omega (arith, x, y), cause.1, cause.2)
cause_later a b c (Stopped durable faults) later cause = cause
cause_later a b c (Damaged block) later cause = cause
cause_later a b c NoMemory later cause = cause

-- the cause of a step's fault is one of the whole call's
pub cause_wider : (n k : ℕ) (a b c : Counts) (fault : GrowFault) → n ≤ k → AreLater a b → IsGrowCause n b c fault → IsGrowCause k a c fault
cause_wider n k a b c (NoRun asked free) le later cause = cause
cause_wider n k a b c (Full room) le later cause = let lt : room < n = cause in omega (arith, lt, le)
cause_wider n k a b c (Block fault) le later cause = cause_later a b c fault later cause
