-- A fault that has its cause between two counts has it from earlier ones on.
use Rattle.std.proofs.Common.{◌≤◌, arith}
use Rattle.bfs_txn.specs.Faults.{Counts, AreLater, IsCauseOf}
use Rattle.bfs_txn.specs.declared.fault.BlockFault.{BlockFault}
use Rattle.bfs_txn.specs.declared.fault.BlockFault.TheVariants.{Disk, Stopped, Damaged, NoMemory}
use Rattle.bfs_inode_walk.specs.Visited.{IsVisitCause}
use Rattle.bfs_inode_walk.specs.declared.fault.VisitFault.{VisitFault}
use Rattle.bfs_inode_walk.specs.declared.fault.VisitFault.TheVariants.{Wrong, Taken, Block}

block_earlier : (old mid new : Counts) (fault : BlockFault) → AreLater old mid → IsCauseOf mid new fault → IsCauseOf old new fault
block_earlier old mid new (Disk before after) later c = (let one = later.faults in let two : mid.faults ≤ before = c.0 in omega (arith, one, two), c.1, c.2)
block_earlier old mid new (Stopped durable faults) later c = c
block_earlier old mid new (Damaged block) later c = c
block_earlier old mid new NoMemory later c = c

pub cause_earlier : (old mid new : Counts) (fault : VisitFault) → AreLater old mid → IsVisitCause mid new fault → IsVisitCause old new fault
cause_earlier old mid new (Wrong finding) later c = tt
cause_earlier old mid new (Taken block owner) later c = tt
cause_earlier old mid new (Block fault) later c = block_earlier old mid new fault later c
