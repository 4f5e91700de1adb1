-- A read that failed, of a call that takes.
use Rattle.std.proofs.Common.{List}
use Rattle.bfs_base.specs.declared.kind.KeyKind.TheVariants.{Text}
use Rattle.bfs_node.specs.Page.{Row}
use Rattle.bfs_node.specs.declared.fault.TreeFault.{TreeFault}
use Rattle.bfs_node.specs.declared.fault.TreeFault.TheVariants as fault
use Rattle.bfs_pages.specs.Order.{Key}
use Rattle.bfs_stream.specs.declared.fault.GrowFault.{GrowFault}
use Rattle.bfs_txn.specs.Faults.{Counts}
use Rattle.bfs_maps.specs.Refused.{IsUndone, IsTakeFault, HasReadCause, HasTakeCause}

pub undone_take : (rows : List Row) (name : Key) (f : TreeFault GrowFault) → IsUndone f → IsTakeFault Text rows name f
undone_take rows name fault.Exists bad = absurd bad
undone_take rows name fault.Absent bad = absurd bad
undone_take rows name (fault.Damaged page sort) bad = absurd bad
undone_take rows name (fault.Pages f) fine = fine
undone_take rows name fault.NoMemory fine = tt

pub read_takes : (old new : Counts) (f : TreeFault GrowFault) → HasReadCause old new f → HasTakeCause old new f
read_takes old new fault.Exists bad = bad
read_takes old new fault.Absent bad = absurd bad
read_takes old new (fault.Damaged page sort) fine = fine
read_takes old new (fault.Pages f) fine = fine
read_takes old new fault.NoMemory fine = fine
