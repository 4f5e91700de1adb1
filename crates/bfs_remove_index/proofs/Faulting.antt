-- Faults of steps, and their causes, as those of the call.
use Rattle.std.proofs.Common.{◌≡◌, ℕ, List, None}
use Rattle.bfs_base.specs.declared.kind.KeyKind.TheVariants.{Text}
use Rattle.bfs_node.specs.Page.{Row}
use Rattle.bfs_node.specs.declared.fault.TreeFault.{TreeFault}
use Rattle.bfs_node.specs.declared.fault.TreeFault.TheVariants as tree
use Rattle.bfs_pages.specs.Maps.{assoc}
use Rattle.bfs_pages.specs.Order.{Key}
use Rattle.bfs_stream.specs.declared.fault.GrowFault.{GrowFault}
use Rattle.bfs_txn.specs.Faults.{Counts}
use Rattle.bfs_maps.specs.Refused.{IsUndone, IsTakeFault, HasTakeCause}
use Rattle.bfs_calls.specs.Done.{HasAnswerCause}
use Rattle.bfs_calls.specs.Faults.{take_fault}

-- of a row that is there
pub take_undone : (rows : List Row) (name : Key) (directory : ℕ) (f : TreeFault GrowFault) → (assoc Text rows name ≡ None → ⊥) → IsTakeFault Text rows name f → IsUndone (take_fault directory f)
take_undone rows name directory tree.Exists there bad = absurd bad
take_undone rows name directory tree.Absent there none = absurd (there none)
take_undone rows name directory (tree.Damaged page sort) there bad = absurd bad
take_undone rows name directory (tree.Pages f) there fine = fine
take_undone rows name directory tree.NoMemory there fine = fine

pub take_cause : (old new : Counts) (directory : ℕ) (f : TreeFault GrowFault) → HasTakeCause old new f → HasAnswerCause old new (take_fault directory f)
take_cause old new directory tree.Exists bad = bad
take_cause old new directory tree.Absent cause = tt
take_cause old new directory (tree.Damaged page sort) cause = tt
take_cause old new directory (tree.Pages f) cause = cause.1
take_cause old new directory tree.NoMemory cause = tt
