-- Why a node is listed still, as a call says it.
use Rattle.std.proofs.Common.{ℕ, Option, Some, None}
use Rattle.bfs_node.specs.declared.fault.TreeFault.{TreeFault}
use Rattle.bfs_stream.specs.declared.fault.GrowFault.{GrowFault}
use Rattle.bfs_leave.specs.Unlisted.{IsUnlistFault}
use Rattle.bfs_calls.specs.Done.{IsUnanswered}
use Rattle.bfs_calls.proofs.Faulting.{undone_unanswered}

pub unlist_unanswered : (index : Option ℕ) (f : TreeFault GrowFault) → IsUnlistFault index f → IsUnanswered f
unlist_unanswered None f bad = absurd bad
unlist_unanswered (Some inode) f why = undone_unanswered f why
