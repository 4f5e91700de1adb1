-- The faults of what lies below, as those of a call.
use Rattle.std.specs.Prelude.{ℕ}
use Rattle.bfs_bitmap.specs.declared.fault.RunFault.{RunFault}
use Rattle.bfs_bitmap.specs.declared.fault.RunFault.TheVariants as run
use Rattle.bfs_node.specs.declared.fault.TreeFault.{TreeFault}
use Rattle.bfs_node.specs.declared.fault.TreeFault.TheVariants as tree
use Rattle.bfs_stream.specs.declared.fault.GrowFault.{GrowFault}
use Rattle.bfs_stream.specs.declared.fault.GrowFault.TheVariants as grow
use Rattle.bfs_txn.specs.declared.fault.BlockFault.TheVariants.{Damaged}

-- why a stream would not grow, where no run was taken
abbrev pub of_run : RunFault → GrowFault
of_run (run.NoRun wanted free) = grow.NoRun wanted free
of_run (run.Block fault) = grow.Block fault

-- of a row that no look-up had found: that it is there says that its directory is damaged
abbrev pub put_fault : ℕ → TreeFault GrowFault → TreeFault GrowFault
put_fault directory tree.Exists = tree.Pages (grow.Block (Damaged directory))
put_fault directory tree.Absent = tree.Absent
put_fault directory (tree.Damaged page sort) = tree.Damaged page sort
put_fault directory (tree.Pages fault) = tree.Pages fault
put_fault directory tree.NoMemory = tree.NoMemory

-- of a row or an attribute that a look-up had found: that it is missing says that its holder (a directory, an inode) is damaged
abbrev pub take_fault : ℕ → TreeFault GrowFault → TreeFault GrowFault
take_fault holder tree.Exists = tree.Exists
take_fault holder tree.Absent = tree.Pages (grow.Block (Damaged holder))
take_fault holder (tree.Damaged page sort) = tree.Damaged page sort
take_fault holder (tree.Pages fault) = tree.Pages fault
take_fault holder tree.NoMemory = tree.NoMemory
