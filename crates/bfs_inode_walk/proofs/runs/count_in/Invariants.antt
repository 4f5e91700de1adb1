use Rattle.std.proofs.Common.{◌≡◌, ◌≤◌, take}
use Rattle.bfs_base.specs.Lists.{times}
use Rattle.bfs_stream.specs.Sizes.{sizes_of}
use Rattle.bfs_stream.specs.Places.{blocks_of}
use Rattle.bfs_inode_walk.proofs.runs.count_in.Given as goal

abbrev pub invariant-loop-i : goal.invariant-loop-i
invariant-loop-i l = record { count : l.count ≡ times l.fn.block (blocks_of (sizes_of l.fn.sup) (take l.i l.fn.runs)); few : l.count ≤ l.i }
