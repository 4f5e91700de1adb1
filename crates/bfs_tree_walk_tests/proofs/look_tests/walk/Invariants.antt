use Rattle.std.proofs.Common.{length}
use Rattle.bfs_walk.specs.Due.{AreChildren}
use Rattle.bfs_tree_walk_tests.proofs.look_tests.walk.Given as goal

abbrev pub invariant-loop-n : goal.invariant-loop-n
invariant-loop-n g l = AreChildren (length l.pages.bytes.items) l.frames.items
