use Rattle.std.proofs.Common.{◌≡◌, drop, true}
use Rattle.bfs_tree.specs.States.{conflict}
use Rattle.bfs_remove_node.proofs.conflict.conflict_at.Given as goal

abbrev pub invariant-loop-i : goal.invariant-loop-i
invariant-loop-i l = conflict l.holds l.id true ≡ conflict (drop l.i l.holds) l.id true
