use Rattle.std.proofs.Common.{◌≡◌, ◌++◌, drop}
use Rattle.bfs_tree_check.specs.Levels.{places}
use Rattle.bfs_tree_check.proofs.leaves.places_of.Given as goal

abbrev pub invariant-loop-item : goal.invariant-loop-item
invariant-loop-item l = l.found.items ++ places (drop l.item-index l.level) ≡ places l.level
