use Rattle.std.proofs.Common.{◌≡◌, ◌≤◌, ◌++◌, length, map, take, drop}
use Rattle.bfs_bitmap.specs.Givens.{settled}
use Rattle.bfs_bitmap.proofs.given.settle_all.Given as goal

abbrev pub invariant-loop-at : goal.invariant-loop-at
invariant-loop-at l = (l.at ≤ length l.fn.given.items) × (l.given.items ≡ take l.at l.fn.given.items ++ map settled (drop l.at l.fn.given.items))

abbrev pub decreases-loop-at : goal.decreases-loop-at
decreases-loop-at l = l.at
