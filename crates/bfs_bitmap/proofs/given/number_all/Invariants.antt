use Rattle.std.proofs.Common.{◌≡◌, ◌++◌, map, take, drop}
use Rattle.bfs_bitmap.specs.Givens.{numbered}
use Rattle.bfs_bitmap.proofs.given.number_all.Given as goal

abbrev pub invariant-loop-i : goal.invariant-loop-i
invariant-loop-i l = l.given.items ≡ map (numbered l.group) (take l.i l.fn.given.items) ++ drop l.i l.fn.given.items
