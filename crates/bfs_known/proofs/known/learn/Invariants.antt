use Rattle.std.proofs.Common.{◌≡◌, ◌+◌, drop}
use Rattle.bfs_tree.specs.States.{learn}
use Rattle.bfs_known.specs.Known.{known_of}
use Rattle.bfs_known.proofs.known.learn.Given as goal

abbrev pub invariant-loop-i : goal.invariant-loop-i
invariant-loop-i l = learn (known_of l.all.entries) l.id (l.at + l.i) (drop l.i l.bytes) ≡ learn (known_of l.known.entries) l.id l.at l.bytes
