use Rattle.std.proofs.Common.{◌≡◌, drop}
use Rattle.bfs_bitmap.specs.Tallies.{lowered_by}
use Rattle.bfs_bitmap.proofs.tally.lower_all.Given as goal

abbrev pub invariant-loop-i : goal.invariant-loop-i
invariant-loop-i l = lowered_by l.group (drop l.i l.given) l.now ≡ lowered_by l.group l.given l.fn.tally
