use Rattle.std.proofs.Common.{◌≡◌, drop, None}
use Rattle.bfs_plain.proofs.Lasts.{last_from}
use Rattle.bfs_plain.proofs.holds.last_hold_of.Given as goal

abbrev pub invariant-loop-hold : goal.invariant-loop-hold
invariant-loop-hold l = last_from l.session l.id l.last (drop l.hold-index l.holds.items) ≡ last_from l.session l.id None l.holds.items
