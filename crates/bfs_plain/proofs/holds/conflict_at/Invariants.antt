use Rattle.std.proofs.Common.{◌≡◌, drop}
use Rattle.bfs_tree.specs.States.{conflict}
use Rattle.bfs_plain.proofs.holds.conflict_at.Given as goal

abbrev pub invariant-loop-hold : goal.invariant-loop-hold
invariant-loop-hold l = conflict l.holds.items l.id l.writes ≡ conflict (drop l.hold-index l.holds.items) l.id l.writes
