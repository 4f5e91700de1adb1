use Rattle.std.proofs.Common.{◌≡◌, drop}
use Rattle.bfs_tree.specs.States.{conflict}
use Rattle.bfs_hold.proofs.refusal.conflict_on.Given as goal

abbrev pub invariant-loop-hold : goal.invariant-loop-hold
invariant-loop-hold l = conflict l.holds l.id l.write ≡ conflict (drop l.hold-index l.holds) l.id l.write
