use Rattle.std.proofs.Common.{◌≡◌, drop, true}
use Rattle.bfs_tree.specs.States.{conflict}
use Rattle.bfs_set_size.proofs.refusal.hold_on.Given as goal

abbrev pub invariant-loop-hold : goal.invariant-loop-hold
invariant-loop-hold l = conflict l.holds l.id true ≡ conflict (drop l.hold-index l.holds) l.id true
