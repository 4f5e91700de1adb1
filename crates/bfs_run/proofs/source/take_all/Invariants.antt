use Rattle.std.proofs.Common.{◌≡◌, ◌≤◌, ◌<◌, ◌-◌, ℕ, List, Some, length}
use Rattle.bfs_run.specs.Sources.{HasRead}
use Rattle.bfs_run.proofs.source.take_all.Given as goal

abbrev pub invariant-pieces : goal.invariant-pieces
invariant-pieces g l = record {
  long : 0 < length l.piece;
  read : (left : List ℕ) → g.R.Source.left l.initial.source ≡ Some left → (rest : List ℕ) × HasRead (g.R.Source.left l.source) left l.bytes.items rest;
  later : g.R.Source.faults l.initial.source ≤ g.R.Source.faults l.source;
}

abbrev pub decreases-pieces : goal.decreases-pieces
decreases-pieces g l = 268435457 - length l.bytes.items
