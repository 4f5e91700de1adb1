use Rattle.std.proofs.Common.{◌≡◌, drop, length}
use Rattle.std.specs.Prelude.{◌==◌}
use Rattle.std.specs.List.{filter}
use Rattle.bfs_attrs.proofs.Single.{is_row, one_left}
use Rattle.bfs_attrs.proofs.rows.is_one.Given as goal

abbrev pub invariant-loop-row : goal.invariant-loop-row
invariant-loop-row l = one_left l.found (drop l.row-index l.ranged) ≡ (length (filter is_row l.ranged) == 1)
