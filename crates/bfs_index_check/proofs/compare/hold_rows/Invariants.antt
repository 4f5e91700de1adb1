use Rattle.std.proofs.Common.{◌≤◌, length, take}
use Rattle.std.specs.List.{flat_map}
use Rattle.bfs_index_check.specs.Compared.{pairs_of, row_pairs, AreMet}
use Rattle.bfs_index_check.proofs.compare.hold_rows.Given as goal

abbrev pub invariant-loop-i : goal.invariant-loop-i
invariant-loop-i l = record {
  inside : l.at ≤ length l.wanted;
  met : AreMet (pairs_of l.wanted) l.at (flat_map row_pairs (take l.i l.rows));
}
