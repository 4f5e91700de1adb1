use Rattle.std.proofs.Common.{◌≤◌, ◌++◌, List, length, take, map}
use Rattle.bfs_index_check.specs.Compared.{Pair, pairs_of, AreMet}
use Rattle.bfs_index_check.proofs.Prefixes.{keyed}
use Rattle.bfs_index_check.proofs.compare.hold_row.Given as goal

abbrev pub invariant-loop-i : goal.invariant-loop-i
invariant-loop-i l = record {
  inside : l.at ≤ length l.wanted;
  met : (met : List Pair) → AreMet (pairs_of l.wanted) l.from met → AreMet (pairs_of l.wanted) l.at (met ++ map (keyed l.row.key) (take l.i l.row.numbers));
}
