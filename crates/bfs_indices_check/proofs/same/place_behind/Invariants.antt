use Rattle.std.proofs.Common.{◌++◌, List, map, take}
use Rattle.bfs_index_check.specs.Compared.{Pair, pairs_of, AreMet}
use Rattle.bfs_index_check.proofs.Prefixes.{keyed}
use Rattle.bfs_indices_check.proofs.same.place_behind.Given as goal

abbrev pub invariant-loop-i : goal.invariant-loop-i
invariant-loop-i l = record {
  met : (met : List Pair) → AreMet (pairs_of l.wanted) l.from met → AreMet (pairs_of l.wanted) l.at (met ++ map (keyed l.key) (take l.i l.numbers));
}
