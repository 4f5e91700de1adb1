use Rattle.std.proofs.Common.{◌≡◌, ◌++◌, drop}
use Rattle.bfs_index_make.specs.Gathered.{numbers_of}
use Rattle.bfs_index_make.proofs.gather.numbers_in.Given as goal

abbrev pub invariant-loop-row : goal.invariant-loop-row
invariant-loop-row l = record {
  rest : l.ids.items ++ numbers_of (drop l.row-index l.ranged) ≡ numbers_of l.ranged;
}
