use Rattle.std.proofs.Common.{◌≡◌}
use Rattle.bfs_stream.specs.Grown.{IsOfVolume}
use Rattle.bfs_file.proofs.grow_tests.by_turns.Given as goal

abbrev pub invariant-loop : goal.invariant-loop
invariant-loop g l = record {
  first : l.first ≡ l.fn.first;
  second : l.second ≡ l.fn.second;
  rest : l.bitmap ≡ record l.fn.bitmap { tally = l.bitmap.tally };
  volume : IsOfVolume l.first.sizes l.bitmap;
  size : g.E.Blocks.size l.edits ≡ l.first.sizes.block_size;
  same_size : g.E.Blocks.size l.edits ≡ g.E.Blocks.size l.fn.edits;
  frame : g.E.Blocks.frame l.edits ≡ g.E.Blocks.frame l.fn.edits;
}
