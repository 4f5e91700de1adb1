use Rattle.std.proofs.Common.{◌≡◌, ◌≤◌, ◌<◌, ◌+◌, ◌⊎◌, true, ℕ, List, Option, Some, replicate}
use Rattle.bfs_base.specs.Lists.{Has}
use Rattle.bfs_txn.specs.Told.{StaysChanged}
use Rattle.bfs_stream.specs.Places.{run_blocks}
use Rattle.bfs_growth.proofs.Cleared.{IsCleared}
use Rattle.bfs_growth.proofs.adding.clear_array.Given as goal

abbrev pub invariant-loop-i : goal.invariant-loop-i
invariant-loop-i g l = record {
  zeros : l.bytes ≡ replicate l.stream.sizes.block_size 0;
  size : g.E.Blocks.size l.edits ≡ g.E.Blocks.size l.fn.edits;
  frame : g.E.Blocks.frame l.edits ≡ g.E.Blocks.frame l.fn.edits;
  counts : g.E.Blocks.counts l.edits ≡ g.E.Blocks.counts l.fn.edits;
  written : (k : ℕ) → g.E.Blocks.changed l.edits k ≡ true → (g.E.Blocks.changed l.fn.edits k ≡ true) ⊎ Has (run_blocks l.stream.sizes l.fn.array) k;
  cleared : (m : ℕ → Option (List ℕ)) → g.E.Blocks.told l.fn.edits ≡ Some m → IsCleared l.first l.i l.stream.sizes.block_size m (g.E.Blocks.told l.edits);
  set : (k : ℕ) → l.first ≤ k → k < l.first + l.i → g.E.Blocks.changed l.edits k ≡ true;
  stays : StaysChanged (g.E.Blocks.changed l.fn.edits) (g.E.Blocks.changed l.edits);
}
