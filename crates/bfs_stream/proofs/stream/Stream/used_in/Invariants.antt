use Rattle.std.proofs.Common.{◌≡◌, ◌+◌, ◌*◌, ℕ, List, Option, Some, length, drop}
use Rattle.std.specs.List.{flat_map}
use Rattle.bfs_txn.specs.Faults.{AreLater}
use Rattle.bfs_stream.specs.Places.{run_blocks, used_runs}
use Rattle.bfs_stream.specs.Told.{AreTold, contents}
use Rattle.bfs_stream.proofs.Arrays.{block_runs}
use Rattle.bfs_stream.proofs.stream.Stream.used_in.Given as goal

abbrev pub invariant-loop-i : goal.invariant-loop-i
invariant-loop-i g l = record {
  long : length l.bytes ≡ l.self.sizes.block_size;
  told : g.B.Blocks.told l.under ≡ g.B.Blocks.told l.fn.under;
  size : g.B.Blocks.size l.under ≡ g.B.Blocks.size l.fn.under;
  changed : g.B.Blocks.changed l.under ≡ g.B.Blocks.changed l.fn.under;
  frame : g.B.Blocks.frame l.under ≡ g.B.Blocks.frame l.fn.under;
  later : AreLater (g.B.Blocks.counts l.fn.under) (g.B.Blocks.counts l.under);
  full : l.used ≡ l.i * l.runs;
  counted : (m : ℕ → Option (List ℕ)) → g.B.Blocks.told l.fn.under ≡ Some m → AreTold m (run_blocks l.self.sizes l.fn.array)
      → length (used_runs (flat_map (block_runs l.self.sizes (contents m)) (run_blocks l.self.sizes l.fn.array))) ≡ l.used + length (used_runs (flat_map (block_runs l.self.sizes (contents m)) (drop l.i (run_blocks l.self.sizes l.fn.array))));
}
