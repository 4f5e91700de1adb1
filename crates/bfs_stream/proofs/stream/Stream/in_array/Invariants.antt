use Rattle.std.proofs.Common.{◌≡◌, ℕ, List, Option, Some, length}
use Rattle.bfs_txn.specs.Faults.{AreLater}
use Rattle.bfs_stream.specs.Places.{run_blocks}
use Rattle.bfs_stream.specs.Told.{AreTold, contents}
use Rattle.bfs_stream.proofs.Arrays.{IsWalked}
use Rattle.bfs_stream.proofs.Damages.{IsSoFar}
use Rattle.bfs_stream.proofs.stream.Stream.in_array.Given as goal

abbrev pub invariant-loop-i : goal.invariant-loop-i
invariant-loop-i g l = record {
  length : length l.bytes ≡ l.self.sizes.block_size;
  told : g.B.Blocks.told l.under ≡ g.B.Blocks.told l.fn.under;
  size : g.B.Blocks.size l.under ≡ g.B.Blocks.size l.fn.under;
  changed : g.B.Blocks.changed l.under ≡ g.B.Blocks.changed l.fn.under;
  pairs : g.B.Blocks.pairs l.under ≡ g.B.Blocks.pairs l.fn.under;
  frame : g.B.Blocks.frame l.under ≡ g.B.Blocks.frame l.fn.under;
  later : AreLater (g.B.Blocks.counts l.fn.under) (g.B.Blocks.counts l.under);
  walked : (m : ℕ → Option (List ℕ)) → g.B.Blocks.told l.fn.under ≡ Some m → AreTold m (run_blocks l.self.sizes l.fn.array) → IsWalked l.self.sizes (contents m) (run_blocks l.self.sizes l.fn.array) l.place l.i l.left;
  so_far : IsSoFar l.self.sizes l.fn.array (g.B.Blocks.told l.fn.under) l.place l.i l.left;
}
