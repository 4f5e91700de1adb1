use Rattle.std.proofs.Common.{◌≡◌, ◌≤◌, ◌+◌, ◌*◌, ℕ, List, Option, Some, true, length, take}
use Rattle.std.specs.Prelude.{All}
use Rattle.std.specs.List.{flat_map}
use Rattle.bfs_txn.specs.Faults.{AreLater}
use Rattle.bfs_stream.specs.Places.{array_runs}
use Rattle.bfs_stream.specs.Told.{contents}
use Rattle.bfs_stream_check.specs.Known.{IsAllTold}
use Rattle.bfs_stream_check.specs.Read.{sizes_in, IsRunOf}
use Rattle.bfs_stream_check.proofs.Takes.{IsOn}
use Rattle.bfs_stream_check.proofs.array.read_arrays.Given as goal

abbrev pub invariant-loop-i : goal.invariant-loop-i
invariant-loop-i g l = record {
  long : length l.bytes ≡ l.fn.bounds.block_size;
  told : g.B.Blocks.told l.under ≡ g.B.Blocks.told l.fn.under;
  size : g.B.Blocks.size l.under ≡ g.B.Blocks.size l.fn.under;
  changed : g.B.Blocks.changed l.under ≡ g.B.Blocks.changed l.fn.under;
  pairs : g.B.Blocks.pairs l.under ≡ g.B.Blocks.pairs l.fn.under;
  frame : g.B.Blocks.frame l.under ≡ g.B.Blocks.frame l.fn.under;
  later : AreLater (g.B.Blocks.counts l.fn.under) (g.B.Blocks.counts l.under);
  sound : All (IsRunOf (sizes_in l.fn.bounds) true) l.fn.into.items → All (IsRunOf (sizes_in l.fn.bounds) true) l.into.items;
  few : length l.into.items ≤ length l.fn.into.items + 1024 * l.i;
  taken : (m : ℕ → Option (List ℕ)) → g.B.Blocks.told l.fn.under ≡ Some m → IsAllTold (sizes_in l.fn.bounds) m
      → IsOn (flat_map (array_runs (sizes_in l.fn.bounds) (contents m)) (take l.i l.fn.arrays)) l.fn.into.items l.into.items;
}
