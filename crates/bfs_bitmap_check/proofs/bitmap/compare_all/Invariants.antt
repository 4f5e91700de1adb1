use Rattle.std.proofs.Common.{◌≡◌, ◌≤◌, ◌-◌, ◌*◌, ℕ, List, Option, Some, length, min}
use Rattle.bfs_txn.specs.Faults.{AreLater}
use Rattle.bfs_bitmap_check.specs.Bitmaps.{IsBitmapTold, AreSameIn}
use Rattle.bfs_bitmap_check.proofs.bitmap.compare_all.Given as goal

abbrev pub invariant-loop-at : goal.invariant-loop-at
invariant-loop-at g l = record {
  place : l.at ≡ 8 * length l.fn.bytes * l.j;
  few : l.j ≤ l.at;
  long : length l.bytes ≡ length l.fn.bytes;
  told : g.B.Blocks.told l.under ≡ g.B.Blocks.told l.fn.under;
  size : g.B.Blocks.size l.under ≡ g.B.Blocks.size l.fn.under;
  changed : g.B.Blocks.changed l.under ≡ g.B.Blocks.changed l.fn.under;
  pairs : g.B.Blocks.pairs l.under ≡ g.B.Blocks.pairs l.fn.under;
  frame : g.B.Blocks.frame l.under ≡ g.B.Blocks.frame l.fn.under;
  later : AreLater (g.B.Blocks.counts l.fn.under) (g.B.Blocks.counts l.under);
  same : (m : ℕ → Option (List ℕ)) → g.B.Blocks.told l.fn.under ≡ Some m → IsBitmapTold (8 * length l.fn.bytes) m l.claims.blocks
      → AreSameIn (8 * length l.fn.bytes) m l.claims 0 (min l.claims.blocks l.at);
}

abbrev pub decreases-loop-at : goal.decreases-loop-at
decreases-loop-at g l = l.blocks - l.at
