use Rattle.std.proofs.Common.{◌≡◌, ◌≤◌, ◌<◌, ◌⊎◌, true, ℕ, List, [], Option, Some, length}
use Rattle.bfs_txn.specs.Faults.{AreLater}
use Rattle.bfs_txn.specs.Told.{StaysChanged}
use Rattle.bfs_bitmap.specs.Fills.{IsBitmapBlock}
use Rattle.bfs_stream.specs.Grown.{IsOfVolume, Owns}
use Rattle.bfs_growth.proofs.Twice.{IsGrownSo}
use Rattle.bfs_growth.proofs.next.add_all.Given as goal

abbrev pub decreases-loop-left : goal.decreases-loop-left
decreases-loop-left g l = l.left

abbrev pub invariant-loop-left : goal.invariant-loop-left
invariant-loop-left g l = record {
  long : length l.bytes ≡ l.stream.sizes.block_size;
  size : g.E.Blocks.size l.edits ≡ g.E.Blocks.size l.fn.edits;
  frame : g.E.Blocks.frame l.edits ≡ g.E.Blocks.frame l.fn.edits;
  rest : l.bitmap ≡ record l.fn.bitmap { tally = l.bitmap.tally };
  volume : IsOfVolume l.stream.sizes l.bitmap;
  grown : (m : ℕ → Option (List ℕ)) → g.E.Blocks.told l.fn.edits ≡ Some m → Owns l.stream l.fn.bitmap [] m → IsGrownSo l.stream l.fn.bitmap l.bitmap m l.fn.blocks l.left (g.E.Blocks.told l.edits) (g.E.Blocks.changed l.fn.edits) (g.E.Blocks.changed l.edits);
  left : l.left ≤ l.fn.blocks;
  later : AreLater (g.E.Blocks.counts l.fn.edits) (g.E.Blocks.counts l.edits);
  changed : (k : ℕ) → g.E.Blocks.changed l.edits k ≡ true → (g.E.Blocks.changed l.fn.edits k ≡ true) ⊎ (IsBitmapBlock l.fn.bitmap k ⊎ (k < l.stream.sizes.blocks));
  stays : StaysChanged (g.E.Blocks.changed l.fn.edits) (g.E.Blocks.changed l.edits);
}
