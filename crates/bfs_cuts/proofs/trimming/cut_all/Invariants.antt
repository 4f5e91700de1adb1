use Rattle.std.proofs.Common.{◌≡◌, ◌<◌, ◌⊎◌, true, ℕ, List, [], Option, Some, length}
use Rattle.bfs_txn.specs.Faults.{AreLater}
use Rattle.bfs_txn.specs.Told.{StaysChanged}
use Rattle.bfs_bitmap.specs.Runs.{as_kept}
use Rattle.bfs_bitmap.specs.Fills.{IsBitmapBlock}
use Rattle.bfs_stream.specs.Grown.{IsOfVolume, Owns}
use Rattle.bfs_stream.specs.Standing.{standing}
use Rattle.bfs_stream.specs.Trimmed.{MayLose, HasSpare}
use Rattle.bfs_cuts.proofs.CutTwice.{IsTrimmedSo}
use Rattle.bfs_cuts.proofs.trimming.cut_all.Given as goal

abbrev pub decreases-loop-gone : goal.decreases-loop-gone
decreases-loop-gone g l = l.left

abbrev pub invariant-loop-gone : goal.invariant-loop-gone
invariant-loop-gone g l = record {
  long : length l.bytes ≡ l.stream.sizes.block_size;
  size : g.E.Blocks.size l.edits ≡ g.E.Blocks.size l.fn.edits;
  frame : g.E.Blocks.frame l.edits ≡ g.E.Blocks.frame l.fn.edits;
  rest : l.bitmap ≡ record l.fn.bitmap { given = l.bitmap.given; tally = l.bitmap.tally };
  kept : as_kept l.bitmap ≡ as_kept l.fn.bitmap;
  stands : standing l.bitmap ≡ standing l.fn.bitmap;
  volume : IsOfVolume l.stream.sizes l.bitmap;
  trimmed : (m : ℕ → Option (List ℕ)) → g.E.Blocks.told l.fn.edits ≡ Some m → Owns l.stream l.fn.bitmap [] m → MayLose l.stream m l.fn.blocks → HasSpare l.stream m l.fn.blocks → IsTrimmedSo l.stream l.fn.bitmap l.bitmap m l.fn.blocks l.left (g.E.Blocks.told l.edits) (g.E.Blocks.changed l.fn.edits) (g.E.Blocks.changed l.edits);
  later : AreLater (g.E.Blocks.counts l.fn.edits) (g.E.Blocks.counts l.edits);
  changed : (k : ℕ) → g.E.Blocks.changed l.edits k ≡ true → (g.E.Blocks.changed l.fn.edits k ≡ true) ⊎ (IsBitmapBlock l.fn.bitmap k ⊎ (k < l.stream.sizes.blocks));
  stays : StaysChanged (g.E.Blocks.changed l.fn.edits) (g.E.Blocks.changed l.edits);
}
