use Rattle.std.proofs.Common.{◌≡◌, ◌<◌, ◌⊎◌, ℕ, List, Option, Some, true, drop}
use Rattle.bfs_super.specs.Conditions.{natural}
use Rattle.bfs_super.specs.Geometry.{geometry_of}
use Rattle.bfs_bitmap.specs.Fills.{IsBitmapBlock}
use Rattle.bfs_txn.specs.Faults.{AreLater}
use Rattle.bfs_txn.specs.Told.{StaysChanged}
use Rattle.bfs_stream.specs.Grown.{IsOfVolume}
use Rattle.bfs_stream.specs.Sizes.{sizes_of}
use Rattle.bfs_tree.specs.Trees.{Tree}
use Rattle.bfs_shift.specs.Lists.{Lists}
use Rattle.bfs_unlist.specs.Reading.{IsUnlisting}
use Rattle.bfs_unlist.proofs.Far.{IsFar}
use Rattle.bfs_unlist.proofs.unlisting.unlist_from_all.Given as goal

abbrev pub invariant-loop-row : goal.invariant-loop-row
invariant-loop-row g l = record {
  size : g.E.Blocks.size l.edits ≡ g.E.Blocks.size l.fn.edits;
  frame : g.E.Blocks.frame l.edits ≡ g.E.Blocks.frame l.fn.edits;
  rest : l.bitmap ≡ record l.fn.bitmap { tally = l.bitmap.tally };
  volume : IsOfVolume (sizes_of l.site.sup) l.bitmap;
  later : AreLater (g.E.Blocks.counts l.fn.edits) (g.E.Blocks.counts l.edits);
  stays : StaysChanged (g.E.Blocks.changed l.fn.edits) (g.E.Blocks.changed l.edits);
  changed : (k : ℕ) → g.E.Blocks.changed l.edits k ≡ true → (g.E.Blocks.changed l.fn.edits k ≡ true) ⊎ (IsBitmapBlock l.fn.bitmap k ⊎ (k < natural l.site.sup.num_blocks));
  far : (m : ℕ → Option (List ℕ)) (tree : Tree) (lists now : Lists) → g.E.Blocks.told l.fn.edits ≡ Some m → IsUnlisting (geometry_of l.site.sup) l.fn.bitmap m tree lists now l.id l.info l.rows
      → IsFar (geometry_of l.site.sup) l.fn.bitmap l.bitmap m tree lists l.id l.info (drop l.row-index l.rows) (g.E.Blocks.told l.edits) (g.E.Blocks.changed l.fn.edits) (g.E.Blocks.changed l.edits);
}
