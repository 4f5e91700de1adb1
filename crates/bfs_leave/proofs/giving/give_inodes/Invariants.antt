use Rattle.std.proofs.Common.{◌≡◌, ℕ, List, Option, Some}
use Rattle.bfs_super.specs.Geometry.{geometry_of}
use Rattle.bfs_txn.specs.Faults.{AreLater}
use Rattle.bfs_txn.specs.Told.{StaysChanged}
use Rattle.bfs_bitmap.specs.Runs.{Fits, as_kept}
use Rattle.bfs_stream.specs.Grown.{IsOfVolume}
use Rattle.bfs_stream.specs.Sizes.{sizes_of}
use Rattle.bfs_stream.specs.Standing.{standing}
use Rattle.bfs_leave.specs.Given.{AreLoose}
use Rattle.bfs_leave.proofs.Inodes.{GaveSoFar}
use Rattle.bfs_leave.proofs.giving.give_inodes.Given as goal

abbrev pub invariant-loop-i : goal.invariant-loop-i
invariant-loop-i g l = record {
  size : g.E.Blocks.size l.edits ≡ g.E.Blocks.size l.fn.edits;
  frame : g.E.Blocks.frame l.edits ≡ g.E.Blocks.frame l.fn.edits;
  rest : l.bitmap ≡ record l.fn.bitmap { given = l.bitmap.given; tally = l.bitmap.tally };
  kept : as_kept l.bitmap ≡ as_kept l.fn.bitmap;
  stands : standing l.bitmap ≡ standing l.fn.bitmap;
  volume : IsOfVolume (sizes_of l.fn.site.sup) l.bitmap;
  later : AreLater (g.E.Blocks.counts l.fn.edits) (g.E.Blocks.counts l.edits);
  stays : StaysChanged (g.E.Blocks.changed l.fn.edits) (g.E.Blocks.changed l.edits);
  gave : (m : ℕ → Option (List ℕ)) → g.E.Blocks.told l.fn.edits ≡ Some m → Fits l.fn.bitmap m → AreLoose (geometry_of l.fn.site.sup) m l.ids → GaveSoFar (geometry_of l.fn.site.sup) l.fn.bitmap l.bitmap m l.ids l.i (g.E.Blocks.told l.edits) (g.E.Blocks.changed l.fn.edits) (g.E.Blocks.changed l.edits);
}
