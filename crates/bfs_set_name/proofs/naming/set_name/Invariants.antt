use Rattle.std.proofs.Common.{◌≡◌, ℕ, List, Option, Some}
use Rattle.bfs_txn.specs.Faults.{AreLater}
use Rattle.bfs_txn.specs.Told.{StaysChanged}
use Rattle.bfs_stream.specs.Grown.{IsOfVolume}
use Rattle.bfs_stream.specs.Sizes.{sizes_of}
use Rattle.bfs_attr.specs.Bearers.{bearer_of}
use Rattle.bfs_set_name.proofs.Joins.{SoFar}
use Rattle.bfs_set_name.proofs.naming.set_name.Given as goal

abbrev pub invariant-loop-left : goal.invariant-loop-left
invariant-loop-left g l = record {
  size : g.E.Blocks.size l.edits ≡ g.E.Blocks.size l.fn.edits;
  frame : g.E.Blocks.frame l.edits ≡ g.E.Blocks.frame l.fn.edits;
  rest : l.bitmap ≡ record l.fn.bitmap { tally = l.bitmap.tally };
  volume : IsOfVolume (sizes_of l.fn.site.sup) l.bitmap;
  later : AreLater (g.E.Blocks.counts l.fn.edits) (g.E.Blocks.counts l.edits);
  stays : StaysChanged (g.E.Blocks.changed l.fn.edits) (g.E.Blocks.changed l.edits);
  so_far : (m : ℕ → Option (List ℕ)) → g.E.Blocks.told l.fn.edits ≡ Some m
      → SoFar (bearer_of l.fn.inode l.fn.site.sup) l.fn.bitmap l.bitmap m l.name (g.E.Blocks.told l.edits) (g.E.Blocks.changed l.fn.edits) (g.E.Blocks.changed l.edits) l.left;
}

abbrev pub decreases-loop-left : goal.decreases-loop-left
decreases-loop-left g l = l.left
