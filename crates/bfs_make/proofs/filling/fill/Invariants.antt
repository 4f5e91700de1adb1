use Rattle.std.proofs.Common.{◌≡◌, ◌<◌, ◌⊎◌, ℕ, true, List, Option, Some}
use Rattle.bfs_base.specs.Lists.{IsOnce}
use Rattle.bfs_super.specs.Conditions.{natural}
use Rattle.bfs_txn.specs.Faults.{AreLater}
use Rattle.bfs_txn.specs.Told.{StaysChanged}
use Rattle.bfs_stream.specs.Places.{whole_at}
use Rattle.bfs_stream.specs.Sizes.{sizes_of}
use Rattle.bfs_stream.specs.Told.{contents, Stands}
use Rattle.bfs_make.specs.Filled.{IsFilledTo}
use Rattle.bfs_make.specs.Sites.{stream_in}
use Rattle.bfs_make.proofs.filling.fill.Given as goal

abbrev pub invariant-loop-at : goal.invariant-loop-at
invariant-loop-at g l = record {
  size : g.E.Blocks.size l.edits ≡ g.E.Blocks.size l.fn.edits;
  frame : g.E.Blocks.frame l.edits ≡ g.E.Blocks.frame l.fn.edits;
  later : AreLater (g.E.Blocks.counts l.fn.edits) (g.E.Blocks.counts l.edits);
  changed : (k : ℕ) → g.E.Blocks.changed l.edits k ≡ true → (g.E.Blocks.changed l.fn.edits k ≡ true) ⊎ (k < natural l.site.sup.num_blocks);
  stays : StaysChanged (g.E.Blocks.changed l.fn.edits) (g.E.Blocks.changed l.edits);
  filled : (m : ℕ → Option (List ℕ)) → g.E.Blocks.told l.fn.edits ≡ Some m → Stands (stream_in l.site l.id) m → IsOnce (whole_at (sizes_of l.site.sup) (contents m) l.id)
      → IsFilledTo (stream_in l.site l.id) m l.bytes l.at (g.E.Blocks.told l.edits) (g.E.Blocks.changed l.fn.edits) (g.E.Blocks.changed l.edits);
}
