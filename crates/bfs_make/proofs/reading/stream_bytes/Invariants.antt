use Rattle.std.proofs.Common.{◌≡◌, ◌≤◌, ◌+◌, ◌*◌, ℕ, List, length, Option, Some}
use Rattle.bfs_txn.specs.Faults.{AreLater}
use Rattle.bfs_stream.specs.Places.{places_at}
use Rattle.bfs_stream.specs.Sizes.{sizes_of}
use Rattle.bfs_stream.specs.Told.{contents, AreTold, Stands}
use Rattle.bfs_make.specs.Sites.{stream_in}
use Rattle.bfs_make.proofs.Pieces.{IsPartly}
use Rattle.bfs_make.proofs.reading.stream_bytes.Given as goal

abbrev pub invariant-loop-left : goal.invariant-loop-left
invariant-loop-left g l = record {
  told : g.B.Blocks.told l.under ≡ g.B.Blocks.told l.fn.under;
  changed : g.B.Blocks.changed l.under ≡ g.B.Blocks.changed l.fn.under;
  pairs : g.B.Blocks.pairs l.under ≡ g.B.Blocks.pairs l.fn.under;
  size : g.B.Blocks.size l.under ≡ g.B.Blocks.size l.fn.under;
  frame : g.B.Blocks.frame l.under ≡ g.B.Blocks.frame l.fn.under;
  later : AreLater (g.B.Blocks.counts l.fn.under) (g.B.Blocks.counts l.under);
  few : l.index + l.left ≤ l.size;
  partly : (m : ℕ → Option (List ℕ)) → g.B.Blocks.told l.fn.under ≡ Some m → Stands (stream_in l.site l.id) m → AreTold m (places_at (sizes_of l.site.sup) (contents m) l.id) → l.size ≤ l.site.sup.block_size * length (places_at (sizes_of l.site.sup) (contents m) l.id) → IsPartly (contents m) l.site.sup.block_size (places_at (sizes_of l.site.sup) (contents m) l.id) l.index l.left l.size l.bytes.items;
}

abbrev pub decreases-loop-left : goal.decreases-loop-left
decreases-loop-left g l = l.left
