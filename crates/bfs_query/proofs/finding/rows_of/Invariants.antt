use Rattle.std.proofs.Common.{◌≡◌, ◌++◌, ℕ, List, Option, Some, drop, map}
use Rattle.bfs_super.specs.Geometry.{geometry_of}
use Rattle.bfs_bitmap.specs.Runs.{Room}
use Rattle.bfs_txn.specs.Faults.{AreLater}
use Rattle.bfs_txn.specs.Told.{AreSized}
use Rattle.bfs_tree.specs.Trees.{Tree}
use Rattle.bfs_shift.specs.Lists.{Lists}
use Rattle.bfs_look.specs.Ready.{IsReady}
use Rattle.bfs_query.specs.Indices.{row_found}
use Rattle.bfs_query.specs.Resting.{AreSaid}
use Rattle.bfs_query.proofs.finding.rows_of.Given as goal

abbrev pub invariant-loop-pair : goal.invariant-loop-pair
invariant-loop-pair g l = record {
  told : g.B.Blocks.told l.under ≡ g.B.Blocks.told l.fn.under;
  changed : g.B.Blocks.changed l.under ≡ g.B.Blocks.changed l.fn.under;
  size : g.B.Blocks.size l.under ≡ g.B.Blocks.size l.fn.under;
  frame : g.B.Blocks.frame l.under ≡ g.B.Blocks.frame l.fn.under;
  later : AreLater (g.B.Blocks.counts l.fn.under) (g.B.Blocks.counts l.under);
  there : (w m : ℕ → Option (List ℕ)) (tree : Tree) → AreSaid w m tree l.pairs → AreSaid w m tree (drop l.pair-index l.pairs);
  rest : (v : Room) (m w : ℕ → Option (List ℕ)) (tree : Tree) (lists : Lists) → g.B.Blocks.told l.fn.under ≡ Some m → AreSized l.site.sup.block_size (Some w) → IsReady (geometry_of l.site.sup) v w tree lists → AreSaid w m tree l.pairs
      → l.rows.items ++ map (row_found tree.nodes l.kind) (drop l.pair-index l.pairs) ≡ map (row_found tree.nodes l.kind) l.pairs;
}
