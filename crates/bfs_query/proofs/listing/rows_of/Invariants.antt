use Rattle.std.proofs.Common.{◌≡◌, ◌++◌, ℕ, List, Option, Some, drop, map}
use Rattle.std.specs.List.{AllByRecursion}
use Rattle.bfs_super.specs.Geometry.{geometry_of}
use Rattle.bfs_bitmap.specs.Runs.{Room}
use Rattle.bfs_txn.specs.Faults.{AreLater}
use Rattle.bfs_tree.specs.Trees.{Tree}
use Rattle.bfs_shift.specs.Lists.{Lists}
use Rattle.bfs_look.specs.Ready.{IsReady}
use Rattle.bfs_query.specs.Indices.{index_row, IsIndexRowOf}
use Rattle.bfs_query.proofs.listing.rows_of.Given as goal

abbrev pub invariant-loop-row : goal.invariant-loop-row
invariant-loop-row g l = record {
  told : g.B.Blocks.told l.under ≡ g.B.Blocks.told l.fn.under;
  changed : g.B.Blocks.changed l.under ≡ g.B.Blocks.changed l.fn.under;
  pairs : g.B.Blocks.pairs l.under ≡ g.B.Blocks.pairs l.fn.under;
  size : g.B.Blocks.size l.under ≡ g.B.Blocks.size l.fn.under;
  frame : g.B.Blocks.frame l.under ≡ g.B.Blocks.frame l.fn.under;
  later : AreLater (g.B.Blocks.counts l.fn.under) (g.B.Blocks.counts l.under);
  there : (lists : Lists) → AllByRecursion (IsIndexRowOf lists) l.named → AllByRecursion (IsIndexRowOf lists) (drop l.row-index l.named);
  rest : (v : Room) (m : ℕ → Option (List ℕ)) (tree : Tree) (lists : Lists) → g.B.Blocks.told l.fn.under ≡ Some m → IsReady (geometry_of l.site.sup) v m tree lists → AllByRecursion (IsIndexRowOf lists) l.named
      → l.rows.items ++ map (index_row lists) (drop l.row-index l.named) ≡ map (index_row lists) l.named;
}
