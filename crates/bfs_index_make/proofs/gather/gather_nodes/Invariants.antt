use Rattle.std.proofs.Common.{◌≡◌, ◌++◌, ℕ, List, Option, Some, false, drop}
use Rattle.bfs_super.specs.Geometry.{geometry_of}
use Rattle.bfs_bitmap.specs.Runs.{Room}
use Rattle.bfs_txn.specs.Faults.{AreLater}
use Rattle.bfs_tree.specs.Refusals.{is_built_in}
use Rattle.bfs_tree.specs.Trees.{Tree}
use Rattle.bfs_shift.specs.Lists.{Lists}
use Rattle.bfs_look.specs.Ready.{IsReady}
use Rattle.bfs_index_check.specs.Compared.{pairs_of}
use Rattle.bfs_index_make.specs.Gathered.{AreNodes, pairs_at}
use Rattle.bfs_index_make.proofs.gather.gather_nodes.Given as goal

abbrev pub invariant-loop-id : goal.invariant-loop-id
invariant-loop-id g l = record {
  told : g.B.Blocks.told l.under ≡ g.B.Blocks.told l.fn.under;
  changed : g.B.Blocks.changed l.under ≡ g.B.Blocks.changed l.fn.under;
  size : g.B.Blocks.size l.under ≡ g.B.Blocks.size l.fn.under;
  frame : g.B.Blocks.frame l.under ≡ g.B.Blocks.frame l.fn.under;
  later : AreLater (g.B.Blocks.counts l.fn.under) (g.B.Blocks.counts l.under);
  there : (tree : Tree) → AreNodes tree l.ids → AreNodes tree (drop l.id-index l.ids);
  rest : (v : Room) (m : ℕ → Option (List ℕ)) (tree : Tree) (lists : Lists) → g.B.Blocks.told l.fn.under ≡ Some m → IsReady (geometry_of l.site.sup) v m tree lists → AreNodes tree l.ids → is_built_in l.name ≡ false
      → pairs_of l.pairs.items ++ pairs_at tree l.name l.kind (drop l.id-index l.ids) ≡ pairs_of l.fn.pairs.items ++ pairs_at tree l.name l.kind l.ids;
}
