use Rattle.std.proofs.Common.{◌≡◌, ℕ, List, Option, Some}
use Rattle.bfs_super.specs.Geometry.{geometry_of}
use Rattle.bfs_bitmap.specs.Runs.{Room}
use Rattle.bfs_txn.specs.Faults.{AreLater}
use Rattle.bfs_tree.specs.Trees.{Node, Tree, IsNode}
use Rattle.bfs_shift.specs.Lists.{Lists}
use Rattle.bfs_look.specs.Ready.{IsReady}
use Rattle.bfs_rename.proofs.Passing.{IsPassed}
use Rattle.bfs_rename.proofs.below.leads_to.Given as goal

abbrev pub invariant-loop-at : goal.invariant-loop-at
invariant-loop-at g l = record {
  told : g.B.Blocks.told l.under ≡ g.B.Blocks.told l.fn.under;
  changed : g.B.Blocks.changed l.under ≡ g.B.Blocks.changed l.fn.under;
  size : g.B.Blocks.size l.under ≡ g.B.Blocks.size l.fn.under;
  frame : g.B.Blocks.frame l.under ≡ g.B.Blocks.frame l.fn.under;
  later : AreLater (g.B.Blocks.counts l.fn.under) (g.B.Blocks.counts l.under);
  way : (v : Room) (m : ℕ → Option (List ℕ)) (tree : Tree) (lists : Lists) (n : Node) → g.B.Blocks.told l.fn.under ≡ Some m → IsReady (geometry_of l.site.sup) v m tree lists → IsNode tree l.from n → IsPassed tree l.id l.from l.left l.at;
}

abbrev pub decreases-loop-at : goal.decreases-loop-at
decreases-loop-at g l = l.left
