use Rattle.std.proofs.Common.{◌≡◌, ◌≤◌, ◌+◌, ℕ, List, Option, Some, drop}
use Rattle.bfs_super.specs.Geometry.{geometry_of}
use Rattle.bfs_txn.specs.Faults.{AreLater}
use Rattle.bfs_tree.specs.Trees.{Node, Tree, IsNode}
use Rattle.bfs_shift.specs.Lists.{Lists}
use Rattle.bfs_look.specs.Ready.{IsReady}
use Rattle.bfs_remove_node.specs.Counted.{listed_among}
use Rattle.bfs_remove_node.proofs.listed.listed_among.Given as goal

abbrev pub invariant-loop-row : goal.invariant-loop-row
invariant-loop-row g l = record {
  bitmap : l.bitmap ≡ l.fn.bitmap;
  told : g.E.Blocks.told l.edits ≡ g.E.Blocks.told l.fn.edits;
  changed : g.E.Blocks.changed l.edits ≡ g.E.Blocks.changed l.fn.edits;
  size : g.E.Blocks.size l.edits ≡ g.E.Blocks.size l.fn.edits;
  frame : g.E.Blocks.frame l.edits ≡ g.E.Blocks.frame l.fn.edits;
  later : AreLater (g.E.Blocks.counts l.fn.edits) (g.E.Blocks.counts l.edits);
  few : l.count ≤ 4294967296;
  rest : (m : ℕ → Option (List ℕ)) (tree : Tree) (lists : Lists) (n : Node) → g.E.Blocks.told l.fn.edits ≡ Some m → IsReady (geometry_of l.sup) l.fn.bitmap m tree lists → IsNode tree l.id n
      → l.count + listed_among tree l.id (drop l.row-index l.rows) ≡ listed_among tree l.id l.rows;
}
