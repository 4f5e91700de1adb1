use Rattle.std.proofs.Common.{◌≡◌, ◌≤◌, ℕ, List, length, take, Option, Some}
use Rattle.bfs_super.specs.Geometry.{geometry_of}
use Rattle.bfs_txn.specs.Faults.{AreLater}
use Rattle.bfs_tree.specs.Trees.{Tree}
use Rattle.bfs_shift.specs.Lists.{Lists}
use Rattle.bfs_look.specs.Climbs.{Climbs}
use Rattle.bfs_look.specs.Ready.{IsReady, HasNodeAt}
use Rattle.bfs_look.proofs.way.way_down.Given as goal

abbrev pub invariant-loop-left : goal.invariant-loop-left
invariant-loop-left g l = record {
  bitmap : l.bitmap ≡ l.fn.bitmap;
  told : g.E.Blocks.told l.edits ≡ g.E.Blocks.told l.fn.edits;
  changed : g.E.Blocks.changed l.edits ≡ g.E.Blocks.changed l.fn.edits;
  pairs : g.E.Blocks.pairs l.edits ≡ g.E.Blocks.pairs l.fn.edits;
  size : g.E.Blocks.size l.edits ≡ g.E.Blocks.size l.fn.edits;
  frame : g.E.Blocks.frame l.edits ≡ g.E.Blocks.frame l.fn.edits;
  later : AreLater (g.E.Blocks.counts l.fn.edits) (g.E.Blocks.counts l.edits);
  few : l.left ≤ length l.names;
  node : (m : ℕ → Option (List ℕ)) (tree : Tree) (lists : Lists) → g.E.Blocks.told l.fn.edits ≡ Some m → IsReady (geometry_of l.site.sup) l.fn.bitmap m tree lists → HasNodeAt tree l.at;
  back : (m : ℕ → Option (List ℕ)) (tree : Tree) (lists : Lists) (id : ℕ) → g.E.Blocks.told l.fn.edits ≡ Some m → IsReady (geometry_of l.site.sup) l.fn.bitmap m tree lists → Climbs tree id l.names tree.root → Climbs tree id (take l.left l.names) l.at;
}

abbrev pub decreases-loop-left : goal.decreases-loop-left
decreases-loop-left g l = l.left
