use Rattle.std.proofs.Common.{◌≡◌, ℕ, List, [], Option, Some, take}
use Rattle.bfs_super.specs.Geometry.{geometry_of}
use Rattle.bfs_txn.specs.Faults.{AreLater}
use Rattle.bfs_txn.specs.Told.{StaysChanged}
use Rattle.bfs_tree.specs.Trees.{Tree}
use Rattle.bfs_shift.specs.Lists.{Lists, with_pairs}
use Rattle.bfs_shift.specs.Work.{IsStepped}
use Rattle.bfs_index_check.specs.Compared.{pairs_of}
use Rattle.bfs_index_make.specs.Filled.{IsToFill}
use Rattle.bfs_index_make.proofs.filling.fill.Given as goal

abbrev pub invariant-loop-i : goal.invariant-loop-i
invariant-loop-i g l = record {
  rest : l.bitmap ≡ record l.fn.bitmap { tally = l.bitmap.tally };
  stays : StaysChanged (g.E.Blocks.changed l.fn.edits) (g.E.Blocks.changed l.edits);
  size : g.E.Blocks.size l.edits ≡ g.E.Blocks.size l.fn.edits;
  frame : g.E.Blocks.frame l.edits ≡ g.E.Blocks.frame l.fn.edits;
  later : AreLater (g.E.Blocks.counts l.fn.edits) (g.E.Blocks.counts l.edits);
  filled : (m : ℕ → Option (List ℕ)) (tree : Tree) (lists : Lists) (name : List ℕ) → g.E.Blocks.told l.fn.edits ≡ Some m → IsToFill (geometry_of l.sup) l.fn.bitmap m tree lists name l.inode l.kind (pairs_of l.pairs)
      → IsStepped (geometry_of l.sup) l.fn.bitmap l.bitmap m tree tree (with_pairs lists name (take l.i (pairs_of l.pairs))) [] (g.E.Blocks.told l.edits) (g.E.Blocks.changed l.fn.edits) (g.E.Blocks.changed l.edits);
}
