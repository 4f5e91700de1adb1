use Rattle.std.proofs.Common.{◌≡◌, ◌++◌, ℕ, List, Option, Some, drop, map}
use Rattle.bfs_super.specs.Geometry.{geometry_of}
use Rattle.bfs_txn.specs.Faults.{AreLater}
use Rattle.bfs_attr.specs.Bearers.{volume_at}
use Rattle.bfs_attr.specs.Directories.{kind_row, AreThere}
use Rattle.bfs_attr.proofs.reading.push_kinds.Given as goal

abbrev pub invariant-loop-inode : goal.invariant-loop-inode
invariant-loop-inode g l = record {
  told : g.B.Blocks.told l.under ≡ g.B.Blocks.told l.fn.under;
  changed : g.B.Blocks.changed l.under ≡ g.B.Blocks.changed l.fn.under;
  pairs : g.B.Blocks.pairs l.under ≡ g.B.Blocks.pairs l.fn.under;
  size : g.B.Blocks.size l.under ≡ g.B.Blocks.size l.fn.under;
  frame : g.B.Blocks.frame l.under ≡ g.B.Blocks.frame l.fn.under;
  later : AreLater (g.B.Blocks.counts l.fn.under) (g.B.Blocks.counts l.under);
  there : (m : ℕ → Option (List ℕ)) → AreThere m l.inodes → AreThere m (drop l.inode-index l.inodes);
  rest : (m : ℕ → Option (List ℕ)) → g.B.Blocks.told l.fn.under ≡ Some m → AreThere m l.inodes → l.rows.items ++ map (kind_row (volume_at (geometry_of l.site.sup) m)) (drop l.inode-index l.inodes) ≡ l.fn.rows.items ++ map (kind_row (volume_at (geometry_of l.site.sup) m)) l.inodes;
}
