use Rattle.std.proofs.Common.{◌≡◌, ◌≤◌, ◌+◌, ℕ, List, Option, Some, drop, min}
use Rattle.bfs_super.specs.Geometry.{geometry_of}
use Rattle.bfs_txn.specs.Faults.{AreLater}
use Rattle.bfs_shift.specs.Shifts.{volume_in}
use Rattle.bfs_unmake.specs.Counted.{HaveStreams, streams_among}
use Rattle.bfs_unmake.proofs.counting.streams_length.Given as goal

abbrev pub invariant-loop-id : goal.invariant-loop-id
invariant-loop-id g l = record {
  told : g.B.Blocks.told l.under ≡ g.B.Blocks.told l.fn.under;
  changed : g.B.Blocks.changed l.under ≡ g.B.Blocks.changed l.fn.under;
  size : g.B.Blocks.size l.under ≡ g.B.Blocks.size l.fn.under;
  frame : g.B.Blocks.frame l.under ≡ g.B.Blocks.frame l.fn.under;
  later : AreLater (g.B.Blocks.counts l.fn.under) (g.B.Blocks.counts l.under);
  few : l.left ≤ l.most;
  there : (m : ℕ → Option (List ℕ)) → HaveStreams (geometry_of l.site.sup) m l.ids → HaveStreams (geometry_of l.site.sup) m (drop l.id-index l.ids);
  rest : (m : ℕ → Option (List ℕ)) → g.B.Blocks.told l.fn.under ≡ Some m → HaveStreams (geometry_of l.site.sup) m l.ids
      → min (l.left + streams_among (volume_in (geometry_of l.site.sup) m) (drop l.id-index l.ids)) l.most ≡ min (streams_among (volume_in (geometry_of l.site.sup) m) l.ids) l.most;
}
