use Rattle.std.proofs.Common.{◌≡◌, ℕ, List, take, Option, Some}
use Rattle.bfs_base.specs.Lists.{times}
use Rattle.bfs_txn.specs.Faults.{AreLater}
use Rattle.bfs_stream.specs.Told.{contents}
use Rattle.bfs_sound.specs.Whole.{volume_of}
use Rattle.bfs_attrs_walk.specs.Passes.{AreReached, blocks_of_leads}
use Rattle.bfs_attrs_walk.proofs.owners.find_among.Given as goal

abbrev pub invariant-loop-i : goal.invariant-loop-i
invariant-loop-i g l = record {
  told : g.B.Blocks.told l.under ≡ g.B.Blocks.told l.fn.under;
  changed : g.B.Blocks.changed l.under ≡ g.B.Blocks.changed l.fn.under;
  pairs : g.B.Blocks.pairs l.under ≡ g.B.Blocks.pairs l.fn.under;
  size : g.B.Blocks.size l.under ≡ g.B.Blocks.size l.fn.under;
  frame : g.B.Blocks.frame l.under ≡ g.B.Blocks.frame l.fn.under;
  later : AreLater (g.B.Blocks.counts l.fn.under) (g.B.Blocks.counts l.under);
  none : (m : ℕ → Option (List ℕ)) → g.B.Blocks.told l.fn.under ≡ Some m → AreReached (volume_of l.sup (contents m)) l.leads → times l.block (blocks_of_leads (volume_of l.sup (contents m)) (take l.i l.leads)) ≡ 0;
}
