use Rattle.std.proofs.Common.{◌≡◌, ◌++◌, ℕ, List, take, Option, Some}
use Rattle.bfs_txn.specs.Faults.{AreLater}
use Rattle.bfs_stream.specs.Told.{contents}
use Rattle.bfs_sound.specs.Whole.{volume_of}
use Rattle.bfs_claims.specs.Claims.{AreClaimed}
use Rattle.bfs_attr_walk.specs.Attributed.{row_blocks, AreSoundRows}
use Rattle.bfs_attr_walk.proofs.attribute.visit_rows.Given as goal

abbrev pub invariant-loop-i : goal.invariant-loop-i
invariant-loop-i g l = record {
  told : g.B.Blocks.told l.under ≡ g.B.Blocks.told l.fn.under;
  changed : g.B.Blocks.changed l.under ≡ g.B.Blocks.changed l.fn.under;
  pairs : g.B.Blocks.pairs l.under ≡ g.B.Blocks.pairs l.fn.under;
  size : g.B.Blocks.size l.under ≡ g.B.Blocks.size l.fn.under;
  frame : g.B.Blocks.frame l.under ≡ g.B.Blocks.frame l.fn.under;
  later : AreLater (g.B.Blocks.counts l.fn.under) (g.B.Blocks.counts l.under);
  blocks : l.claims.blocks ≡ l.fn.claims.blocks;
  sound : (m : ℕ → Option (List ℕ)) → g.B.Blocks.told l.fn.under ≡ Some m → AreSoundRows (volume_of l.sup (contents m)) (take l.i l.rows);
  claimed : (m : ℕ → Option (List ℕ)) (xs : List ℕ) → g.B.Blocks.told l.fn.under ≡ Some m → AreClaimed l.fn.claims xs → AreClaimed l.claims (xs ++ row_blocks (volume_of l.sup (contents m)) (take l.i l.rows));
}
