use Rattle.std.proofs.Common.{◌≡◌, ◌++◌, ℕ, List, take, Option, Some}
use Rattle.bfs_super.specs.Conditions.{natural}
use Rattle.bfs_txn.specs.Faults.{AreLater}
use Rattle.bfs_stream.specs.Told.{contents}
use Rattle.bfs_sound.specs.Whole.{volume_of}
use Rattle.bfs_claims.specs.Claims.{AreClaimed}
use Rattle.bfs_names_walk.specs.Rows.{as_rows}
use Rattle.bfs_node_walk.specs.Listed.{proper}
use Rattle.bfs_attrs_walk.specs.Attributed.{row_blocks}
use Rattle.bfs_index_walk.specs.Indices.{AreFound, AreInside}
use Rattle.bfs_index_walk.proofs.row.visit_rows.Given as goal

abbrev pub invariant-loop-i : goal.invariant-loop-i
invariant-loop-i g l = record {
  told : g.B.Blocks.told l.under ≡ g.B.Blocks.told l.fn.under;
  changed : g.B.Blocks.changed l.under ≡ g.B.Blocks.changed l.fn.under;
  pairs : g.B.Blocks.pairs l.under ≡ g.B.Blocks.pairs l.fn.under;
  size : g.B.Blocks.size l.under ≡ g.B.Blocks.size l.fn.under;
  frame : g.B.Blocks.frame l.under ≡ g.B.Blocks.frame l.fn.under;
  later : AreLater (g.B.Blocks.counts l.fn.under) (g.B.Blocks.counts l.under);
  blocks : l.claims.blocks ≡ l.fn.claims.blocks;
  inside : AreInside (natural l.sup.num_blocks) l.found.items;
  found : (m : ℕ → Option (List ℕ)) → g.B.Blocks.told l.fn.under ≡ Some m → AreFound (volume_of l.sup (contents m)) (proper (as_rows (take l.i l.rows))) l.found.items;
  claimed : (m : ℕ → Option (List ℕ)) (xs : List ℕ) → g.B.Blocks.told l.fn.under ≡ Some m → AreClaimed l.fn.claims xs → AreClaimed l.claims (xs ++ row_blocks (volume_of l.sup (contents m)) (take l.i l.rows));
}
