use Rattle.std.proofs.Common.{◌≡◌, ◌≤◌, ◌-◌, ℕ, List, length, take, Option, Some}
use Rattle.bfs_super.specs.Conditions.{natural}
use Rattle.bfs_txn.specs.Faults.{AreLater}
use Rattle.bfs_stream.specs.Told.{contents}
use Rattle.bfs_sound.specs.Whole.{volume_of}
use Rattle.bfs_nodes_walk.specs.Facts.{AreFactsOf}
use Rattle.bfs_nodes_walk.specs.Leads.{AreInside}
use Rattle.bfs_nodes_walk.specs.Walks.{IsWalkedTo}
use Rattle.bfs_nodes_walk.proofs.walk.follow_all.Given as goal

abbrev pub invariant-loop-at : goal.invariant-loop-at
invariant-loop-at g l = record {
  told : g.B.Blocks.told l.under ≡ g.B.Blocks.told l.fn.under;
  changed : g.B.Blocks.changed l.under ≡ g.B.Blocks.changed l.fn.under;
  pairs : g.B.Blocks.pairs l.under ≡ g.B.Blocks.pairs l.fn.under;
  size : g.B.Blocks.size l.under ≡ g.B.Blocks.size l.fn.under;
  frame : g.B.Blocks.frame l.under ≡ g.B.Blocks.frame l.fn.under;
  later : AreLater (g.B.Blocks.counts l.fn.under) (g.B.Blocks.counts l.under);
  blocks : l.claims.blocks ≡ l.fn.claims.blocks;
  facts : (m : ℕ → Option (List ℕ)) → g.B.Blocks.told l.fn.under ≡ Some m → AreFactsOf (volume_of l.sup (contents m)) (take l.at l.leads.items) l.facts.items;
  many : length l.facts.items ≡ l.at;
  within : l.at ≤ length l.leads.items;
  inside : AreInside (natural l.sup.num_blocks) (take l.at l.leads.items);
  walked : (m : ℕ → Option (List ℕ)) (xs : List ℕ) → g.B.Blocks.told l.fn.under ≡ Some m → IsWalkedTo (volume_of l.sup (contents m)) xs l.fn.claims l.fn.leads.items 0 → IsWalkedTo (volume_of l.sup (contents m)) xs l.claims l.leads.items l.at;
}

-- each row that is followed has a block claimed that wasn't
abbrev pub decreases-loop-at : goal.decreases-loop-at
decreases-loop-at g l = l.claims.blocks - l.claims.count
