use Rattle.std.proofs.Common.{◌≡◌, ◌++◌, ℕ, List, take, Option, Some}
use Rattle.bfs_txn.specs.Faults.{AreLater}
use Rattle.bfs_stream.specs.Told.{contents}
use Rattle.bfs_sound.specs.Whole.{volume_of}
use Rattle.bfs_tree.specs.Listings.{pairs_in}
use Rattle.bfs_tour.specs.Tours.{Visit}
use Rattle.bfs_index_check.specs.Compared.{pairs_of}
use Rattle.bfs_key_walk.specs.Gathered.{AreFor}
use Rattle.bfs_key_walk.specs.Keys.{kept_keys, keys_of_visits}
use Rattle.bfs_key_walk.proofs.gather.gather_leads.Given as goal

abbrev pub invariant-loop-i : goal.invariant-loop-i
invariant-loop-i g l = record {
  told : g.B.Blocks.told l.under ≡ g.B.Blocks.told l.fn.under;
  changed : g.B.Blocks.changed l.under ≡ g.B.Blocks.changed l.fn.under;
  pairs : g.B.Blocks.pairs l.under ≡ g.B.Blocks.pairs l.fn.under;
  size : g.B.Blocks.size l.under ≡ g.B.Blocks.size l.fn.under;
  frame : g.B.Blocks.frame l.under ≡ g.B.Blocks.frame l.fn.under;
  later : AreLater (g.B.Blocks.counts l.fn.under) (g.B.Blocks.counts l.under);
  gathered : (m : ℕ → Option (List ℕ)) (root : ℕ) (es : List Visit) → g.B.Blocks.told l.fn.under ≡ Some m → AreFor (volume_of l.sup (contents m)) root l.leads es → kept_keys l.facts ≡ keys_of_visits es → pairs_of l.pairs.items ≡ pairs_of l.fn.pairs.items ++ pairs_in root l.index l.kind (take l.i es);
}
