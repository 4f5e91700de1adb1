use Rattle.std.proofs.Common.{◌≡◌, ℕ, List, take, Option, Some}
use Rattle.bfs_txn.specs.Faults.{AreLater}
use Rattle.bfs_stream.specs.Told.{contents}
use Rattle.bfs_sound.specs.Whole.{volume_of}
use Rattle.bfs_tour.specs.Tours.{Visit, toured_tree}
use Rattle.bfs_key_walk.specs.Gathered.{oldest_first}
use Rattle.bfs_key_walk.specs.Keys.{kept_keys, keys_of_visits}
use Rattle.bfs_index_walk.specs.Indices.{kinds_of}
use Rattle.bfs_indices_check.specs.Listed.{IsWalkedWhole, AllListed}
use Rattle.bfs_indices_check.proofs.pass.check_each.Given as goal

abbrev pub invariant-loop-i : goal.invariant-loop-i
invariant-loop-i g l = record {
  told : g.B.Blocks.told l.under ≡ g.B.Blocks.told l.fn.under;
  changed : g.B.Blocks.changed l.under ≡ g.B.Blocks.changed l.fn.under;
  pairs : g.B.Blocks.pairs l.under ≡ g.B.Blocks.pairs l.fn.under;
  size : g.B.Blocks.size l.under ≡ g.B.Blocks.size l.fn.under;
  frame : g.B.Blocks.frame l.under ≡ g.B.Blocks.frame l.fn.under;
  later : AreLater (g.B.Blocks.counts l.fn.under) (g.B.Blocks.counts l.under);
  listed : (m : ℕ → Option (List ℕ)) (top : Visit) (visits : List Visit) → g.B.Blocks.told l.fn.under ≡ Some m → IsWalkedWhole (volume_of l.sup (contents m)) l.root l.leads l.found top visits → kept_keys l.facts ≡ keys_of_visits (oldest_first visits)
      → AllListed (volume_of l.sup (contents m)) (toured_tree (volume_of l.sup (contents m)) top visits (kinds_of l.found)) (take l.i l.found);
}
