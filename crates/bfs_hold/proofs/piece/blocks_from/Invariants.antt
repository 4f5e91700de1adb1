use Rattle.std.proofs.Common.{◌≡◌, ◌≤◌, ◌+◌, ℕ, List, take, drop, length, All, Option, Some}
use Rattle.bfs_txn.specs.Faults.{AreLater}
use Rattle.bfs_stream.specs.Places.{places_at}
use Rattle.bfs_stream.specs.Sizes.{sizes_of}
use Rattle.bfs_stream.specs.Told.{Stands, contents}
use Rattle.bfs_hold.specs.Places.{IsDataOf}
use Rattle.bfs_hold.proofs.piece.blocks_from.Given as goal

abbrev pub invariant-loop-k : goal.invariant-loop-k
invariant-loop-k g l = record {
  told : g.B.Blocks.told l.under ≡ g.B.Blocks.told l.fn.under;
  changed : g.B.Blocks.changed l.under ≡ g.B.Blocks.changed l.fn.under;
  pairs : g.B.Blocks.pairs l.under ≡ g.B.Blocks.pairs l.fn.under;
  size : g.B.Blocks.size l.under ≡ g.B.Blocks.size l.fn.under;
  frame : g.B.Blocks.frame l.under ≡ g.B.Blocks.frame l.fn.under;
  later : AreLater (g.B.Blocks.counts l.fn.under) (g.B.Blocks.counts l.under);
  count : length l.places.items ≡ l.k;
  good : All (IsDataOf l.sup) l.places.items;
  found : (m : ℕ → Option (List ℕ)) → g.B.Blocks.told l.fn.under ≡ Some m → Stands (record { id = l.id; sizes = sizes_of l.sup }) m → All (IsDataOf l.sup) (places_at (sizes_of l.sup) (contents m) l.id)
      → l.first + l.blocks ≤ length (places_at (sizes_of l.sup) (contents m) l.id) → l.places.items ≡ take l.k (drop l.first (places_at (sizes_of l.sup) (contents m) l.id));
}
