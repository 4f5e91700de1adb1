use Rattle.std.proofs.Common.{◌≡◌, ◌≤◌, ◌<◌, ◌⊎◌, ℕ, true, List, length, Option, Some, take}
use Rattle.bfs_base.specs.Lists.{IsOnce}
use Rattle.bfs_txn.specs.Faults.{AreLater}
use Rattle.bfs_txn.specs.Told.{StaysChanged}
use Rattle.bfs_stream.specs.Places.{places_at, whole_at}
use Rattle.bfs_stream.specs.Told.{contents, AreTold, Stands}
use Rattle.bfs_stream_pages.specs.Steps.{IsToldTo}
use Rattle.bfs_stream_pages.proofs.backing.Backing.fill_from.Given as goal

abbrev pub invariant-loop-at : goal.invariant-loop-at
invariant-loop-at g l = record {
  zeros : length l.zeros.items ≡ l.self.sizes.block_size;
  self : l.self ≡ l.fn.self;
  size : g.E.Blocks.size l.edits ≡ g.E.Blocks.size l.fn.edits;
  frame : g.E.Blocks.frame l.edits ≡ g.E.Blocks.frame l.fn.edits;
  later : AreLater (g.E.Blocks.counts l.fn.edits) (g.E.Blocks.counts l.edits);
  changed : (k : ℕ) → g.E.Blocks.changed l.edits k ≡ true → (g.E.Blocks.changed l.fn.edits k ≡ true) ⊎ (k < l.fn.self.sizes.blocks);
  stays : StaysChanged (g.E.Blocks.changed l.fn.edits) (g.E.Blocks.changed l.edits);
  low : l.fn.index ≤ l.at;
  told : (m : ℕ → Option (List ℕ)) → g.E.Blocks.told l.fn.edits ≡ Some m → Stands l.fn.self m → IsOnce (whole_at l.fn.self.sizes (contents m) l.fn.self.id) → AreTold m (take l.fn.index (places_at l.fn.self.sizes (contents m) l.fn.self.id))
      → IsToldTo l.fn.self m l.fn.index l.at (g.E.Blocks.told l.edits) (g.E.Blocks.changed l.fn.edits) (g.E.Blocks.changed l.edits);
}
