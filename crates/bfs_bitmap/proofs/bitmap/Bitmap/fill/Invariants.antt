use Rattle.std.proofs.Common.{◌≡◌, ◌≤◌, ◌-◌, ℕ, List, Option, Some, length, cond, true, ◌⊎◌}
use Rattle.bfs_bitmap.specs.Runs.{HasBitmap, Marks}
use Rattle.bfs_bitmap.specs.Fills.{IsTold, HasBitOf}
use Rattle.bfs_txn.specs.Faults.{AreLater}
use Rattle.bfs_txn.specs.Told.{StaysChanged}
use Rattle.bfs_bitmap.proofs.bitmap.Bitmap.fill.Given as goal

abbrev pub invariant-loop-at : goal.invariant-loop-at
invariant-loop-at g l = (l.first ≤ l.at) × (l.at ≤ l.end) × (length l.bytes ≡ l.self.block_size)
    × (g.E.Blocks.size l.edits ≡ g.E.Blocks.size l.fn.edits) × (g.E.Blocks.frame l.edits ≡ g.E.Blocks.frame l.fn.edits)
    × AreLater (g.E.Blocks.counts l.fn.edits) (g.E.Blocks.counts l.edits)
    × ((k : ℕ) → g.E.Blocks.changed l.edits k ≡ true → (g.E.Blocks.changed l.fn.edits k ≡ true) ⊎ HasBitOf l.self l.first l.len k)
    × ((m : ℕ → Option (List ℕ)) → g.E.Blocks.told l.fn.edits ≡ Some m → HasBitmap l.self m → IsTold (Marks l.self l.first (l.at - l.first) (cond l.used 1 0) m) (g.E.Blocks.told l.edits))
    × StaysChanged (g.E.Blocks.changed l.fn.edits) (g.E.Blocks.changed l.edits)

abbrev pub decreases-loop-at : goal.decreases-loop-at
decreases-loop-at g l = l.end - l.at
