use Rattle.std.proofs.Common.{◌≡◌, ◌≤◌, ◌-◌, ℕ, List, Option, Some, length}
use Rattle.bfs_bitmap.specs.Runs.{HasBitmap, NoRunBelow}
use Rattle.bfs_bitmap.specs.Windows.{IsShown}
use Rattle.bfs_bitmap.proofs.Searches.{IsUpTo}
use Rattle.bfs_txn.specs.Faults.{AreLater}
use Rattle.bfs_bitmap.proofs.bitmap.Bitmap.search_from.Given as goal

abbrev pub invariant-loop-at : goal.invariant-loop-at
invariant-loop-at g l = (l.low ≤ l.at) × (l.at ≤ l.blocks) × (l.free ≤ l.at) × (length l.window.bytes.items ≡ l.self.block_size)
    × (g.B.Blocks.told l.under ≡ g.B.Blocks.told l.fn.under) × (g.B.Blocks.size l.under ≡ g.B.Blocks.size l.fn.under) × (g.B.Blocks.frame l.under ≡ g.B.Blocks.frame l.fn.under)
    × (g.B.Blocks.changed l.under ≡ g.B.Blocks.changed l.fn.under)
    × AreLater (g.B.Blocks.counts l.fn.under) (g.B.Blocks.counts l.under)
    × ((m : ℕ → Option (List ℕ)) → g.B.Blocks.told l.fn.under ≡ Some m → HasBitmap l.self m → IsShown l.self m l.fn.window → IsShown l.self m l.window)
    × ((m : ℕ → Option (List ℕ)) → g.B.Blocks.told l.fn.under ≡ Some m → HasBitmap l.self m → NoRunBelow l.self m l.wanted l.start → IsShown l.self m l.fn.window → IsUpTo l.self m l.start l.wanted l.low l.at l.free)

abbrev pub decreases-loop-at : goal.decreases-loop-at
decreases-loop-at g l = l.blocks - l.at
