use Rattle.std.proofs.Common.{◌-◌, ◌≡◌, ◌≤◌, ℕ, List, length, Option, Some}
use Rattle.bfs_bitmap.specs.Runs.{HasBitmap}
use Rattle.bfs_bitmap.specs.Windows.{IsShown}
use Rattle.bfs_bitmap.proofs.Counting.{IsCountedTo}
use Rattle.bfs_txn.specs.Faults.{AreLater}
use Rattle.bfs_bitmap.proofs.bitmap.Bitmap.free_runs.Given as goal

abbrev pub invariant-loop-at : goal.invariant-loop-at
invariant-loop-at g l = (l.at ≤ l.blocks) × (l.runs ≤ l.most) × (l.runs ≤ l.at) × (length l.window.bytes.items ≡ l.self.block_size)
    × (g.B.Blocks.told l.under ≡ g.B.Blocks.told l.fn.under) × (g.B.Blocks.size l.under ≡ g.B.Blocks.size l.fn.under) × (g.B.Blocks.frame l.under ≡ g.B.Blocks.frame l.fn.under)
    × (g.B.Blocks.changed l.under ≡ g.B.Blocks.changed l.fn.under)
    × AreLater (g.B.Blocks.counts l.fn.under) (g.B.Blocks.counts l.under)
    × ((m : ℕ → Option (List ℕ)) → g.B.Blocks.told l.fn.under ≡ Some m → HasBitmap l.self m → IsShown l.self m l.window)
    × ((m : ℕ → Option (List ℕ)) → g.B.Blocks.told l.fn.under ≡ Some m → HasBitmap l.self m → IsCountedTo l.self m l.len l.at l.runs)

abbrev pub decreases-loop-at : goal.decreases-loop-at
decreases-loop-at g l = l.blocks - l.at
