use Rattle.std.proofs.Common.{◌≡◌, ◌≤◌, ◌++◌, ℕ, length, take, drop}
use Rattle.bfs_txn.specs.Changed.{newest, AreOfSize}
use Rattle.bfs_txn.specs.Merging.{AreSettled}
use Rattle.bfs_txn.proofs.changed.Changed.merge.Given as goal

abbrev pub invariant-loop-i : goal.invariant-loop-i
invariant-loop-i l = (l.own ≤ l.i) × (length l.self ≡ length l.fn.self) × AreSettled l.mark l.own l.self
    × ((k : ℕ) → newest (take l.own l.self ++ drop l.i l.self) k ≡ newest l.fn.self k)
    × ((size : ℕ) → AreOfSize size l.fn.self → AreOfSize size (take l.own l.self ++ drop l.i l.self))
