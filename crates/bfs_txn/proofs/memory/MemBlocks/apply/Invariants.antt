use Rattle.std.proofs.Common.{◌≡◌, ℕ, length, take}
use Rattle.bfs_txn.specs.Changed.{over}
use Rattle.bfs_txn.specs.Told.{blocks_of}
use Rattle.bfs_txn.proofs.memory.MemBlocks.apply.Given as goal

abbrev pub invariant-loop-i : goal.invariant-loop-i
invariant-loop-i l = (l.self-inside.block_size ≡ l.fn.self.block_size) × (length l.self-inside.bytes.items ≡ length l.fn.self.bytes)
    × ((k : ℕ) → blocks_of l.fn.self.block_size l.self-inside.bytes.items k ≡ over (take l.i l.group.blocks) (blocks_of l.fn.self.block_size l.fn.self.bytes) k)
