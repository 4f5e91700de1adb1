-- Blocks that ascend are there once each.
use Rattle.std.proofs.Common.{ℕ, List, arith}
use Rattle.bfs_txn.specs.Changed.{Ascends}
use Rattle.bfs_device.specs.Orders.{IsOnce}

pub once_of : (ps : List (ℕ × List ℕ)) → Ascends ps → IsOnce ps
once_of ps ascends = λ i j lt inside same. let low = ascends i j lt inside in omega (arith, low, same)
