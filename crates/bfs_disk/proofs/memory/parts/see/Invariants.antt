use Rattle.std.proofs.Common.{◌≡◌, take, true}
use Rattle.bfs_disk.specs.Memory.{are_bytes}
use Rattle.bfs_disk.proofs.memory.parts.see.Given as goal

abbrev pub invariant-loop-at : goal.invariant-loop-at
invariant-loop-at l = are_bytes (take l.at l.bytes) ≡ true
