use Rattle.std.proofs.Common.{◌≡◌, map, take, drop, length}
use Rattle.bfs_device.proofs.calls.numbers.Given as goal

abbrev pub invariant-loop-i : goal.invariant-loop-i
invariant-loop-i l = (length l.numbers ≡ 126) × (take l.i l.numbers ≡ map (λ p. p.0) (take l.i (drop l.first l.blocks)))
