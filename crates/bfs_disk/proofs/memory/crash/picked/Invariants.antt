use Rattle.std.proofs.Common.{◌/◌, ◌%◌, ◌^◌, ◌==◌}
use Rattle.bfs_disk.proofs.Picks.{Picks}
use Rattle.bfs_disk.proofs.memory.crash.picked.Given as goal

abbrev pub invariant-loop-k : goal.invariant-loop-k
invariant-loop-k l = Picks (λ j. l.pick / 2 ^ (j % 64) % 2 == 1) l.k l.newest l.initial.image.items l.image.items
