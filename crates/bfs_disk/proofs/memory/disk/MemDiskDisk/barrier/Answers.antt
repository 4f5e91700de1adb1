use Rattle.std.proofs.Common.{◌≡◌, ◌⊎◌, ◌+◌, ℕ, subst, refl}
use Rattle.bfs_disk.proofs.Record.{elapses_failed, elapses_kept}
use Rattle.bfs_disk.proofs.memory.disk.MemDiskDisk.barrier.Goals as goal

pub returns-then-is_planned-clause-time : goal.returns-then-is_planned-clause-time
returns-then-is_planned-clause-time c = let d = c.args.self.now in elapses_failed _ d.idle d.calls.items d.bytes.items c.refuse.new.idle _ (λ i image. image) c.refuse.ensures.idle

pub returns-in-Err-clause-time : goal.returns-in-Err-clause-time
returns-in-Err-clause-time c =
    let d = c.args.self.now in
    elapses_kept c.refuse-in-Err.new.idle c.in-Err.ensures.calls_kept refl
    (elapses_failed _ d.idle d.calls.items d.bytes.items c.refuse-in-Err.new.idle _ (λ i image. image)
    (subst (λ (n : ℕ). (c.refuse-in-Err.new.idle ≡ n) ⊎ (c.refuse-in-Err.new.idle ≡ n + 1)) c.in-Err.ensures.idle_kept c.refuse-in-Err.ensures.idle))
