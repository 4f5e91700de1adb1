use Rattle.bfs_disk.proofs.Record.{elapses_idle, elapses_failed}
use Rattle.bfs_disk.proofs.memory.disk.MemDiskDisk.sectors.Goals as goal

pub returns-in-Ok-clause-time : goal.returns-in-Ok-clause-time
returns-in-Ok-clause-time c = let d = c.args.self.now in elapses_idle _ d.idle d.calls.items d.bytes.items c.count.new.idle c.in-Ok.ensures.ok

pub returns-in-Err-clause-time : goal.returns-in-Err-clause-time
returns-in-Err-clause-time c = let d = c.args.self.now in elapses_failed _ d.idle d.calls.items d.bytes.items c.count.new.idle _ (λ i image. image) c.in-Err.ensures.err
