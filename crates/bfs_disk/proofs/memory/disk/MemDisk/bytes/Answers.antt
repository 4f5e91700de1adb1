use Rattle.std.proofs.Common.{refl}
use Rattle.bfs_disk.specs.Memory.{state_after}
use Rattle.bfs_disk.proofs.Record.{reads_after}
use Rattle.bfs_disk.proofs.memory.disk.MemDisk.bytes.Goals as goal

pub returns-clause-reads : goal.returns-clause-reads
returns-clause-reads c = let d = c.args.self in (state_after d.calls.items d.bytes.items, refl, reads_after d.calls.items d.bytes.items d.recorded)
