use Rattle.std.proofs.Common.{subst}
use Rattle.bfs_core.specs.Moments.{DeviceMoves}
use Rattle.bfs_core.proofs.Calls.{room_moves, room_rests}
use Rattle.bfs_space_tests.proofs.core_tests.room_of.Goals as goal

pub returns : goal.returns
returns g c =
    let old = c.args.device.now in
    let new = c.room-result.new.self in
    let e = c.room-result.ensures in
    let rests = room_rests old.books new.books c.room-result.result e.ok e.err in
    subst (λ d. DeviceMoves old.books new.books (g.D.Disk.state d) (g.D.Disk.state new.disk) (g.D.Disk.clock d) (g.D.Disk.clock new.disk) (g.D.Disk.since d) (g.D.Disk.since new.disk)) e.disk
    (room_moves old.books new.books (g.D.Disk.state new.disk) (g.D.Disk.clock new.disk) (g.D.Disk.since new.disk) rests c.steady.ensures.steady c.durable-durable.ensures.recovers (g.met.D.Disk.only_now new.disk))
