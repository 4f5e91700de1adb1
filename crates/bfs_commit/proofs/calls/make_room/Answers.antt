use Rattle.std.proofs.Common.{◌∙◌, sym, ap, subst}
use Rattle.bfs_core.specs.Moments.{DeviceMoves}
use Rattle.bfs_core.proofs.Calls.{room_moves, room_rests}
use Rattle.bfs_device_blocks.proofs.Holding.{hold_moved, sized_so}
use Rattle.bfs_commit.proofs.Joined.{joined_moved}
use Rattle.bfs_commit.proofs.Opens.{open_spare}
use Rattle.bfs_commit.proofs.calls.make_room.Goals as goal

pub returns-clause-joined : goal.returns-clause-joined
returns-clause-joined g c = λ sp joined.
    let old = c.args.device.now in
    let new = c.room-made.new.self in
    let e = c.room-made.ensures in
    let rests = room_rests old.books new.books c.room-made.result e.ok e.err in
    let moves = subst (λ d. DeviceMoves old.books new.books (g.D.Disk.state d) (g.D.Disk.state new.disk) (g.D.Disk.clock d) (g.D.Disk.clock new.disk) (g.D.Disk.since d) (g.D.Disk.since new.disk)) e.disk
    (room_moves old.books new.books (g.D.Disk.state new.disk) (g.D.Disk.clock new.disk) (g.D.Disk.since new.disk) rests c.steady.ensures.steady c.durable-durable.ensures.recovers (g.met.D.Disk.only_now new.disk)) in
    joined_moved sp old.books new.books (g.D.Disk.state old.disk) (g.D.Disk.state new.disk) (g.D.Disk.clock old.disk) (g.D.Disk.clock new.disk) (g.D.Disk.since old.disk) (g.D.Disk.since new.disk) moves (λ st is. (st, ap g.D.Disk.state (sym e.disk) ∙ is)) joined

pub returns-clause-open : goal.returns-clause-open
returns-clause-open g c = λ p sp o. open_spare p sp c.args.device.now.books c.room-made.new.self.books _ _ (room_rests c.args.device.now.books c.room-made.new.self.books c.room-made.result c.room-made.ensures.ok c.room-made.ensures.err) (ap g.D.Disk.state c.room-made.ensures.disk) o

pub returns-clause-core : goal.returns-clause-core
returns-clause-core g c = λ t0 adopted sp core.
    let old = c.args.device.now in
    let new = c.room-made.new.self in
    let e = c.room-made.ensures in
    let rests = room_rests old.books new.books c.room-made.result e.ok e.err in
    let moves = subst (λ d. DeviceMoves old.books new.books (g.D.Disk.state d) (g.D.Disk.state new.disk) (g.D.Disk.clock d) (g.D.Disk.clock new.disk) (g.D.Disk.since d) (g.D.Disk.since new.disk)) e.disk
    (room_moves old.books new.books (g.D.Disk.state new.disk) (g.D.Disk.clock new.disk) (g.D.Disk.since new.disk) rests c.steady.ensures.steady c.durable-durable.ensures.recovers (g.met.D.Disk.only_now new.disk)) in
    hold_moved t0 adopted sp old.books (g.D.Disk.state old.disk) (g.D.Disk.clock old.disk) (g.D.Disk.since old.disk) new.books (g.D.Disk.state new.disk) (g.D.Disk.clock new.disk) (g.D.Disk.since new.disk) moves
    (sized_so new.books (g.D.Disk.size new.disk) (g.D.Disk.state new.disk) (g.met.D.Disk.filled new.disk) (g.met.D.Disk.sized new.disk) c.steady.ensures.on_disk) core
