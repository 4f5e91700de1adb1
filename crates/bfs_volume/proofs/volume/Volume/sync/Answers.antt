use Rattle.std.proofs.Common.{◌≡◌, Some, sym, subst, ◌∙◌, ap, rules, List}
use Rattle.bfs_device_blocks.specs.Lent.{HasCore}
use Rattle.bfs_file_io.specs.Entries.{IsStoppedSync}
use Rattle.bfs_file_io.specs.Volumes.{VolumeView}
use Rattle.bfs_file_io.specs.Stamps.{HasDrawn}
use Rattle.bfs_file_io.proofs.Drawn.{drawn_told}
use Rattle.bfs_file_io.specs.Failing.{HasFailures}
use Rattle.bfs_file_io.specs.Open.{AreOpen, OpenView}
use Rattle.bfs_volume.proofs.volume.Volume.sync.Goals as goal

pub returns-clause-core : goal.returns-clause-core
returns-clause-core g c = λ t0 adopted core.
    let i = c.self.inside in
    let inside : HasCore t0 adopted i.space.view i.device.books (g.D.Disk.state i.device.disk) (g.D.Disk.clock i.device.disk) (g.D.Disk.since i.device.disk) =
    subst (λ (v : VolumeView g.row.D.Denot g.row.C.Denot). HasCore t0 adopted v.space.view v.device.books (g.D.Disk.state v.device.disk) (g.D.Disk.clock v.device.disk) (g.D.Disk.since v.device.disk)) (sym c.self.view_is) core in
    c.sync_among.ensures.core t0 adopted inside

pub returns-clause-stamps : goal.returns-clause-stamps
returns-clause-stamps g c = λ s is.
    let i = c.self.inside in
    let n = c.sync_among.new in
    let here = drawn_told i.space.view.history n.space.view.history (g.C.Clock.stands i.clock) c.seconds-now.result s c.seconds-now.ensures.told (ap (λ (v : VolumeView g.row.D.Denot g.row.C.Denot). g.C.Clock.stands v.clock) c.self.view_is ∙ is) c.sync_among.ensures.stamps in
    subst (λ (v : VolumeView g.row.D.Denot g.row.C.Denot). HasDrawn v.space.view.history n.space.view.history s) c.self.view_is here

-- ---- of a device that had stopped

pub returns-clause-stopped : goal.returns-clause-stopped
returns-clause-stopped g c = λ s is.
    let n = c.sync_among.new in
    let inside : c.self.inside.device.books.stop ≡ Some s = ap (λ (v : VolumeView g.row.D.Denot g.row.C.Denot). v.device.books.stop) c.self.view_is ∙ is in
    subst (λ (v : VolumeView g.row.D.Denot g.row.C.Denot). IsStoppedSync v.space.view.history n.space.view.history c.args.session c.args.tag s c.sync_among.result) c.self.view_is (c.sync_among.ensures.stopped s inside)

pub returns-clause-stays_stopped : goal.returns-clause-stays_stopped
returns-clause-stays_stopped g c = λ s is. c.sync_among.ensures.stays_stopped s (ap (λ (v : VolumeView g.row.D.Denot g.row.C.Denot). v.device.books.stop) c.self.view_is ∙ is)

-- ---- the disk's counts

pub returns-clause-failures : goal.returns-clause-failures
returns-clause-failures g c =
    let n = c.sync_among.new in
    subst (λ (v : VolumeView g.row.D.Denot g.row.C.Denot). HasFailures v.space.view.history n.space.view.history v.device.books.stop n.device.books.stop (g.D.Disk.faults v.device.disk) (g.D.Disk.faults n.device.disk) (g.D.Disk.stops v.device.disk) (g.D.Disk.stops n.device.disk)) c.self.view_is c.sync_among.ensures.failures

-- ---- the pieces that are held

pub sync_among-requires-clause-open : goal.sync_among-requires-clause-open
sync_among-requires-clause-open g c =
    let i = c.self.inside in
    let e : c.as_slice-pieces.result.now ≡ i.pieces.items = search rules in
    subst (λ (ps : List OpenView). AreOpen ps i.space i.device.books (g.D.Disk.state i.device.disk)) (sym e) c.self.invariant.1

pub invariant_of-self : goal.invariant_of-self
invariant_of-self g c =
    let i = c.self.inside in
    let n = c.sync_among.new in
    let e : c.as_slice-pieces.result.now ≡ i.pieces.items = search rules in (
      c.sync_among.ensures.joined,
      subst (λ (ps : List OpenView). AreOpen ps n.space n.device.books (g.D.Disk.state n.device.disk)) e c.sync_among.ensures.open,
      c.sync_among.ensures.spare,
    )
