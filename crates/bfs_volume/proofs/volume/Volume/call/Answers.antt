use Rattle.std.proofs.Common.{◌≡◌, ◌⊎◌, Some, OnOk, sym, subst, ◌∙◌, ap, rules, List}
use Rattle.bfs_device_blocks.specs.Lent.{HasCore}
use Rattle.bfs_file_io.specs.Entries.{IsAnsweredIn, IsEnded, IsStoppedEntry}
use Rattle.bfs_file_io.specs.Volumes.{VolumeView}
use Rattle.bfs_file_io.specs.BuiltLaws.{built_stays}
use Rattle.bfs_file_io.proofs.Stays.{built_served, stays_goes}
use Rattle.bfs_file_io.specs.Stamps.{HasDrawn}
use Rattle.bfs_file_io.proofs.Drawn.{drawn_told}
use Rattle.bfs_file_io.specs.Failing.{HasFailures}
use Rattle.bfs_file_io.specs.Open.{AreOpen, OpenView}
use Rattle.bfs_volume.proofs.volume.Volume.call.Goals as goal

pub answer_among-requires-clause-serves : goal.answer_among-requires-clause-serves
answer_among-requires-clause-serves g c = built_served c.args.call c.requires.serves

pub answer_among-requires-clause-stays : goal.answer_among-requires-clause-stays
answer_among-requires-clause-stays g c = built_stays c.args.call c.requires.serves

pub answer_among-requires-clause-goes : goal.answer_among-requires-clause-goes
answer_among-requires-clause-goes g c = stays_goes c.args.call (built_stays c.args.call c.requires.serves)

pub returns-clause-core : goal.returns-clause-core
returns-clause-core g c = λ t0 adopted core.
    let i = c.self.inside in
    let inside : HasCore t0 adopted i.space.view i.device.books (g.D.Disk.state i.device.disk) (g.D.Disk.clock i.device.disk) (g.D.Disk.since i.device.disk) =
    subst (λ (v : VolumeView g.row.D.Denot g.row.C.Denot). HasCore t0 adopted v.space.view v.device.books (g.D.Disk.state v.device.disk) (g.D.Disk.clock v.device.disk) (g.D.Disk.since v.device.disk)) (sym c.self.view_is) core in
    c.answer_among.ensures.core t0 adopted inside

pub returns-clause-answered : goal.returns-clause-answered
returns-clause-answered g c = λ t0 adopted core.
    let i = c.self.inside in
    let inside : HasCore t0 adopted i.space.view i.device.books (g.D.Disk.state i.device.disk) (g.D.Disk.clock i.device.disk) (g.D.Disk.since i.device.disk) =
    subst (λ (v : VolumeView g.row.D.Denot g.row.C.Denot). HasCore t0 adopted v.space.view v.device.books (g.D.Disk.state v.device.disk) (g.D.Disk.clock v.device.disk) (g.D.Disk.since v.device.disk)) (sym c.self.view_is) core in
    let n = c.answer_among.new in
    subst (λ (v : VolumeView g.row.D.Denot g.row.C.Denot). OnOk c.answer_among.result (IsAnsweredIn t0 v.space n.space n.device.books (g.D.Disk.state n.device.disk) c.args.session c.args.tag c.args.call
    ⊎ IsEnded v.space.view.history n.space.view.history c.args.session c.args.tag c.args.call v.device.books.stop (g.D.Disk.faults v.device.disk) (g.D.Disk.faults n.device.disk))) c.self.view_is
    (c.answer_among.ensures.answered t0 adopted inside)

pub returns-clause-stamps : goal.returns-clause-stamps
returns-clause-stamps g c = λ s is.
    let i = c.self.inside in
    let n = c.answer_among.new in
    let here = drawn_told i.space.view.history n.space.view.history (g.C.Clock.stands i.clock) c.seconds-now.result s c.seconds-now.ensures.told (ap (λ (v : VolumeView g.row.D.Denot g.row.C.Denot). g.C.Clock.stands v.clock) c.self.view_is ∙ is) c.answer_among.ensures.stamps in
    subst (λ (v : VolumeView g.row.D.Denot g.row.C.Denot). HasDrawn v.space.view.history n.space.view.history s) c.self.view_is here

-- ---- of a device that had stopped

pub returns-clause-stopped : goal.returns-clause-stopped
returns-clause-stopped g c = λ s is.
    let n = c.answer_among.new in
    let inside : c.self.inside.device.books.stop ≡ Some s = ap (λ (v : VolumeView g.row.D.Denot g.row.C.Denot). v.device.books.stop) c.self.view_is ∙ is in
    subst (λ (v : VolumeView g.row.D.Denot g.row.C.Denot). OnOk c.answer_among.result (IsStoppedEntry v.space.view.history n.space.view.history c.args.session c.args.tag c.args.call s)) c.self.view_is (c.answer_among.ensures.stopped s inside)

pub returns-clause-stays_stopped : goal.returns-clause-stays_stopped
returns-clause-stays_stopped g c = λ s is. c.answer_among.ensures.stays_stopped s (ap (λ (v : VolumeView g.row.D.Denot g.row.C.Denot). v.device.books.stop) c.self.view_is ∙ is)

-- ---- the disk's counts

pub returns-clause-failures : goal.returns-clause-failures
returns-clause-failures g c =
    let n = c.answer_among.new in
    subst (λ (v : VolumeView g.row.D.Denot g.row.C.Denot). HasFailures v.space.view.history n.space.view.history v.device.books.stop n.device.books.stop (g.D.Disk.faults v.device.disk) (g.D.Disk.faults n.device.disk) (g.D.Disk.stops v.device.disk) (g.D.Disk.stops n.device.disk)) c.self.view_is c.answer_among.ensures.failures

-- ---- the pieces that are held

pub answer_among-requires-clause-open : goal.answer_among-requires-clause-open
answer_among-requires-clause-open g c =
    let i = c.self.inside in
    let e : c.as_slice-pieces.result.now ≡ i.pieces.items = search rules in
    subst (λ (ps : List OpenView). AreOpen ps i.space i.device.books (g.D.Disk.state i.device.disk)) (sym e) c.self.invariant.1

pub invariant_of-self : goal.invariant_of-self
invariant_of-self g c =
    let i = c.self.inside in
    let n = c.answer_among.new in
    let e : c.as_slice-pieces.result.now ≡ i.pieces.items = search rules in (
      c.answer_among.ensures.joined,
      subst (λ (ps : List OpenView). AreOpen ps n.space n.device.books (g.D.Disk.state n.device.disk)) e c.answer_among.ensures.open,
      c.answer_among.ensures.spare,
    )
