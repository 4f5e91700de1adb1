use Rattle.std.proofs.Common.{◌≡◌, OnErr, sym, subst, ◌∙◌, ap}
use Rattle.std.specs.Prelude.{IfOk, IsSome}
use Rattle.bfs_device_blocks.specs.Lent.{HasCore}
use Rattle.bfs_volume.specs.Events.{HasCountsOf, HasReplied, IsHappened, IsOneCall, IsStoppedEvent, MayWantMemory}
use Rattle.bfs_file_io.specs.Stamps.{HasDrawn}
use Rattle.bfs_file_io.specs.Volumes.{VolumeView}
use Rattle.bfs_file_io.proofs.Drawn.{drawn_told}
use Rattle.bfs_volume.proofs.volume.Volume.event.Goals as goal

pub returns-clause-happened : goal.returns-clause-happened
returns-clause-happened g c =
    let n = c.make_event.new in
    subst (λ (v : VolumeView g.row.D.Denot g.row.C.Denot). IfOk c.make_event.result (IsHappened v.space n.space v.pieces n.pieces.items v.device.books n.device.books (g.D.Disk.faults v.device.disk) (g.D.Disk.faults n.device.disk) (g.D.Disk.stops v.device.disk) (g.D.Disk.stops n.device.disk) c.args.event)) c.self.view_is
    c.make_event.ensures.happened

pub returns-clause-one : goal.returns-clause-one
returns-clause-one g c =
    subst (λ (v : VolumeView g.row.D.Denot g.row.C.Denot). IsSome (g.D.Disk.state v.device.disk) → IfOk c.make_event.result (IsOneCall v.space.view.sup.block_size v.pieces (g.D.Disk.clock v.device.disk) (g.D.Disk.clock c.make_event.new.device.disk) c.args.event)) c.self.view_is
    c.make_event.ensures.one

pub returns-clause-no_memory : goal.returns-clause-no_memory
returns-clause-no_memory g c =
    subst (λ (v : VolumeView g.row.D.Denot g.row.C.Denot). OnErr c.make_event.result (c.make_event.new.space.view.history ≡ v.space.view.history)) c.self.view_is c.make_event.ensures.no_memory

pub returns-clause-wants : goal.returns-clause-wants
returns-clause-wants g c =
    subst (λ (v : VolumeView g.row.D.Denot g.row.C.Denot). OnErr c.make_event.result (MayWantMemory (g.D.Disk.state v.device.disk) c.args.event)) c.self.view_is c.make_event.ensures.wants

pub returns-clause-replied : goal.returns-clause-replied
returns-clause-replied g c = λ t0 adopted core.
    let i = c.self.inside in
    let n = c.make_event.new in
    let inside : HasCore t0 adopted i.space.view i.device.books (g.D.Disk.state i.device.disk) (g.D.Disk.clock i.device.disk) (g.D.Disk.since i.device.disk) =
    subst (λ (v : VolumeView g.row.D.Denot g.row.C.Denot). HasCore t0 adopted v.space.view v.device.books (g.D.Disk.state v.device.disk) (g.D.Disk.clock v.device.disk) (g.D.Disk.since v.device.disk)) (sym c.self.view_is) core in
    subst (λ (v : VolumeView g.row.D.Denot g.row.C.Denot). IfOk c.make_event.result (HasReplied t0 v.space n.space v.device.books n.device.books (g.D.Disk.state n.device.disk) (g.D.Disk.faults v.device.disk) (g.D.Disk.faults n.device.disk) c.args.event)) c.self.view_is
    (c.make_event.ensures.replied t0 adopted inside)

pub returns-clause-stopped : goal.returns-clause-stopped
returns-clause-stopped g c = λ s is.
    subst (λ (v : VolumeView g.row.D.Denot g.row.C.Denot). IfOk c.make_event.result (IsStoppedEvent v.space.view.history c.make_event.new.space.view.history s c.args.event)) c.self.view_is
    (c.make_event.ensures.stopped s (ap (λ (v : VolumeView g.row.D.Denot g.row.C.Denot). v.device.books.stop) c.self.view_is ∙ is))

pub returns-clause-stays_stopped : goal.returns-clause-stays_stopped
returns-clause-stays_stopped g c = λ s is. c.make_event.ensures.stays_stopped s (ap (λ (v : VolumeView g.row.D.Denot g.row.C.Denot). v.device.books.stop) c.self.view_is ∙ is)

pub returns-clause-stamps : goal.returns-clause-stamps
returns-clause-stamps g c = λ s is.
    let i = c.self.inside in
    let n = c.make_event.new in
    let here = drawn_told i.space.view.history n.space.view.history (g.C.Clock.stands i.clock) c.seconds-now.result s c.seconds-now.ensures.told (ap (λ (v : VolumeView g.row.D.Denot g.row.C.Denot). g.C.Clock.stands v.clock) c.self.view_is ∙ is) c.make_event.ensures.stamps in
    subst (λ (v : VolumeView g.row.D.Denot g.row.C.Denot). HasDrawn v.space.view.history n.space.view.history s) c.self.view_is here

pub returns-clause-failures : goal.returns-clause-failures
returns-clause-failures g c =
    let n = c.make_event.new in
    subst (λ (v : VolumeView g.row.D.Denot g.row.C.Denot). HasCountsOf c.args.event v.space.view.history n.space.view.history v.device.books.stop n.device.books.stop (g.D.Disk.faults v.device.disk) (g.D.Disk.faults n.device.disk) (g.D.Disk.stops v.device.disk) (g.D.Disk.stops n.device.disk)) c.self.view_is
    c.make_event.ensures.failures

pub returns-clause-core : goal.returns-clause-core
returns-clause-core g c = λ t0 adopted core.
    c.make_event.ensures.core t0 adopted
    (subst (λ (v : VolumeView g.row.D.Denot g.row.C.Denot). HasCore t0 adopted v.space.view v.device.books (g.D.Disk.state v.device.disk) (g.D.Disk.clock v.device.disk) (g.D.Disk.since v.device.disk)) (sym c.self.view_is) core)
