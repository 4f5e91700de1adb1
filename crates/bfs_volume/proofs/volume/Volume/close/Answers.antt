use Rattle.std.proofs.Common.{◌≡◌, ◌≤◌, ◌∙◌, ℕ, List, length, Ok, IfErr, sym, ap, subst}
use Rattle.std.proofs.lemmas.Result.{on_ok_weaker}
use Rattle.bfs_disk.specs.State.{Tells, ReadsAs}
use Rattle.bfs_disk.specs.Disk.{MayLeave}
use Rattle.bfs_tree.specs.declared.reply.Entry.{Entry}
use Rattle.bfs_device.specs.Books.{durable_of}
use Rattle.bfs_device_blocks.specs.Lent.{HasCore}
use Rattle.bfs_volume.specs.Closing.{IsChained}
use Rattle.bfs_file_io.specs.Causes.{HasStopCause}
use Rattle.bfs_file_io.specs.Volumes.{VolumeView}
use Rattle.bfs_volume.proofs.Closed.{all_recovers, known_kept, since_begun, some_recovers}
use Rattle.bfs_volume.proofs.Left.{all_chained, all_left, on_both, on_that, stop_cause}
use Rattle.bfs_file_io.specs.Failing.{KeepsCounts}
use Rattle.bfs_volume.proofs.volume.Volume.close.Goals as goal

pub returns-clause-all : goal.returns-clause-all
returns-clause-all g c = λ t0 adopted core.
    let d = c.settle-ended.new.device in
    let sp = c.settle-ended.new.space in
    let i = c.self.inside in
    let history : i.space.view.history ≡ c.args.self.space.view.history = ap (λ (v : VolumeView g.row.D.Denot g.row.C.Denot). v.space.view.history) c.self.view_is in
    let inside : HasCore t0 adopted i.space.view i.device.books (g.D.Disk.state i.device.disk) (g.D.Disk.clock i.device.disk) (g.D.Disk.since i.device.disk) =
    subst (λ (v : VolumeView g.row.D.Denot g.row.C.Denot). HasCore t0 adopted v.space.view v.device.books (g.D.Disk.state v.device.disk) (g.D.Disk.clock v.device.disk) (g.D.Disk.since v.device.disk)) (sym c.self.view_is) core in
    on_ok_weaker c.settle-ended.result
    (λ done image left. all_recovers t0 adopted sp.view c.args.self.space.view.history d.books (g.D.Disk.state d.disk) (g.D.Disk.clock d.disk) (g.D.Disk.since d.disk) (c.settle-ended.ensures.history ∙ history)
    (subst (λ (h : List Entry). length h ≤ durable_of d.books) history done.1) c.durable-durable.ensures.recovers (c.settle-ended.ensures.core t0 adopted inside) image
    (subst (λ k. MayLeave (g.D.Disk.state k) image) c.into_disk.ensures left)) c.settle-ended.ensures.done

pub returns-clause-held : goal.returns-clause-held
returns-clause-held g c = λ t0 adopted core image left.
    let d = c.settle-ended.new.device in
    let sp = c.settle-ended.new.space in
    let i = c.self.inside in
    let history : i.space.view.history ≡ c.args.self.space.view.history = ap (λ (v : VolumeView g.row.D.Denot g.row.C.Denot). v.space.view.history) c.self.view_is in
    let inside : HasCore t0 adopted i.space.view i.device.books (g.D.Disk.state i.device.disk) (g.D.Disk.clock i.device.disk) (g.D.Disk.since i.device.disk) =
    subst (λ (v : VolumeView g.row.D.Denot g.row.C.Denot). HasCore t0 adopted v.space.view v.device.books (g.D.Disk.state v.device.disk) (g.D.Disk.clock v.device.disk) (g.D.Disk.since v.device.disk)) (sym c.self.view_is) core in
    some_recovers t0 adopted (durable_of c.args.self.device.books) sp.view c.args.self.space.view.history d.books (g.D.Disk.state d.disk) (g.D.Disk.clock d.disk) (g.D.Disk.since d.disk) (c.settle-ended.ensures.history ∙ history)
    (subst (λ (n : ℕ). n ≤ durable_of d.books) (ap (λ (v : VolumeView g.row.D.Denot g.row.C.Denot). durable_of v.device.books) c.self.view_is) c.settle-ended.ensures.durable) c.durable-durable.ensures.recovers (c.settle-ended.ensures.core t0 adopted inside) image
    (subst (λ k. MayLeave (g.D.Disk.state k) image) c.into_disk.ensures left)

pub returns-clause-keeps : goal.returns-clause-keeps
returns-clause-keeps g c = λ t0 adopted core first begins image left.
    let d = c.settle-ended.new.device in
    let sp = c.settle-ended.new.space in
    let i = c.self.inside in
    let history : i.space.view.history ≡ c.args.self.space.view.history = ap (λ (v : VolumeView g.row.D.Denot g.row.C.Denot). v.space.view.history) c.self.view_is in
    let inside : HasCore t0 adopted i.space.view i.device.books (g.D.Disk.state i.device.disk) (g.D.Disk.clock i.device.disk) (g.D.Disk.since i.device.disk) =
    subst (λ (v : VolumeView g.row.D.Denot g.row.C.Denot). HasCore t0 adopted v.space.view v.device.books (g.D.Disk.state v.device.disk) (g.D.Disk.clock v.device.disk) (g.D.Disk.since v.device.disk)) (sym c.self.view_is) core in
    known_kept t0 adopted first (durable_of c.args.self.device.books) sp.view c.args.self.space.view.history d.books (g.D.Disk.state d.disk) (g.D.Disk.size d.disk) (g.D.Disk.clock d.disk) (g.D.Disk.since d.disk) (c.settle-ended.ensures.history ∙ history)
    (subst (λ (n : ℕ). n ≤ durable_of d.books) (ap (λ (v : VolumeView g.row.D.Denot g.row.C.Denot). durable_of v.device.books) c.self.view_is) c.settle-ended.ensures.durable)
    (g.met.D.Disk.filled d.disk) (g.met.D.Disk.sized d.disk) c.steady.ensures.on_disk c.durable-durable.ensures.recovers (c.settle-ended.ensures.core t0 adopted inside) begins image
    (subst (λ k. MayLeave (g.D.Disk.state k) image) c.into_disk.ensures left)

pub returns-clause-keeps_all : goal.returns-clause-keeps_all
returns-clause-keeps_all g c = λ t0 adopted core first begins.
    let d = c.settle-ended.new.device in
    let sp = c.settle-ended.new.space in
    let i = c.self.inside in
    let history : i.space.view.history ≡ c.args.self.space.view.history = ap (λ (v : VolumeView g.row.D.Denot g.row.C.Denot). v.space.view.history) c.self.view_is in
    let inside : HasCore t0 adopted i.space.view i.device.books (g.D.Disk.state i.device.disk) (g.D.Disk.clock i.device.disk) (g.D.Disk.since i.device.disk) =
    subst (λ (v : VolumeView g.row.D.Denot g.row.C.Denot). HasCore t0 adopted v.space.view v.device.books (g.D.Disk.state v.device.disk) (g.D.Disk.clock v.device.disk) (g.D.Disk.since v.device.disk)) (sym c.self.view_is) core in
    on_ok_weaker c.settle-ended.result
    (λ done image left. known_kept t0 adopted first (length c.args.self.space.view.history) sp.view c.args.self.space.view.history d.books (g.D.Disk.state d.disk) (g.D.Disk.size d.disk) (g.D.Disk.clock d.disk) (g.D.Disk.since d.disk) (c.settle-ended.ensures.history ∙ history)
    (subst (λ (h : List Entry). length h ≤ durable_of d.books) history done.1)
    (g.met.D.Disk.filled d.disk) (g.met.D.Disk.sized d.disk) c.steady.ensures.on_disk c.durable-durable.ensures.recovers (c.settle-ended.ensures.core t0 adopted inside) begins image
    (subst (λ k. MayLeave (g.D.Disk.state k) image) c.into_disk.ensures left)) c.settle-ended.ensures.done

pub returns-clause-since : goal.returns-clause-since
returns-clause-since g c = λ t0 adopted core image left.
    let d = c.settle-ended.new.device in
    let sp = c.settle-ended.new.space in
    let i = c.self.inside in
    let history : i.space.view.history ≡ c.args.self.space.view.history = ap (λ (v : VolumeView g.row.D.Denot g.row.C.Denot). v.space.view.history) c.self.view_is in
    let inside : HasCore t0 adopted i.space.view i.device.books (g.D.Disk.state i.device.disk) (g.D.Disk.clock i.device.disk) (g.D.Disk.since i.device.disk) =
    subst (λ (v : VolumeView g.row.D.Denot g.row.C.Denot). HasCore t0 adopted v.space.view v.device.books (g.D.Disk.state v.device.disk) (g.D.Disk.clock v.device.disk) (g.D.Disk.since v.device.disk)) (sym c.self.view_is) core in
    since_begun t0 adopted sp.view c.args.self.space.view.history d.books (g.D.Disk.state d.disk) (g.D.Disk.clock d.disk) (g.D.Disk.since d.disk) (c.settle-ended.ensures.history ∙ history) (c.settle-ended.ensures.core t0 adopted inside) image
    (subst (λ k. g.D.Disk.since k adopted.begun image) c.into_disk.ensures left)

pub returns-clause-left : goal.returns-clause-left
returns-clause-left g c = λ t0 adopted core.
    let d = c.settle-ended.new.device in
    let sp = c.settle-ended.new.space in
    let i = c.self.inside in
    let history : i.space.view.history ≡ c.args.self.space.view.history = ap (λ (v : VolumeView g.row.D.Denot g.row.C.Denot). v.space.view.history) c.self.view_is in
    let inside : HasCore t0 adopted i.space.view i.device.books (g.D.Disk.state i.device.disk) (g.D.Disk.clock i.device.disk) (g.D.Disk.since i.device.disk) =
    subst (λ (v : VolumeView g.row.D.Denot g.row.C.Denot). HasCore t0 adopted v.space.view v.device.books (g.D.Disk.state v.device.disk) (g.D.Disk.clock v.device.disk) (g.D.Disk.since v.device.disk)) (sym c.self.view_is) core in
    on_both c.settle-ended.result _ _ _
    (λ done stops image reads. all_left t0 adopted sp.view c.args.self.space.view.history d.books (g.D.Disk.state d.disk) (g.D.Disk.size d.disk) (g.D.Disk.clock d.disk) (g.D.Disk.since d.disk) (c.settle-ended.ensures.history ∙ history)
    (g.met.D.Disk.filled d.disk) (g.met.D.Disk.sized d.disk) c.steady.ensures.on_disk c.settle-ended.ensures.joined.fitted stops.1 done.0 (subst (λ (h : List Entry). length h ≤ durable_of d.books) history done.1) (c.settle-ended.ensures.core t0 adopted inside) image
    (subst (λ k. Tells (g.D.Disk.state k) (λ st. ReadsAs st image)) c.into_disk.ensures reads)) c.settle-ended.ensures.done c.settle-ended.ensures.stop

pub returns-clause-chained : goal.returns-clause-chained
returns-clause-chained g c = λ t0 adopted core first begins.
    let d = c.settle-ended.new.device in
    let sp = c.settle-ended.new.space in
    let i = c.self.inside in
    let history : i.space.view.history ≡ c.args.self.space.view.history = ap (λ (v : VolumeView g.row.D.Denot g.row.C.Denot). v.space.view.history) c.self.view_is in
    let inside : HasCore t0 adopted i.space.view i.device.books (g.D.Disk.state i.device.disk) (g.D.Disk.clock i.device.disk) (g.D.Disk.since i.device.disk) =
    subst (λ (v : VolumeView g.row.D.Denot g.row.C.Denot). HasCore t0 adopted v.space.view v.device.books (g.D.Disk.state v.device.disk) (g.D.Disk.clock v.device.disk) (g.D.Disk.since v.device.disk)) (sym c.self.view_is) core in
    subst (λ k. IsChained t0 first c.args.self.space.view.history (g.D.Disk.state k) (c.settle-ended.result ≡ Ok tt)) (sym c.into_disk.ensures)
    (all_chained t0 adopted first sp.view c.args.self.space.view.history d.books (g.D.Disk.state d.disk) (g.D.Disk.size d.disk) (g.D.Disk.clock d.disk) (g.D.Disk.since d.disk) (c.settle-ended.result ≡ Ok tt) (c.settle-ended.ensures.history ∙ history)
    (g.met.D.Disk.filled d.disk) (g.met.D.Disk.sized d.disk) c.steady.ensures.on_disk c.settle-ended.ensures.joined.fitted
    (λ well.
    let done = on_that c.settle-ended.result _ tt c.settle-ended.ensures.done well in
    let stops = on_that c.settle-ended.result _ tt c.settle-ended.ensures.stop well in
    (stops.1, done.0, subst (λ (h : List Entry). length h ≤ durable_of d.books) history done.1))
    (c.settle-ended.ensures.core t0 adopted inside) begins)

pub returns-clause-cause : goal.returns-clause-cause
returns-clause-cause g c =
    let d = c.settle-ended.new.device in
    let start = c.self.inside.device in
    subst (λ k. IfErr c.settle-ended.result (HasStopCause c.args.self.device.books.stop (g.D.Disk.faults c.args.self.device.disk) (g.D.Disk.faults k))) (sym c.into_disk.ensures)
    (subst (λ (v : VolumeView g.row.D.Denot g.row.C.Denot). IfErr c.settle-ended.result (HasStopCause v.device.books.stop (g.D.Disk.faults v.device.disk) (g.D.Disk.faults d.disk))) c.self.view_is
    (stop_cause c.settle-ended.result start.books.stop d.books.stop (g.D.Disk.faults start.disk) (g.D.Disk.faults d.disk) c.settle-ended.ensures.fault))

pub returns-clause-counts : goal.returns-clause-counts
returns-clause-counts g c =
    let d = c.settle-ended.new.device in
    let s = c.args.self.device in (
      d.books.stop,
      subst (λ k. KeepsCounts s.books.stop d.books.stop (g.D.Disk.faults s.disk) (g.D.Disk.faults k) (g.D.Disk.stops s.disk) (g.D.Disk.stops k)) (sym c.into_disk.ensures)
          (subst (λ (v : VolumeView g.row.D.Denot g.row.C.Denot). KeepsCounts v.device.books.stop d.books.stop (g.D.Disk.faults v.device.disk) (g.D.Disk.faults d.disk) (g.D.Disk.stops v.device.disk) (g.D.Disk.stops d.disk)) c.self.view_is c.settle-ended.ensures.counts),
    )
