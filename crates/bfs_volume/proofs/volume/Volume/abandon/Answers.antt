use Rattle.std.proofs.Common.{◌≡◌, sym, ap, subst, arith}
use Rattle.bfs_disk.specs.Disk.{MayLeave}
use Rattle.bfs_device.specs.Books.{durable_of}
use Rattle.bfs_device_blocks.specs.Lent.{HasCore}
use Rattle.bfs_file_io.specs.Volumes.{VolumeView}
use Rattle.bfs_volume.proofs.Closed.{known_kept, since_begun, some_recovers}
use Rattle.bfs_volume.proofs.Left.{some_chained}
use Rattle.bfs_volume.proofs.volume.Volume.abandon.Goals as goal

pub returns-clause-held : goal.returns-clause-held
returns-clause-held g c = λ t0 adopted core image left.
    let i = c.self.inside in
    let d = i.device in
    let history : i.space.view.history ≡ c.args.self.space.view.history = ap (λ (v : VolumeView g.row.D.Denot g.row.C.Denot). v.space.view.history) c.self.view_is in
    let inside : HasCore t0 adopted i.space.view d.books (g.D.Disk.state d.disk) (g.D.Disk.clock d.disk) (g.D.Disk.since d.disk) =
    subst (λ (v : VolumeView g.row.D.Denot g.row.C.Denot). HasCore t0 adopted v.space.view v.device.books (g.D.Disk.state v.device.disk) (g.D.Disk.clock v.device.disk) (g.D.Disk.since v.device.disk)) (sym c.self.view_is) core in
    let durable : durable_of d.books ≡ durable_of c.args.self.device.books = ap (λ (v : VolumeView g.row.D.Denot g.row.C.Denot). durable_of v.device.books) c.self.view_is in
    some_recovers t0 adopted (durable_of c.args.self.device.books) i.space.view c.args.self.space.view.history d.books (g.D.Disk.state d.disk) (g.D.Disk.clock d.disk) (g.D.Disk.since d.disk) history
    (omega (arith, durable)) c.durable-durable.ensures.recovers inside image
    (subst (λ k. MayLeave (g.D.Disk.state k) image) c.into_disk.ensures left)

pub returns-clause-since : goal.returns-clause-since
returns-clause-since g c = λ t0 adopted core image left.
    let i = c.self.inside in
    let d = i.device in
    let history : i.space.view.history ≡ c.args.self.space.view.history = ap (λ (v : VolumeView g.row.D.Denot g.row.C.Denot). v.space.view.history) c.self.view_is in
    let inside : HasCore t0 adopted i.space.view d.books (g.D.Disk.state d.disk) (g.D.Disk.clock d.disk) (g.D.Disk.since d.disk) =
    subst (λ (v : VolumeView g.row.D.Denot g.row.C.Denot). HasCore t0 adopted v.space.view v.device.books (g.D.Disk.state v.device.disk) (g.D.Disk.clock v.device.disk) (g.D.Disk.since v.device.disk)) (sym c.self.view_is) core in
    since_begun t0 adopted i.space.view c.args.self.space.view.history d.books (g.D.Disk.state d.disk) (g.D.Disk.clock d.disk) (g.D.Disk.since d.disk) history inside image
    (subst (λ k. g.D.Disk.since k adopted.begun image) c.into_disk.ensures left)

pub returns-clause-chained : goal.returns-clause-chained
returns-clause-chained g c = λ t0 adopted core first begins.
    let i = c.self.inside in
    let d = i.device in
    let history : i.space.view.history ≡ c.args.self.space.view.history = ap (λ (v : VolumeView g.row.D.Denot g.row.C.Denot). v.space.view.history) c.self.view_is in
    let inside : HasCore t0 adopted i.space.view d.books (g.D.Disk.state d.disk) (g.D.Disk.clock d.disk) (g.D.Disk.since d.disk) =
    subst (λ (v : VolumeView g.row.D.Denot g.row.C.Denot). HasCore t0 adopted v.space.view v.device.books (g.D.Disk.state v.device.disk) (g.D.Disk.clock v.device.disk) (g.D.Disk.since v.device.disk)) (sym c.self.view_is) core in
    some_chained t0 adopted first i.space.view c.args.self.space.view.history d.books (g.D.Disk.state d.disk) _ (g.D.Disk.clock d.disk) (g.D.Disk.since d.disk) history inside begins

pub returns-clause-keeps : goal.returns-clause-keeps
returns-clause-keeps g c = λ t0 adopted core first begins image left.
    let i = c.self.inside in
    let d = i.device in
    let history : i.space.view.history ≡ c.args.self.space.view.history = ap (λ (v : VolumeView g.row.D.Denot g.row.C.Denot). v.space.view.history) c.self.view_is in
    let inside : HasCore t0 adopted i.space.view d.books (g.D.Disk.state d.disk) (g.D.Disk.clock d.disk) (g.D.Disk.since d.disk) =
    subst (λ (v : VolumeView g.row.D.Denot g.row.C.Denot). HasCore t0 adopted v.space.view v.device.books (g.D.Disk.state v.device.disk) (g.D.Disk.clock v.device.disk) (g.D.Disk.since v.device.disk)) (sym c.self.view_is) core in
    let durable : durable_of d.books ≡ durable_of c.args.self.device.books = ap (λ (v : VolumeView g.row.D.Denot g.row.C.Denot). durable_of v.device.books) c.self.view_is in
    known_kept t0 adopted first (durable_of c.args.self.device.books) i.space.view c.args.self.space.view.history d.books (g.D.Disk.state d.disk) (g.D.Disk.size d.disk) (g.D.Disk.clock d.disk) (g.D.Disk.since d.disk) history
    (omega (arith, durable)) (g.met.D.Disk.filled d.disk) (g.met.D.Disk.sized d.disk) c.steady.ensures.on_disk c.durable-durable.ensures.recovers inside begins image
    (subst (λ k. MayLeave (g.D.Disk.state k) image) c.into_disk.ensures left)
