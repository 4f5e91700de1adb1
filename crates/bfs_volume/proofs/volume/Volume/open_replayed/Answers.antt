use Rattle.std.proofs.Common.{rules, [], ◌≡◌, ◌∙◌, ℕ, List, Some, sym, ap, subst, arith}
use Rattle.std.proofs.Math.Logic.{∥∥₁_map}
use Rattle.bfs_disk.specs.State.{State}
use Rattle.bfs_super.specs.declared.sup.Super.{Super}
use Rattle.bfs_device.specs.Books.{Books, IsOnDisk, View}
use Rattle.bfs_device.specs.Seals.{adopted}
use Rattle.bfs_device.specs.Ahead.{IsSteady}
use Rattle.bfs_core.specs.Spaces.{opened}
use Rattle.bfs_core.specs.Moments.{Adoption, adopted_from}
use Rattle.bfs_core.specs.Chains.{image_in}
use Rattle.bfs_log.specs.Replay.{super_of}
use Rattle.bfs_core.proofs.Mounts.{mount_core, mount_kept}
use Rattle.bfs_device_blocks.specs.Lent.{HasCore, HasImages}
use Rattle.bfs_file_io.specs.Books.{SpaceBooks}
use Rattle.bfs_file_io.specs.Open.{AreOpen, OpenView}
use Rattle.bfs_file_io.specs.Volumes.{AreJoined}
use Rattle.bfs_volume.proofs.Others.{none_open}
use Rattle.bfs_mount.proofs.Mounting.{held_recovered, images_held, known_held, mounted_next, mounted_recovers, one_image}
use Rattle.bfs_volume.proofs.Opened.{joined_first}
use Rattle.bfs_volume.proofs.volume.Volume.open_replayed.Goals as goal

pub invariant_of-result : goal.invariant_of-result
invariant_of-result g c =
    let s = c.args.sup in
    let disk = c.args.disk in
    let d = c.in-Ok-adopt.device in
    let v = c.cached-device.result in
    let space = c.in-Ok-open.space in
    let is : v ≡ d = c.cached-device.ensures in
    let books : d.books ≡ adopted s = c.in-Ok-adopt.ensures.ok.1 in
    let same : d.disk ≡ disk = c.in-Ok-adopt.ensures.ok.0 in
    let on : IsOnDisk (g.D.Disk.size disk) s =
    subst (λ k. IsOnDisk (g.D.Disk.size k) s) same (subst (λ (b : Books). IsOnDisk (g.D.Disk.size d.disk) b.sup) books (subst (λ (x : View g.row.D.Denot). IsOnDisk (g.D.Disk.size x.disk) x.books.sup) is c.steady.ensures.on_disk)) in
    let steady : IsSteady (adopted s) = subst IsSteady (ap (λ (x : View g.row.D.Denot). x.books) is ∙ books) c.steady.ensures.steady in
    let first = joined_first (g.D.Disk.state disk) (g.D.Disk.size disk) s c.args.nodes c.requires.whole (g.met.D.Disk.filled disk) (g.met.D.Disk.sized disk) on steady in
    let none : c.new-2.result.items ≡ [] = search rules in
    let spare : v.books.spare ≡ 1 = ap (λ (x : View g.row.D.Denot). x.books.spare) is ∙ ap (λ (b : Books). b.spare) books in (
      subst (λ (x : View g.row.D.Denot). AreJoined space x.books (g.D.Disk.state x.disk)) (sym is)
          (subst (λ k. AreJoined space d.books (g.D.Disk.state k)) (sym same) (subst (λ (b : Books). AreJoined space b (g.D.Disk.state disk)) (sym books) (subst (λ (x : SpaceBooks). AreJoined x (adopted s) (g.D.Disk.state disk)) (sym c.in-Ok-open.ensures) first))),
      subst (λ (ps : List OpenView). AreOpen ps space v.books (g.D.Disk.state v.disk)) (sym none)
          (none_open space v.books (g.D.Disk.state v.disk) (ap (λ (x : SpaceBooks). x.promised) c.in-Ok-open.ensures) (ap (λ (x : SpaceBooks). x.view.history) c.in-Ok-open.ensures)),
      omega (arith, spare),
    )

pub returns-clause-core : goal.returns-clause-core
returns-clause-core g c = λ t0 image begun early kept held from.
    let s = c.args.sup in
    let disk = c.args.disk in
    let d = c.in-Ok-adopt.device in
    let v = c.cached-device.result in
    let space = c.in-Ok-open.space in
    let is : v ≡ d = c.cached-device.ensures in
    let books : d.books ≡ adopted s = c.in-Ok-adopt.ensures.ok.1 in
    let same : d.disk ≡ disk = c.in-Ok-adopt.ensures.ok.0 in
    let on : IsOnDisk (g.D.Disk.size disk) s =
    subst (λ k. IsOnDisk (g.D.Disk.size k) s) same (subst (λ (b : Books). IsOnDisk (g.D.Disk.size d.disk) b.sup) books (subst (λ (x : View g.row.D.Denot). IsOnDisk (g.D.Disk.size x.disk) x.books.sup) is c.steady.ensures.on_disk)) in
    let got = held_recovered s c.args.nodes (g.D.Disk.state disk) (g.met.D.Disk.filled disk) c.requires.whole image held in
    let at_it : Adoption = adopted_from begun (g.D.Disk.clock disk) (Some (image_in image)) in
    let core = mount_core t0 image got.0 (g.D.Disk.state disk) (g.D.Disk.size disk) (mounted_recovers image t0 from) got.1 got.2 (g.met.D.Disk.filled disk) (g.met.D.Disk.sized disk) (subst (IsOnDisk (g.D.Disk.size disk)) got.3 on) in
    let past = ∥∥₁_map kept (λ k. mount_kept t0 (Some (image_in image)) begun (g.D.Disk.clock disk) (g.D.Disk.since disk) early k) in
    let next = mounted_next image got.0 t0 from got.1 in
    let known = λ (st : State) (is : g.D.Disk.state disk ≡ Some st). known_held t0 got.0 (g.D.Disk.state disk) (g.D.Disk.size disk) st next.0 next.1 got.2 (g.met.D.Disk.filled disk) (g.met.D.Disk.sized disk) (subst (IsOnDisk (g.D.Disk.size disk)) got.3 on) is in
    let one : got.0 ≡ image = one_image (g.D.Disk.state disk) got.2.0 got.0 image got.2.1 (g.met.D.Disk.filled disk) got.2.2 held in
    let images : HasImages t0 at_it (opened (super_of got.0)) (adopted (super_of got.0)) (g.D.Disk.state disk) =
    subst (λ (x : List ℕ). HasImages t0 (adopted_from begun (g.D.Disk.clock disk) (Some (image_in x))) (opened (super_of got.0)) (adopted (super_of got.0)) (g.D.Disk.state disk)) one
    (images_held t0 begun (g.D.Disk.clock disk) got.0 (g.D.Disk.state disk) (g.D.Disk.size disk) next.0 got.2 (g.met.D.Disk.filled disk) (g.met.D.Disk.sized disk) (subst (IsOnDisk (g.D.Disk.size disk)) got.3 on) next.1) in
    let here : HasCore t0 at_it (opened s) (adopted s) (g.D.Disk.state disk) (g.D.Disk.clock disk) (g.D.Disk.since disk) =
    subst (λ (x : Super). HasCore t0 at_it (opened x) (adopted x) (g.D.Disk.state disk) (g.D.Disk.clock disk) (g.D.Disk.since disk)) (sym got.3)
    ((core.0, core.1, (core.2.0, core.2.1, known core.0 core.1)), past, images) in
    subst (λ (x : View g.row.D.Denot). HasCore t0 (adopted_from begun (g.D.Disk.clock x.disk) (Some (image_in image))) space.view x.books (g.D.Disk.state x.disk) (g.D.Disk.clock x.disk) (g.D.Disk.since x.disk)) (sym is)
    (subst (λ k. HasCore t0 (adopted_from begun (g.D.Disk.clock k) (Some (image_in image))) space.view d.books (g.D.Disk.state k) (g.D.Disk.clock k) (g.D.Disk.since k)) (sym same)
    (subst (λ (b : Books). HasCore t0 at_it space.view b (g.D.Disk.state disk) (g.D.Disk.clock disk) (g.D.Disk.since disk)) (sym books)
    (subst (λ (x : SpaceBooks). HasCore t0 at_it x.view (adopted s) (g.D.Disk.state disk) (g.D.Disk.clock disk) (g.D.Disk.since disk)) (sym c.in-Ok-open.ensures) here)))
