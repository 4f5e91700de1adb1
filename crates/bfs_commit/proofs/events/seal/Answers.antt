use Rattle.std.proofs.Common.{sym, ap, subst, length}
use Rattle.bfs_core.specs.Spaces.{SpaceView, sealed_space}
use Rattle.bfs_device.specs.Books.{Books}
use Rattle.bfs_device_blocks.specs.Lent.{HasCore}
use Rattle.bfs_device_blocks.proofs.Holding.{hold_sealed}
use Rattle.bfs_space.specs.Books.{SpaceBooks, sealed_room}
use Rattle.bfs_commit.specs.Open.{IsOpen}
use Rattle.bfs_commit.specs.Volumes.{AreJoined}
use Rattle.bfs_commit.proofs.Joined.{fitted_next, joined_sealed}
use Rattle.bfs_commit.proofs.Opens.{open_sealed}
use Rattle.bfs_commit.proofs.events.seal.Goals as goal

pub seal-requires-in-Some-clause-next : goal.seal-requires-in-Some-clause-next
seal-requires-in-Some-clause-next g c = fitted_next c.args.space.now.view c.args.device.now.books c.in-Some.group c.requires.joined.fitted c.in-Some.ensures.sealed.0

pub returns-in-Some-clause-joined : goal.returns-in-Some-clause-joined
returns-in-Some-clause-joined g c =
    let sp = c.args.space.now in
    let d = c.args.device.now in
    subst (λ disk. AreJoined c.seal.new.self c.seal-in-Some.new.self.books (g.D.Disk.state disk)) (sym c.seal-in-Some.ensures.disk)
    (joined_sealed sp c.seal.new.self d.books c.seal-in-Some.new.self.books c.in-Some.group (g.D.Disk.state d.disk) (sealed_room (length sp.view.history) sp.room) c.in-Some.ensures.sealed.0 c.in-Some.ensures.sealed.1 c.seal-in-Some.ensures.books c.in-Some.ensures.fits c.requires.joined)

pub returns-in-Some-clause-open : goal.returns-in-Some-clause-open
returns-in-Some-clause-open g c = λ p o.
    let sp = c.args.space.now in
    let d = c.args.device.now in
    subst (λ disk. IsOpen p c.seal.new.self.view c.seal-in-Some.new.self.books (g.D.Disk.state disk)) (sym c.seal-in-Some.ensures.disk)
    (open_sealed p sp c.seal.new.self.view d.books c.seal-in-Some.new.self.books c.in-Some.group (g.D.Disk.state d.disk) c.in-Some.ensures.sealed.0 (ap (λ (x : SpaceBooks). x.view) c.in-Some.ensures.sealed.1) c.seal-in-Some.ensures.books c.requires.joined o)

pub returns-in-Some-clause-core : goal.returns-in-Some-clause-core
returns-in-Some-clause-core g c = λ t0 adopted core.
    let sp = c.args.space.now in
    let d = c.args.device.now in
    subst (λ disk. HasCore t0 adopted c.seal.new.self.view c.seal-in-Some.new.self.books (g.D.Disk.state disk) (g.D.Disk.clock disk) (g.D.Disk.since disk)) (sym c.seal-in-Some.ensures.disk)
    (subst (λ (v : SpaceView). HasCore t0 adopted v c.seal-in-Some.new.self.books (g.D.Disk.state d.disk) (g.D.Disk.clock d.disk) (g.D.Disk.since d.disk)) (sym (ap (λ (x : SpaceBooks). x.view) c.in-Some.ensures.sealed.1))
    (subst (λ (b : Books). HasCore t0 adopted (sealed_space sp.view) b (g.D.Disk.state d.disk) (g.D.Disk.clock d.disk) (g.D.Disk.since d.disk)) (sym c.seal-in-Some.ensures.books)
    (hold_sealed t0 adopted sp.view d.books (g.D.Disk.state d.disk) (g.D.Disk.clock d.disk) (g.D.Disk.since d.disk) c.in-Some.group c.in-Some.ensures.sealed.0 core)))

pub returns-in-None-clause-core : goal.returns-in-None-clause-core
returns-in-None-clause-core g c = λ t0 adopted core.
    let d = c.args.device.now in
    subst (λ (x : SpaceBooks). HasCore t0 adopted x.view d.books (g.D.Disk.state d.disk) (g.D.Disk.clock d.disk) (g.D.Disk.since d.disk)) (sym c.in-None.ensures.sealed.1) core

pub returns-in-None-clause-open : goal.returns-in-None-clause-open
returns-in-None-clause-open g c = λ p o.
    let d = c.args.device.now in
    subst (λ (x : SpaceBooks). IsOpen p x.view d.books (g.D.Disk.state d.disk)) (sym c.in-None.ensures.sealed.1) o
