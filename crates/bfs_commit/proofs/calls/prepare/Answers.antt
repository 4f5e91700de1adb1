use Rattle.std.proofs.Common.{sym, subst}
use Rattle.bfs_core.specs.Spaces.{SpaceView}
use Rattle.bfs_device_blocks.specs.Lent.{HasCore}
use Rattle.bfs_commit.specs.Open.{IsOpen}
use Rattle.bfs_commit.proofs.Joined.{joined_promised, view_promised}
use Rattle.bfs_commit.proofs.calls.prepare.Goals as goal

pub returns-clause-joined : goal.returns-clause-joined
returns-clause-joined g c =
    let new = c.make_room.new.device in
    let sp = c.args.space.now in
    joined_promised c.promise.result sp c.promise.new.self _ new.books (g.D.Disk.state new.disk) c.promise.ensures.ok c.promise.ensures.err (c.make_room.ensures.joined sp c.requires.joined)

pub returns-clause-view : goal.returns-clause-view
returns-clause-view g c = view_promised c.promise.result c.args.space.now c.promise.new.self _ c.promise.ensures.ok c.promise.ensures.err

pub returns-clause-open : goal.returns-clause-open
returns-clause-open g c = λ p other o.
    let new = c.make_room.new.device in
    let sp = c.args.space.now in
    subst (λ (v : SpaceView). IsOpen p v new.books (g.D.Disk.state new.disk)) (sym (view_promised c.promise.result sp c.promise.new.self _ c.promise.ensures.ok c.promise.ensures.err))
    (c.make_room.ensures.open p sp.view o)

pub returns-clause-core : goal.returns-clause-core
returns-clause-core g c = λ t0 adopted core.
    let new = c.make_room.new.device in
    let sp = c.args.space.now in
    subst (λ (v : SpaceView). HasCore t0 adopted v new.books (g.D.Disk.state new.disk) (g.D.Disk.clock new.disk) (g.D.Disk.since new.disk)) (sym (view_promised c.promise.result sp c.promise.new.self _ c.promise.ensures.ok c.promise.ensures.err))
    (c.make_room.ensures.core t0 adopted sp.view core)
