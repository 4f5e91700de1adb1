use Rattle.std.proofs.Common.{◌≡◌, ℕ, sym, ap, ◌∙◌, subst}
use Rattle.std.specs.Prelude.{max}
use Rattle.bfs_core.specs.Moments.{DeviceMoves}
use Rattle.bfs_core.specs.Spaces.{SpaceView, released_space}
use Rattle.bfs_core.proofs.Calls.{step_marked, step_right, step_stops}
use Rattle.bfs_device_blocks.specs.Lent.{HasCore}
use Rattle.bfs_device_blocks.proofs.Holding.{hold_moved, hold_released, sized_so}
use Rattle.bfs_space.specs.Books.{SpaceBooks, released_room}
use Rattle.bfs_commit.proofs.Joined.{joined_stepped}
use Rattle.bfs_commit.proofs.Opens.{open_stepped}
use Rattle.bfs_commit.proofs.Told.{step_spare, step_stop, told_before}
use Rattle.bfs_commit.proofs.Failed.{counts_stepped}
use Rattle.bfs_commit.proofs.events.step.Goals as goal

pub returns-clause-joined : goal.returns-clause-joined
returns-clause-joined g c =
    let old = c.args.device.now in
    let new = c.step-result.new.self in
    let e = c.step-result.ensures in
    let sp = c.args.space.now in
    let moves : DeviceMoves old.books new.books (g.D.Disk.state old.disk) (g.D.Disk.state new.disk) (g.D.Disk.clock old.disk) (g.D.Disk.clock new.disk) (g.D.Disk.since old.disk) (g.D.Disk.since new.disk) = record {
      steady = c.steady.ensures.steady;
      ahead = e.ahead;
      stops = step_stops old.books new.books _ _ _ _ c.step-result.result e.ok e.fault;
      right = λ t right. step_right old.books new.books (g.D.Disk.state old.disk) (g.D.Disk.state new.disk) t right _ _ _ _ c.step-result.result e.ok e.fault (e.right t right) (e.still_right t right);
      contents = λ st next is now. e.contents st next is now;
      time = record {
        meanwhile = e.moments;
        now = c.durable-durable.ensures.recovers;
        only = g.met.D.Disk.only_now new.disk;
        moved = e.moved;
        marked = step_marked old.books new.books _ _ _ _ c.step-result.result e.marked e.fault;
      };
    } in
    joined_stepped sp c.released.new.self old.books new.books (g.D.Disk.state old.disk) (g.D.Disk.state new.disk) (g.D.Disk.clock old.disk) (g.D.Disk.clock new.disk) (g.D.Disk.since old.disk) (g.D.Disk.since new.disk) c.left.result (max sp.left c.left.result) (released_room c.left.result sp.room)
    moves (told_before old.books new.books (g.D.Disk.state old.disk) (g.D.Disk.state new.disk) _ _ _ _ c.step-result.result e.call e.failed e.fault (λ unmoved. ap g.D.Disk.state (e.unmoved unmoved))) c.left.ensures c.released.ensures.released c.released.ensures.fits c.requires.joined

pub returns-clause-open : goal.returns-clause-open
returns-clause-open g c = λ p o.
    let old = c.args.device.now in
    let new = c.step-result.new.self in
    let e = c.step-result.ensures in
    let sp = c.args.space.now in
    let moves : DeviceMoves old.books new.books (g.D.Disk.state old.disk) (g.D.Disk.state new.disk) (g.D.Disk.clock old.disk) (g.D.Disk.clock new.disk) (g.D.Disk.since old.disk) (g.D.Disk.since new.disk) = record {
      steady = c.steady.ensures.steady;
      ahead = e.ahead;
      stops = step_stops old.books new.books _ _ _ _ c.step-result.result e.ok e.fault;
      right = λ t right. step_right old.books new.books (g.D.Disk.state old.disk) (g.D.Disk.state new.disk) t right _ _ _ _ c.step-result.result e.ok e.fault (e.right t right) (e.still_right t right);
      contents = λ st next is now. e.contents st next is now;
      time = record {
        meanwhile = e.moments;
        now = c.durable-durable.ensures.recovers;
        only = g.met.D.Disk.only_now new.disk;
        moved = e.moved;
        marked = step_marked old.books new.books _ _ _ _ c.step-result.result e.marked e.fault;
      };
    } in
    open_stepped p sp c.released.new.self.view old.books new.books (g.D.Disk.state old.disk) (g.D.Disk.state new.disk) (g.D.Disk.clock old.disk) (g.D.Disk.clock new.disk) (g.D.Disk.since old.disk) (g.D.Disk.since new.disk) c.left.result
    moves (told_before old.books new.books (g.D.Disk.state old.disk) (g.D.Disk.state new.disk) _ _ _ _ c.step-result.result e.call e.failed e.fault (λ unmoved. ap g.D.Disk.state (e.unmoved unmoved))) (ap (λ (x : SpaceBooks). x.view) c.released.ensures.released) c.requires.joined o

pub returns-clause-stop : goal.returns-clause-stop
returns-clause-stop g c = step_stop c.args.device.now.books c.step-result.new.self.books c.step-result.result c.step-result.ensures.ok

pub returns-clause-spare : goal.returns-clause-spare
returns-clause-spare g c = step_spare c.args.device.now.books c.step-result.new.self.books _ _ _ _ c.step-result.result c.step-result.ensures.ok c.step-result.ensures.fault

pub returns-clause-core : goal.returns-clause-core
returns-clause-core g c = λ t0 adopted core.
    let old = c.args.device.now in
    let new = c.step-result.new.self in
    let e = c.step-result.ensures in
    let sp = c.args.space.now in
    let moves : DeviceMoves old.books new.books (g.D.Disk.state old.disk) (g.D.Disk.state new.disk) (g.D.Disk.clock old.disk) (g.D.Disk.clock new.disk) (g.D.Disk.since old.disk) (g.D.Disk.since new.disk) = record {
      steady = c.steady.ensures.steady;
      ahead = e.ahead;
      stops = step_stops old.books new.books _ _ _ _ c.step-result.result e.ok e.fault;
      right = λ t right. step_right old.books new.books (g.D.Disk.state old.disk) (g.D.Disk.state new.disk) t right _ _ _ _ c.step-result.result e.ok e.fault (e.right t right) (e.still_right t right);
      contents = λ st next is now. e.contents st next is now;
      time = record {
        meanwhile = e.moments;
        now = c.durable-durable.ensures.recovers;
        only = g.met.D.Disk.only_now new.disk;
        moved = e.moved;
        marked = step_marked old.books new.books _ _ _ _ c.step-result.result e.marked e.fault;
      };
    } in
    let view : c.released.new.self.view ≡ released_space new.books.left sp.view = ap (λ (x : SpaceBooks). x.view) c.released.ensures.released ∙ ap (λ (n : ℕ). released_space n sp.view) c.left.ensures in
    subst (λ (v : SpaceView). HasCore t0 adopted v new.books (g.D.Disk.state new.disk) (g.D.Disk.clock new.disk) (g.D.Disk.since new.disk)) (sym view)
    (hold_released t0 adopted sp.view new.books (g.D.Disk.state new.disk) (g.D.Disk.clock new.disk) (g.D.Disk.since new.disk)
    (hold_moved t0 adopted sp.view old.books (g.D.Disk.state old.disk) (g.D.Disk.clock old.disk) (g.D.Disk.since old.disk) new.books (g.D.Disk.state new.disk) (g.D.Disk.clock new.disk) (g.D.Disk.since new.disk) moves
    (sized_so new.books (g.D.Disk.size new.disk) (g.D.Disk.state new.disk) (g.met.D.Disk.filled new.disk) (g.met.D.Disk.sized new.disk) c.steady.ensures.on_disk) core))

pub returns-clause-counts : goal.returns-clause-counts
returns-clause-counts g c =
    let e = c.step-result.ensures in
    counts_stepped c.args.device.now.books c.step-result.new.self.books _ _ _ _ c.step-result.result (step_stop c.args.device.now.books c.step-result.new.self.books c.step-result.result e.ok) e.fault e.faults e.stops
