use Rattle.bfs_core.proofs.Calls.{step_marked, step_right, step_stops}
use Rattle.bfs_space_tests.proofs.core_tests.step_of.Goals as goal

pub returns : goal.returns
returns g c =
    let old = c.args.device.now in
    let new = c.step-result.new.self in
    let e = c.step-result.ensures in
    record {
      steady = c.steady.ensures.steady;
      ahead = e.ahead;
      stops = step_stops old.books new.books _ _ _ _ c.step-result.result e.ok e.fault;
      right = λ t right. step_right old.books new.books (g.D.Disk.state old.disk) (g.D.Disk.state new.disk) t right _ _ _ _ c.step-result.result e.ok e.fault (e.right t right) (e.still_right t right);
      contents = λ st next is now. e.contents st next is now;
      time = record {
        meanwhile = e.moments;
        now = c.durable-durable.ensures.recovers;
        only = g.met.D.Disk.only_now new.disk;
        moved = e.moved;
        marked = step_marked old.books new.books _ _ _ _ c.step-result.result e.marked e.fault;
      };
    }
