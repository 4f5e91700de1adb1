use Rattle.std.proofs.Common.{inl, ap}
use Rattle.bfs_device.specs.Books.{Books}
use Rattle.bfs_device.proofs.Contents.{rested_contents}
use Rattle.bfs_core.proofs.Calls.{read_ahead, read_right, read_stops}
use Rattle.bfs_space_tests.proofs.core_tests.read_of.Goals as goal

pub returns : goal.returns
returns g c =
    let old = c.args.device.now in
    let new = c.block-result.new.self in
    let e = c.block-result.ensures in
    record {
      steady = c.steady.ensures.steady;
      ahead = read_ahead old.books new.books e.rests;
      stops = read_stops old.books new.books e.rests;
      right = λ t right. read_right old.books new.books (g.D.Disk.state old.disk) (g.D.Disk.state new.disk) t right e.rests e.state (e.right t);
      contents = λ st next is now. rested_contents old.books new.books (g.D.Disk.state old.disk) (g.D.Disk.state new.disk) e.rests e.state st next is now;
      time = record {
        meanwhile = e.moments;
        now = c.durable-durable.ensures.recovers;
        only = g.met.D.Disk.only_now new.disk;
        moved = e.moved;
        marked = inl (ap (λ (b : Books). b.marks) e.rests);
      };
    }
