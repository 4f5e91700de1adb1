use Rattle.std.proofs.Common.{inl, ap}
use Rattle.bfs_device.specs.Books.{Books}
use Rattle.bfs_core.proofs.Calls.{write_rests, write_right, write_stops}
use Rattle.bfs_space_tests.proofs.core_tests.write_of.Goals as goal

pub returns : goal.returns
returns g c =
    let old = c.args.device.now in
    let new = c.data_write-result.new.self in
    let e = c.data_write-result.ensures in
    record {
      rests = write_rests old.books new.books _ _ _ _ c.data_write-result.result e.ok e.fault;
      stops = write_stops old.books new.books _ _ _ _ c.data_write-result.result e.ok e.fault;
      right = λ t right. write_right c.args.block old.books new.books t right.0 (g.D.Disk.state new.disk) c.data_write-result.result (e.right t right) (e.still_right t right);
      time = record {
        meanwhile = e.moments;
        now = c.durable-durable.ensures.recovers;
        only = g.met.D.Disk.only_now new.disk;
        moved = e.moved;
        marked = inl (ap (λ (b : Books). b.marks) (write_rests old.books new.books _ _ _ _ c.data_write-result.result e.ok e.fault));
      };
    }
