use Rattle.std.proofs.Common.{inl}
use Rattle.bfs_core.specs.Moments.{DeviceMoves}
use Rattle.bfs_core.proofs.Calls.{read_ahead, read_right, read_stops}
use Rattle.bfs_device_blocks.proofs.Holding.{hold_moved, sized_so}
use Rattle.bfs_device.proofs.Contents.{rested_contents}
use Rattle.bfs_pieces.proofs.Writing.{rested_marks}
use Rattle.bfs_pieces.proofs.block.read_block.Goals as goal

pub returns-clause-core : goal.returns-clause-core
returns-clause-core g c = λ t0 adopted sp core.
    let old = c.args.device.now in
    let new = c.data_read-result.new.self in
    let e = c.data_read-result.ensures in
    let moves : DeviceMoves old.books new.books (g.D.Disk.state old.disk) (g.D.Disk.state new.disk) (g.D.Disk.clock old.disk) (g.D.Disk.clock new.disk) (g.D.Disk.since old.disk) (g.D.Disk.since new.disk) = record {
      steady = c.steady.ensures.steady;
      ahead = read_ahead old.books new.books e.rests;
      stops = read_stops old.books new.books e.rests;
      right = λ t right. read_right old.books new.books (g.D.Disk.state old.disk) (g.D.Disk.state new.disk) t right e.rests e.state (e.right t);
      contents = λ st next is now. rested_contents old.books new.books (g.D.Disk.state old.disk) (g.D.Disk.state new.disk) e.rests e.state st next is now;
      time = record {
        meanwhile = e.moments;
        now = c.durable-durable.ensures.recovers;
        only = g.met.D.Disk.only_now new.disk;
        moved = e.moved;
        marked = inl (rested_marks old.books new.books e.rests);
      };
    } in
    hold_moved t0 adopted sp old.books (g.D.Disk.state old.disk) (g.D.Disk.clock old.disk) (g.D.Disk.since old.disk) new.books (g.D.Disk.state new.disk) (g.D.Disk.clock new.disk) (g.D.Disk.since new.disk) moves (sized_so new.books (g.D.Disk.size new.disk) (g.D.Disk.state new.disk) (g.met.D.Disk.filled new.disk) (g.met.D.Disk.sized new.disk) c.steady.ensures.on_disk) core
