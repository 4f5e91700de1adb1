use Rattle.std.proofs.Common.{◌*◌, inl, ℕ, Option, ap, subst, sym}
use Rattle.bfs_device.specs.Layouts.{layout_of}
use Rattle.bfs_device.specs.Books.{Books, IsOnDisk}
use Rattle.bfs_super.specs.declared.sup.Super.{Super}
use Rattle.bfs_device_blocks.proofs.Holding.{sized_so}
use Rattle.bfs_device.proofs.Stepping.{filled_state, on_state}
use Rattle.bfs_core.specs.Moments.{DeviceWrites}
use Rattle.bfs_core.proofs.Calls.{write_rests, write_right, write_stops}
use Rattle.bfs_pieces.proofs.Writing.{block_long, leaves_half, reads_but, reads_written, silent_written, whole_written}
use Rattle.bfs_pieces.proofs.Halting.{halted_write}
use Rattle.bfs_pieces.proofs.block.write_whole.Goals as goal

pub returns-clause-bytes : goal.returns-clause-bytes
returns-clause-bytes g c =
    let old = c.args.device.now in
    let new = c.data_write-result.new.self in
    let long = block_long old.books.sup c.args.from.now c.steady.ensures.steady.valid c.requires.long in
    reads_written (g.D.Disk.state old.disk) (g.D.Disk.state new.disk) (layout_of old.books.sup).sectors c.args.place c.args.from.now c.data_write-result.result long c.data_write-result.ensures.call

pub returns-clause-others : goal.returns-clause-others
returns-clause-others g c =
    let old = c.args.device.now in
    let new = c.data_write-result.new.self in
    let e = c.data_write-result.ensures in
    let long = block_long old.books.sup c.args.from.now c.steady.ensures.steady.valid c.requires.long in
    let half = leaves_half old.books.stop (g.D.Disk.state old.disk) (g.D.Disk.state new.disk) ((layout_of old.books.sup).sectors * c.args.place) c.args.from.now c.data_write-result.result e.call e.failed (λ some. ap g.D.Disk.state (e.unmoved some)) in
    reads_but (g.D.Disk.state old.disk) (g.D.Disk.state new.disk) (layout_of old.books.sup).sectors c.args.place c.args.from.now long half

pub returns-clause-rest : goal.returns-clause-rest
returns-clause-rest g c =
    let e = c.data_write-result.ensures in
    write_rests c.args.device.now.books c.data_write-result.new.self.books _ _ _ _ c.data_write-result.result e.ok e.fault

pub returns-clause-core : goal.returns-clause-core
returns-clause-core g c = λ t0 adopted sp core behind may.
    let old = c.args.device.now in
    let new = c.data_write-result.new.self in
    let e = c.data_write-result.ensures in
    let rests = write_rests old.books new.books _ _ _ _ c.data_write-result.result e.ok e.fault in
    let long = block_long old.books.sup c.args.from.now c.steady.ensures.steady.valid c.requires.long in
    let on : IsOnDisk (g.D.Disk.size new.disk) new.books.sup =
    subst (λ (s : Super). IsOnDisk (g.D.Disk.size new.disk) s) (sym e.sup) (subst (λ (n : Option ℕ). IsOnDisk n old.books.sup) (sym e.size) c.steady.ensures.on_disk) in
    let half = leaves_half old.books.stop (g.D.Disk.state old.disk) (g.D.Disk.state new.disk) ((layout_of old.books.sup).sectors * c.args.place) c.args.from.now c.data_write-result.result e.call e.failed (λ some. ap g.D.Disk.state (e.unmoved some)) in
    let writes : DeviceWrites c.args.place old.books new.books (g.D.Disk.state old.disk) (g.D.Disk.state new.disk) (g.D.Disk.clock old.disk) (g.D.Disk.clock new.disk) (g.D.Disk.since old.disk) (g.D.Disk.since new.disk) = record {
      rests = rests;
      stops = write_stops old.books new.books _ _ _ _ c.data_write-result.result e.ok e.fault;
      right = λ t right. write_right c.args.place old.books new.books t right.0 (g.D.Disk.state new.disk) c.data_write-result.result (e.right t right) (e.still_right t right);
      time = record {
        meanwhile = e.moments;
        now = c.durable-durable.ensures.recovers;
        only = g.met.D.Disk.only_now new.disk;
        moved = e.moved;
        marked = inl (ap (λ (x : Books). x.marks) rests);
      };
    } in
    whole_written t0 adopted sp old.books new.books (g.D.Disk.state old.disk) (g.D.Disk.state new.disk) (g.D.Disk.clock old.disk) (g.D.Disk.clock new.disk) (g.D.Disk.since old.disk) (g.D.Disk.since new.disk) c.args.place c.args.from.now
    writes (λ st is. filled_state (g.D.Disk.state old.disk) st (g.met.D.Disk.filled old.disk) is)
    (λ st is. on_state old.books.sup (g.D.Disk.size old.disk) (g.D.Disk.state old.disk) st (g.met.D.Disk.sized old.disk) c.steady.ensures.on_disk is)
    long half core (sized_so new.books (g.D.Disk.size new.disk) (g.D.Disk.state new.disk) (g.met.D.Disk.filled new.disk) (g.met.D.Disk.sized new.disk) on) behind may

pub returns-clause-silent : goal.returns-clause-silent
returns-clause-silent g c =
    let old = c.args.device.now in
    let new = c.data_write-result.new.self in
    let e = c.data_write-result.ensures in
    silent_written old.books.stop (g.D.Disk.state old.disk) (g.D.Disk.state new.disk) ((layout_of old.books.sup).sectors * c.args.place) c.args.from.now c.data_write-result.result e.call e.failed (λ some. ap g.D.Disk.state (e.unmoved some))

pub returns-clause-halted : goal.returns-clause-halted
returns-clause-halted g c = halted_write c.args.device.now.books c.data_write-result.new.self.books _ _ _ _ c.data_write-result.result c.data_write-result.ensures.fault
