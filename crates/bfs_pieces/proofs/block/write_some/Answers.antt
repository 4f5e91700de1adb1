use Rattle.std.proofs.Common.{inr, length}
use Rattle.bfs_pieces.proofs.Writing.{may_rested, read_rested, tells_on, tells_rested}
use Rattle.bfs_pieces.proofs.Halting.{halted_read}
use Rattle.bfs_pieces.proofs.block.write_some.Goals as goal

pub returns-in-Ok-clause-core : goal.returns-in-Ok-clause-core
returns-in-Ok-clause-core g c = λ t0 adopted sp core behind may.
    let old = c.args.device.now in
    let mid = c.read_block.new.device in
    let new = c.write_in.new.device in
    let e = c.in-Ok.ensures in
    let got = c.write_in.ensures.core t0 adopted sp (e.core t0 adopted sp core) behind
    (may_rested t0 sp old.books mid.books (g.D.Disk.state old.disk) (g.D.Disk.state mid.disk) c.args.place c.args.skip (length c.args.from.now) e.rests e.state may)
    (inr (read_rested old.books mid.books (g.D.Disk.state old.disk) (g.D.Disk.state mid.disk) c.args.place c.read_block.new.into e.rests e.state e.bytes)) in
    (got.0, tells_on c.args.place old.books mid.books new.books (g.D.Disk.state old.disk) (g.D.Disk.state mid.disk) (g.D.Disk.state new.disk) e.rests e.state got.1)

pub returns-in-Err-clause-core : goal.returns-in-Err-clause-core
returns-in-Err-clause-core g c = λ t0 adopted sp core behind may.
    let old = c.args.device.now in
    let mid = c.read_block.new.device in
    let e = c.in-Err.ensures in
    (e.core t0 adopted sp core, tells_rested c.args.place old.books mid.books (g.D.Disk.state old.disk) (g.D.Disk.state mid.disk) e.rests e.state)

pub returns-in-Err-clause-halted : goal.returns-in-Err-clause-halted
returns-in-Err-clause-halted g c = halted_read c.args.device.now.books c.read_block.new.device.books _ _ _ _ c.in-Err.fault c.in-Err.ensures.rests c.in-Err.ensures.cause
