use Rattle.bfs_device_blocks.proofs.Holding.{hold_written, sized_so}
use Rattle.bfs_device_blocks.proofs.held.write_is_held.Goals as goal

pub returns : goal.returns
returns g c =
    λ t0 adopted sp block b next file in_block bytes over on behind writes core. hold_written t0 adopted sp b (g.D.Disk.state c.args.old.now) (g.D.Disk.clock c.args.old.now) (g.D.Disk.since c.args.old.now) block next (g.D.Disk.state c.args.new.now) (g.D.Disk.clock c.args.new.now) (g.D.Disk.since c.args.new.now) file in_block bytes over (sized_so next (g.D.Disk.size c.args.new.now) (g.D.Disk.state c.args.new.now) (g.met.D.Disk.filled c.args.new.now) (g.met.D.Disk.sized c.args.new.now) on) behind writes core
