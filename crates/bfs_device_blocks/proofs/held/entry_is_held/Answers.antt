use Rattle.bfs_device_blocks.proofs.Holding.{hold_entered, sized_so}
use Rattle.bfs_device_blocks.proofs.held.entry_is_held.Goals as goal

pub returns : goal.returns
returns g c =
    λ t0 adopted sp new b e entered known keeps on linked core. hold_entered t0 adopted sp b (g.D.Disk.state c.args.disk.now) (g.D.Disk.clock c.args.disk.now) (g.D.Disk.since c.args.disk.now) new e entered known keeps (sized_so b (g.D.Disk.size c.args.disk.now) (g.D.Disk.state c.args.disk.now) (g.met.D.Disk.filled c.args.disk.now) (g.met.D.Disk.sized c.args.disk.now) on) linked core
