use Rattle.bfs_device_blocks.proofs.Holding.{hold}
use Rattle.bfs_device_blocks.proofs.held.core_is_held.Goals as goal

pub returns : goal.returns
returns g c =
    λ t0 adopted sp b core known images. hold t0 adopted sp b (g.D.Disk.state c.args.disk.now) (g.D.Disk.clock c.args.disk.now) (g.D.Disk.since c.args.disk.now) core known images
