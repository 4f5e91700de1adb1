use Rattle.bfs_device.proofs.Sealing.{adopted_rests}
use Rattle.bfs_device.proofs.Stepping.{on_state, filled_state}
use Rattle.bfs_device.proofs.device.Device.adopt.Goals as goal

pub returns-clause-right : goal.returns-clause-right
returns-clause-right g c = λ image held is.
    let disk = c.args.disk in (
      held.0,
      held.1,
      adopted_rests c.args.sup held.0 image c.requires.valid (filled_state (g.D.Disk.state disk) held.0 (g.met.D.Disk.filled disk) held.1)
          (on_state c.args.sup (g.D.Disk.size disk) (g.D.Disk.state disk) held.0 (g.met.D.Disk.sized disk) c.requires.on_disk held.1) held.2 is,
    )
