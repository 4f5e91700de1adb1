use Rattle.bfs_device_blocks.proofs.Keeping.{core_given_back}
use Rattle.bfs_device_blocks.proofs.blocks.DeviceBlocks.done.Goals as goal

pub returns-clause-core : goal.returns-clause-core
returns-clause-core g c = λ t0 adopted sp core.
    let u = c.args.self in
    core_given_back t0 adopted sp u.start.value.books u.device.now.books (g.D.Disk.state u.start.value.disk) (g.D.Disk.state u.device.now.disk) (g.D.Disk.clock u.start.value.disk) (g.D.Disk.clock u.device.now.disk)
    (g.D.Disk.since u.start.value.disk) (g.D.Disk.since u.device.now.disk) (g.met.D.Disk.only_now u.start.value.disk) (g.met.D.Disk.fewer u.device.now.disk) u.reads u.rests u.same core
