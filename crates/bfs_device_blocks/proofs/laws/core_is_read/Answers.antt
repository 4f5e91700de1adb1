use Rattle.bfs_device_blocks.proofs.Keeping.{core_read}
use Rattle.bfs_device_blocks.proofs.laws.core_is_read.Goals as goal

pub returns : goal.returns
returns g c =
    λ t0 adopted sp b next read core. core_read t0 adopted sp b next (g.D.Disk.state c.args.old.now) (g.D.Disk.state c.args.new.now) (g.D.Disk.clock c.args.old.now) (g.D.Disk.clock c.args.new.now) (g.D.Disk.since c.args.old.now) (g.D.Disk.since c.args.new.now) (g.met.D.Disk.only_now c.args.old.now) (g.met.D.Disk.fewer c.args.new.now) read core
