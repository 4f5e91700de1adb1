use Rattle.bfs_device_blocks.proofs.Keeping.{fit_read}
use Rattle.bfs_device_blocks.proofs.laws.fit_is_read.Goals as goal

pub returns : goal.returns
returns g c =
    λ y w s adopted b next story covered read fits. fit_read y w s adopted b next (g.D.Disk.state c.args.old.now) (g.D.Disk.state c.args.new.now) (g.D.Disk.clock c.args.old.now) (g.D.Disk.clock c.args.new.now) (g.D.Disk.since c.args.old.now) (g.D.Disk.since c.args.new.now) (g.met.D.Disk.only_now c.args.old.now) (g.met.D.Disk.fewer c.args.new.now) story covered read fits
