use Rattle.bfs_device.proofs.Sizes.{has_two}
use Rattle.bfs_device.proofs.calls.perform.Goals as goal

pub write_super-requires : goal.write_super-requires
write_super-requires g c = has_two c.args.sup.now c.requires.valid (g.D.Disk.size c.args.disk.now) c.requires.on_disk

pub write_super-requires-in-Tail : goal.write_super-requires-in-Tail
write_super-requires-in-Tail g c = has_two c.args.sup.now c.requires.valid (g.D.Disk.size c.args.disk.now) c.requires.on_disk
