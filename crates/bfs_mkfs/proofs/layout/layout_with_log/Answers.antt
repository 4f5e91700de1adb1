use Rattle.bfs_mkfs.proofs.Planned.{planned_of}
use Rattle.bfs_mkfs.proofs.layout.layout_with_log.Goals as goal

pub returns-in-Ok-clause-planned : goal.returns-in-Ok-clause-planned
returns-in-Ok-clause-planned c = planned_of c.args.blocks c.args.block_size c.args.log_blocks c.in-Ok.geometry c.requires.size c.requires.length c.requires.log_low c.requires.log_high c.in-Ok.ensures.ok
