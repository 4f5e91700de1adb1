use Rattle.std.proofs.Common.{◌%◌, ◌∙◌, arith}
use Rattle.bfs_check.proofs.Slotted.{part_long, kept_read, kept_failed}
use Rattle.bfs_check.proofs.windows.keep.Goals as goal

pub returns-in-Ok-clause-kept : goal.returns-in-Ok-clause-kept
returns-in-Ok-clause-kept g c = kept_read (c.args.window % 32) c.args.bytes.now c.read.new.into (omega arith) c.requires.bytes (c.read.auto.into ∙ part_long (c.args.window % 32) c.args.bytes.now (omega arith) c.requires.bytes) (g.D.Disk.state c.args.disk.now) c.args.tags.now c.args.window c.requires.tags c.requires.kept c.in-Ok.ensures.bytes

pub returns-in-Err-clause-kept : goal.returns-in-Err-clause-kept
returns-in-Err-clause-kept g c = kept_failed (c.args.window % 32) c.args.bytes.now c.read.new.into (omega arith) c.requires.bytes (c.read.auto.into ∙ part_long (c.args.window % 32) c.args.bytes.now (omega arith) c.requires.bytes) (g.D.Disk.state c.args.disk.now) c.args.tags.now c.requires.tags c.requires.kept
