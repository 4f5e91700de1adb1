use Rattle.bfs_growth.proofs.Takes.{took_is}
use Rattle.bfs_stream.proofs.Writes.{bits_in_run}
use Rattle.bfs_growth.proofs.adding.take.Goals as goal

pub returns-in-Ok-clause-took : goal.returns-in-Ok-clause-took
returns-in-Ok-clause-took g c m is fits =
    took_is c.args.stream.now.sizes c.args.bitmap.now c.take_run.new.self c.in-Ok.run' c.args.wanted c.args.longest m (g.E.Blocks.told c.take_run.new.edits) c.requires.volume (c.in-Ok.ensures.taken m is fits) (c.in-Ok.ensures.marked m is fits) c.in-Ok.ensures.rest (c.in-Ok.ensures.counted m is fits)

pub returns-in-Ok-clause-bits : goal.returns-in-Ok-clause-bits
returns-in-Ok-clause-bits g c = bits_in_run c.args.stream.now.sizes c.args.bitmap.now c.in-Ok.run' (g.E.Blocks.changed c.args.edits.now) (g.E.Blocks.changed c.take_run.new.edits) c.requires.volume c.in-Ok.ensures.bits
