use Rattle.bfs_moves.proofs.Taken.{taken_step, taken_new}
use Rattle.bfs_moves.proofs.take.take_block.Goals as goal

pub returns-in-Ok-clause-taken : goal.returns-in-Ok-clause-taken
returns-in-Ok-clause-taken g c m tree lists loose told work =
    taken_step c.args.sup.now c.args.bitmap.now c.take_run.new.self c.in-Ok.run' m tree lists loose (g.E.Blocks.told c.take_run.new.edits) (g.E.Blocks.changed c.args.edits.now) (g.E.Blocks.changed c.take_run.new.edits) c.requires.valid work
    c.in-Ok.ensures.inside c.in-Ok.ensures.long.0 c.in-Ok.ensures.long.1 (c.in-Ok.ensures.taken m told work.fits) (c.in-Ok.ensures.marked m told work.fits) c.take_run.ensures.rest c.take_run.ensures.changed c.take_run.ensures.stays (c.in-Ok.ensures.counted m told work.fits) c.block_of.result c.block_of.ensures

pub returns-in-Ok-clause-no_node : goal.returns-in-Ok-clause-no_node
returns-in-Ok-clause-no_node g c m tree lists loose told work =
    taken_new c.args.sup.now c.args.bitmap.now c.take_run.new.self c.in-Ok.run' m tree lists loose (g.E.Blocks.told c.take_run.new.edits) (g.E.Blocks.changed c.args.edits.now) (g.E.Blocks.changed c.take_run.new.edits) c.requires.valid work
    c.in-Ok.ensures.inside c.in-Ok.ensures.long.0 c.in-Ok.ensures.long.1 (c.in-Ok.ensures.taken m told work.fits) (c.in-Ok.ensures.marked m told work.fits) c.take_run.ensures.rest c.take_run.ensures.changed c.take_run.ensures.stays (c.in-Ok.ensures.counted m told work.fits) c.block_of.result c.block_of.ensures
