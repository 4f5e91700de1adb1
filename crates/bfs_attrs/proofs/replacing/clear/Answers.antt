use Rattle.bfs_maps.proofs.Over.{on_ok}
use Rattle.bfs_super.specs.Geometry.{geometry_of}
use Rattle.bfs_attr.specs.Bearers.{bearer_of, volume_at}
use Rattle.bfs_attrs.proofs.Clears.{taken_cleared, absent_cleared, other_undone, other_caused}
use Rattle.bfs_attrs.proofs.Gains.{absent_clear, absent_items}
use Rattle.bfs_attrs.proofs.replacing.clear.Goals as goal

pub returns-in-Ok-clause-cleared : goal.returns-in-Ok-clause-cleared
returns-in-Ok-clause-cleared g c m told =
    taken_cleared (bearer_of c.args.inode c.args.site.sup) c.args.bitmap.now c.take.new.bitmap m c.args.name.now (g.E.Blocks.told c.take.new.edits) (g.E.Blocks.changed c.args.edits.now) (g.E.Blocks.changed c.take.new.edits)
    (c.in-Ok.ensures.taken m told) (c.in-Ok.ensures.alike m told)

pub returns-in-Err-clause-cleared : goal.returns-in-Err-clause-cleared
returns-in-Err-clause-cleared g c m told =
    on_ok _ _ c.unless_absent.result c.unless_absent.ensures.none
    (λ absent. absent_cleared (bearer_of c.args.inode c.args.site.sup) c.args.bitmap.now c.take.new.bitmap m (g.E.Blocks.told c.take.new.edits) (g.E.Blocks.changed c.args.edits.now) (g.E.Blocks.changed c.take.new.edits) c.args.name.now c.in-Err.fault
    (c.requires.holds m told) absent (c.in-Err.ensures.absent m told) (c.in-Err.ensures.faults m told))

pub returns-in-Err-clause-undone : goal.returns-in-Err-clause-undone
returns-in-Err-clause-undone g c m told =
    other_undone c.unless_absent.result c.in-Err.fault c.unless_absent.ensures.other (volume_at (geometry_of c.args.site.sup) m) c.args.inode c.args.name.now (c.in-Err.ensures.faults m told)

pub returns-in-Err-clause-cause : goal.returns-in-Err-clause-cause
returns-in-Err-clause-cause g c =
    other_caused c.unless_absent.result c.in-Err.fault c.unless_absent.ensures.other (g.E.Blocks.counts c.args.edits.now) (g.E.Blocks.counts c.take.new.edits) c.in-Err.ensures.cause

pub returns-in-Err-clause-clear : goal.returns-in-Err-clause-clear
returns-in-Err-clause-clear g c m told =
    on_ok _ _ c.unless_absent.result c.unless_absent.ensures.none
    (λ absent. absent_clear (bearer_of c.args.inode c.args.site.sup) c.args.bitmap.now c.take.new.bitmap m (g.E.Blocks.told c.take.new.edits) (g.E.Blocks.changed c.args.edits.now) (g.E.Blocks.changed c.take.new.edits) c.in-Err.fault
    absent (c.in-Err.ensures.absent m told))

pub returns-in-Err-clause-items : goal.returns-in-Err-clause-items
returns-in-Err-clause-items g c m told =
    on_ok _ _ c.unless_absent.result c.unless_absent.ensures.none
    (λ absent. absent_items (bearer_of c.args.inode c.args.site.sup) c.args.bitmap.now c.take.new.bitmap m (g.E.Blocks.told c.take.new.edits) (g.E.Blocks.changed c.args.edits.now) (g.E.Blocks.changed c.take.new.edits) c.in-Err.fault
    absent (c.in-Err.ensures.absent m told) c.args.name.now)
