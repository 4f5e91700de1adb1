use Rattle.bfs_attr.specs.Bearers.{bearer_of}
use Rattle.bfs_attr.proofs.Puts.{take_holds, take_keeps, take_leaves, taken_small, area_there}
use Rattle.bfs_attr.proofs.bearing.take_from_small.Goals as goal

pub returns-clause-taken : goal.returns-clause-taken
returns-clause-taken g c v m told holds =
    let b = bearer_of c.args.inode c.args.site.sup in
    take_holds b v m holds (g.E.Blocks.told c.take_from.new.edits) (g.E.Blocks.changed c.args.edits.now) (g.E.Blocks.changed c.take_from.new.edits) c.take_from.ensures.changed
    c.args.name.now c.take_from.result
    (c.take_from.ensures.taken m told holds.inode (area_there b v m holds))

pub returns-clause-items : goal.returns-clause-items
returns-clause-items g c v m told holds =
    let b = bearer_of c.args.inode c.args.site.sup in
    take_leaves b v m holds (g.E.Blocks.told c.take_from.new.edits) c.args.name.now c.take_from.result (c.take_from.ensures.taken m told holds.inode (area_there b v m holds))

pub returns-clause-blocks : goal.returns-clause-blocks
returns-clause-blocks g c v m told holds =
    let b = bearer_of c.args.inode c.args.site.sup in
    take_keeps b v m holds (g.E.Blocks.told c.take_from.new.edits) c.args.name.now c.take_from.result (c.take_from.ensures.taken m told holds.inode (area_there b v m holds))

pub returns-clause-small : goal.returns-clause-small
returns-clause-small g c v m told holds =
    taken_small m c.args.inode c.args.name.now (g.E.Blocks.told c.take_from.new.edits) c.take_from.result
    (c.take_from.ensures.taken m told holds.inode (area_there (bearer_of c.args.inode c.args.site.sup) v m holds))
