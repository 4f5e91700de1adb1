use Rattle.bfs_attr.specs.Bearers.{bearer_of}
use Rattle.bfs_attr.specs.Changed.{name_item}
use Rattle.bfs_attr.proofs.Puts.{put_keeps, area_there}
use Rattle.bfs_attr.proofs.OwnNames.{name_holds}
use Rattle.bfs_attr.proofs.bearing.put_own_name.Goals as goal

pub returns-clause-put : goal.returns-clause-put
returns-clause-put g c v m told holds own =
    let b = bearer_of c.args.inode c.args.site.sup in
    name_holds b v m holds (g.E.Blocks.told c.put_into.new.edits) (g.E.Blocks.changed c.args.edits.now) (g.E.Blocks.changed c.put_into.new.edits) c.put_into.ensures.changed c.args.name.now own c.put_into.result
    (c.put_into.ensures.put m told holds.inode (area_there b v m holds))

pub returns-clause-blocks : goal.returns-clause-blocks
returns-clause-blocks g c v m told holds =
    let b = bearer_of c.args.inode c.args.site.sup in
    put_keeps b v m holds (g.E.Blocks.told c.put_into.new.edits) (name_item c.args.name.now) c.put_into.result (c.put_into.ensures.put m told holds.inode (area_there b v m holds))
