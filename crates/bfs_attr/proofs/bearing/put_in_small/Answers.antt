use Rattle.bfs_attr.specs.Bearers.{bearer_of}
use Rattle.bfs_attr.proofs.Puts.{put_holds, put_keeps, put_brings, area_there}
use Rattle.bfs_attr.proofs.bearing.put_in_small.Goals as goal

pub returns-clause-put : goal.returns-clause-put
returns-clause-put g c v m told holds none =
    let b = bearer_of c.args.inode c.args.site.sup in
    put_holds b v m holds (g.E.Blocks.told c.put_into.new.edits) (g.E.Blocks.changed c.args.edits.now) (g.E.Blocks.changed c.put_into.new.edits) c.put_into.ensures.changed
    (record { kind = c.args.kind; name = c.args.name.now; bytes = c.args.bytes.now }) c.requires.other none c.put_into.result
    (c.put_into.ensures.put m told holds.inode (area_there b v m holds))

pub returns-clause-blocks : goal.returns-clause-blocks
returns-clause-blocks g c v m told holds =
    let b = bearer_of c.args.inode c.args.site.sup in
    put_keeps b v m holds (g.E.Blocks.told c.put_into.new.edits) (record { kind = c.args.kind; name = c.args.name.now; bytes = c.args.bytes.now }) c.put_into.result
    (c.put_into.ensures.put m told holds.inode (area_there b v m holds))

pub returns-clause-items : goal.returns-clause-items
returns-clause-items g c v m told holds =
    let b = bearer_of c.args.inode c.args.site.sup in
    put_brings b v m holds (g.E.Blocks.told c.put_into.new.edits) (record { kind = c.args.kind; name = c.args.name.now; bytes = c.args.bytes.now }) c.put_into.result
    (c.put_into.ensures.put m told holds.inode (area_there b v m holds))
