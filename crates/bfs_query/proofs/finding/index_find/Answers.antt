use Rattle.bfs_super.specs.Geometry.{geometry_of}
use Rattle.bfs_look.proofs.Known.{sized_at}
use Rattle.bfs_query.proofs.Resting.{own_found}
use Rattle.bfs_query.proofs.Imaged.{one_is_ready, room}
use Rattle.bfs_query.specs.Resting.{told_of}
use Rattle.bfs_shift.specs.Laws.{lists_of}
use Rattle.bfs_shift.specs.Shifts.{volume_in}
use Rattle.bfs_query.proofs.finding.index_find.Goals as goal

pub returns-in-Ok-clause-reads : goal.returns-in-Ok-clause-reads
returns-in-Ok-clause-reads g c m tree lists st told ready same =
    let s = c.args.sup.now in
    let sized = sized_at s.block_size (g.E.Blocks.size c.args.edits.now) (g.E.Blocks.told c.args.edits.now) m c.requires.size told (g.met.E.Blocks.sized c.args.edits.now) in
    c.in-Ok.ensures.rests c.args.bitmap.now m m tree lists st told ready (own_found (geometry_of s) m tree c.args.name.now c.args.low.now c.args.high.now sized) same

pub returns-in-Err-clause-reads : goal.returns-in-Err-clause-reads
returns-in-Err-clause-reads g c m tree lists st told ready same =
    let s = c.args.sup.now in
    let sized = sized_at s.block_size (g.E.Blocks.size c.args.edits.now) (g.E.Blocks.told c.args.edits.now) m c.requires.size told (g.met.E.Blocks.sized c.args.edits.now) in
    c.in-Err.ensures.rests c.args.bitmap.now m m tree lists st told ready (own_found (geometry_of s) m tree c.args.name.now c.args.low.now c.args.high.now sized) same

pub returns-in-Ok-clause-rests : goal.returns-in-Ok-clause-rests
returns-in-Ok-clause-rests g c v m w tree lists st told ready says same = c.in-Ok.ensures.rests v m w tree lists st told ready says same

pub returns-in-Err-clause-rests : goal.returns-in-Err-clause-rests
returns-in-Err-clause-rests g c v m w tree lists st told ready says same = c.in-Err.ensures.rests v m w tree lists st told ready says same

pub returns-in-Ok-clause-whole : goal.returns-in-Ok-clause-whole
returns-in-Ok-clause-whole g c m image blocks tree st told whole one says same =
    c.in-Ok.ensures.rests (room image blocks tree whole) m (told_of image blocks) tree (lists_of (volume_in (geometry_of image) (told_of image blocks)) tree) st told
    (one_is_ready image blocks tree whole c.args.sup.now one) says same

pub returns-in-Err-clause-whole : goal.returns-in-Err-clause-whole
returns-in-Err-clause-whole g c m image blocks tree st told whole one says same =
    c.in-Err.ensures.rests (room image blocks tree whole) m (told_of image blocks) tree (lists_of (volume_in (geometry_of image) (told_of image blocks)) tree) st told
    (one_is_ready image blocks tree whole c.args.sup.now one) says same
