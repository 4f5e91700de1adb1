use Rattle.std.proofs.Common.{ℕ, List, Bool}
use Rattle.bfs_make.specs.Sites.{stream_in}
use Rattle.bfs_make.proofs.Gone.{given_back}
use Rattle.bfs_make.proofs.giving.give_inode.Goals as goal

pub returns-in-Ok-give_block-clause-given : goal.returns-in-Ok-give_block-clause-given
returns-in-Ok-give_block-clause-given g c m is owns =
    let e = c.in-Ok.ensures.emptied c.args.bitmap.now m is owns in
    let s = c.in-Ok-strip.ensures.stripped e.map e.is e.owns e.size in
    let gave = c.in-Ok-give_block.ensures.gave s.map s.is s.owns.fits in
    given_back (stream_in c.args.site c.args.id) c.args.bitmap.now c.strip.new.bitmap c.give_block.new.bitmap m (g.E.Blocks.told c.empty.new.edits) (g.E.Blocks.told c.strip.new.edits) (g.E.Blocks.told c.give_block.new.edits)
    (g.E.Blocks.changed c.args.edits.now) (g.E.Blocks.changed c.empty.new.edits) (g.E.Blocks.changed c.strip.new.edits) (g.E.Blocks.changed c.give_block.new.edits) owns e s
    c.in-Ok-strip.ensures.rest gave c.in-Ok-give_block.ensures.rest c.in-Ok-give_block.ensures.changed

pub returns-in-Err-clause-sound : goal.returns-in-Err-clause-sound
returns-in-Err-clause-sound g c m is owns = c.in-Err.ensures.sound m is

pub returns-in-Err-strip-clause-sound : goal.returns-in-Err-strip-clause-sound
returns-in-Err-strip-clause-sound g c m is owns =
    let e = c.in-Ok.ensures.emptied c.args.bitmap.now m is owns in
    c.in-Err-strip.ensures.sound e.map e.is e.owns e.size

pub returns-in-Err-give_block-clause-sound : goal.returns-in-Err-give_block-clause-sound
returns-in-Err-give_block-clause-sound g c m is owns =
    let e = c.in-Ok.ensures.emptied c.args.bitmap.now m is owns in
    let s = c.in-Ok-strip.ensures.stripped e.map e.is e.owns e.size in
    c.in-Err-give_block.ensures.sound s.map s.is
