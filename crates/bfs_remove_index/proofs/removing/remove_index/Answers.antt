use Rattle.std.proofs.Common.{◌∙◌, [], sym, subst, arith}
use Rattle.bfs_super.specs.Geometry.{geometry_of}
use Rattle.bfs_stream.specs.Grown.{IsOfVolume}
use Rattle.bfs_stream.specs.Sizes.{sizes_of}
use Rattle.bfs_query.proofs.Indexed.{index_inside}
use Rattle.bfs_shift.specs.Lists.{with_names}
use Rattle.bfs_calls.proofs.Faulting.{cause_earlier}
use Rattle.bfs_remove_index.specs.Removed.{without_index}
use Rattle.bfs_remove_index.proofs.Whole.{rest_more, kept_still, standing_still, rest_twice, loose_work, loose_clear, index_removed}
use Rattle.bfs_remove_index.proofs.removing.remove_index.Goals as goal

pub returns-in-Err-clause-rest : goal.returns-in-Err-clause-rest
returns-in-Err-clause-rest g c = rest_more c.args.bitmap.now c.take_index.new.bitmap c.in-Err.ensures.rest

pub returns-in-Err-clause-kept : goal.returns-in-Err-clause-kept
returns-in-Err-clause-kept g c = kept_still c.args.bitmap.now c.take_index.new.bitmap c.in-Err.ensures.rest

pub returns-in-Err-clause-standing : goal.returns-in-Err-clause-standing
returns-in-Err-clause-standing g c = standing_still c.args.bitmap.now c.take_index.new.bitmap c.in-Err.ensures.rest

pub returns-then-inode-blocks_in-clause-undone : goal.returns-then-inode-blocks_in-clause-undone
returns-then-inode-blocks_in-clause-undone g c m tree lists told ready =
    let row = c.in-Ok.ensures.row m tree lists told ready in
    let low = index_inside c.args.sup.now c.args.bitmap.now m tree lists c.requires.valid ready c.args.name.now c.in-Ok.inode row in
    let high = c.if-inode-blocks_in.true in
    let all = c.blocks_in.ensures in
    absurd (omega (arith, low, high, all))

pub returns-then-inode-blocks_in-clause-rest : goal.returns-then-inode-blocks_in-clause-rest
returns-then-inode-blocks_in-clause-rest g c = rest_more c.args.bitmap.now c.take_index.new.bitmap c.in-Ok.ensures.rest

pub returns-then-inode-blocks_in-clause-kept : goal.returns-then-inode-blocks_in-clause-kept
returns-then-inode-blocks_in-clause-kept g c = kept_still c.args.bitmap.now c.take_index.new.bitmap c.in-Ok.ensures.rest

pub returns-then-inode-blocks_in-clause-standing : goal.returns-then-inode-blocks_in-clause-standing
returns-then-inode-blocks_in-clause-standing g c = standing_still c.args.bitmap.now c.take_index.new.bitmap c.in-Ok.ensures.rest

pub give_loose-requires-clause-volume : goal.give_loose-requires-clause-volume
give_loose-requires-clause-volume g c =
    subst (IsOfVolume (sizes_of c.args.sup.now)) (sym c.in-Ok.ensures.rest) (record { block_size = c.requires.volume.block_size; blocks = c.requires.volume.blocks; group_blocks = c.requires.volume.group_blocks })

pub returns-in-Ok-give_loose-clause-removed : goal.returns-in-Ok-give_loose-clause-removed
returns-in-Ok-give_loose-clause-removed g c m tree lists told ready =
    let at = geometry_of c.args.sup.now in
    let v = c.args.bitmap.now in
    let mid = c.take_index.new.bitmap in
    let now = c.give_loose.new.bitmap in
    let name = c.args.name.now in
    let inode = c.in-Ok.inode in
    let told1 = g.E.Blocks.told c.take_index.new.edits in
    let old = g.E.Blocks.changed c.args.edits.now in
    let half = g.E.Blocks.changed c.take_index.new.edits in
    let taken = c.in-Ok.ensures.taken m tree lists told ready in
    let work = loose_work at v mid m tree lists name inode told1 old half ready taken in
    let clear = loose_clear at v mid m tree lists name inode told1 old half ready taken in
    index_removed at v mid m tree lists name inode told1 old half ready taken now (g.E.Blocks.told c.give_loose.new.edits) (g.E.Blocks.changed c.give_loose.new.edits)
    (c.in-Ok-give_loose.ensures.given taken.step.map (without_index tree name) (with_names lists taken.names) [] taken.step.is work clear taken.stands)

pub returns-in-Err-give_loose-clause-undone : goal.returns-in-Err-give_loose-clause-undone
returns-in-Err-give_loose-clause-undone g c m tree lists told ready =
    let at = geometry_of c.args.sup.now in
    let v = c.args.bitmap.now in
    let mid = c.take_index.new.bitmap in
    let name = c.args.name.now in
    let inode = c.in-Ok.inode in
    let told1 = g.E.Blocks.told c.take_index.new.edits in
    let old = g.E.Blocks.changed c.args.edits.now in
    let half = g.E.Blocks.changed c.take_index.new.edits in
    let taken = c.in-Ok.ensures.taken m tree lists told ready in
    let work = loose_work at v mid m tree lists name inode told1 old half ready taken in
    c.in-Err-give_loose.ensures.undone taken.step.map (without_index tree name) (with_names lists taken.names) [] taken.step.is work taken.stands

pub returns-in-Err-give_loose-clause-cause : goal.returns-in-Err-give_loose-clause-cause
returns-in-Err-give_loose-clause-cause g c =
    cause_earlier (g.E.Blocks.counts c.args.edits.now) (g.E.Blocks.counts c.take_index.new.edits) (g.E.Blocks.counts c.give_loose.new.edits) c.in-Err-give_loose.fault c.in-Ok.ensures.later c.in-Err-give_loose.ensures.cause

pub returns-in-Ok-give_loose-clause-rest : goal.returns-in-Ok-give_loose-clause-rest
returns-in-Ok-give_loose-clause-rest g c = rest_twice c.args.bitmap.now c.take_index.new.bitmap c.give_loose.new.bitmap c.in-Ok.ensures.rest c.in-Ok-give_loose.ensures.rest

pub returns-in-Err-give_loose-clause-rest : goal.returns-in-Err-give_loose-clause-rest
returns-in-Err-give_loose-clause-rest g c = rest_twice c.args.bitmap.now c.take_index.new.bitmap c.give_loose.new.bitmap c.in-Ok.ensures.rest c.in-Err-give_loose.ensures.rest

pub returns-in-Ok-give_loose-clause-kept : goal.returns-in-Ok-give_loose-clause-kept
returns-in-Ok-give_loose-clause-kept g c = c.in-Ok-give_loose.ensures.kept ∙ kept_still c.args.bitmap.now c.take_index.new.bitmap c.in-Ok.ensures.rest

pub returns-in-Err-give_loose-clause-kept : goal.returns-in-Err-give_loose-clause-kept
returns-in-Err-give_loose-clause-kept g c = c.in-Err-give_loose.ensures.kept ∙ kept_still c.args.bitmap.now c.take_index.new.bitmap c.in-Ok.ensures.rest

pub returns-in-Ok-give_loose-clause-standing : goal.returns-in-Ok-give_loose-clause-standing
returns-in-Ok-give_loose-clause-standing g c = c.in-Ok-give_loose.ensures.standing ∙ standing_still c.args.bitmap.now c.take_index.new.bitmap c.in-Ok.ensures.rest

pub returns-in-Err-give_loose-clause-standing : goal.returns-in-Err-give_loose-clause-standing
returns-in-Err-give_loose-clause-standing g c = c.in-Err-give_loose.ensures.standing ∙ standing_still c.args.bitmap.now c.take_index.new.bitmap c.in-Ok.ensures.rest
