use Rattle.std.proofs.Common.{◌∙◌, ap}
use Rattle.std.specs.Prelude.{IsSome}
use Rattle.std.specs.FinMap.{get}
use Rattle.bfs_bitmap.specs.Runs.{Room, as_kept}
use Rattle.bfs_super.specs.Geometry.{geometry_of}
use Rattle.bfs_attr.specs.Bearers.{volume_at, attributes_at}
use Rattle.bfs_maps.proofs.Over.{on_ok}
use Rattle.bfs_attr_write.proofs.Brings.{rest_given}
use Rattle.bfs_attr_write.proofs.Clear.{tally_standing}
use Rattle.bfs_attr_write.proofs.Departs.{tree_there, not_taken, named_low, found_there, named_held, left, left_clear, undone_kept, blames, row_page, give_blamed, always}
use Rattle.bfs_attr_write.proofs.removing.take_attribute_row.Goals as goal

pub returns-in-Err-clause-faults : goal.returns-in-Err-clause-faults
returns-in-Err-clause-faults g c inode m told can =
    let s = c.args.site.sup in
    let v = c.args.bitmap.now in
    let d = c.args.directory in
    let name = c.args.name.now in
    not_taken s c.requires.valid inode v m d name can c.in-Err.fault (c.in-Err.ensures.refused m told (tree_there s c.requires.valid inode v m d name can))

pub returns-in-Err-clause-blamed : goal.returns-in-Err-clause-blamed
returns-in-Err-clause-blamed g c m told =
    let s = c.args.site.sup in
    let v = c.args.bitmap.now in
    let d = c.args.directory in
    let name = c.args.name.now in
    let now = g.E.Blocks.told c.take_row.new.edits in
    blames s d name v m now (g.E.Blocks.counts c.args.edits.now) (g.E.Blocks.counts c.take_row.new.edits) c.in-Err.fault
    (row_page s d name v m now (g.E.Blocks.counts c.args.edits.now) (g.E.Blocks.counts c.take_row.new.edits) c.in-Err.fault (c.in-Err.ensures.blamed m told))
    (λ inode can. not_taken s c.requires.valid inode v m d name can c.in-Err.fault (c.in-Err.ensures.refused m told (tree_there s c.requires.valid inode v m d name can)))
    c.in-Err.ensures.cause

pub returns-clause-taken : goal.returns-clause-taken
returns-clause-taken g c inode m told can =
    let s = c.args.site.sup in
    let valid = c.requires.valid in
    let v = c.args.bitmap.now in
    let d = c.args.directory in
    let name = c.args.name.now in
    let id = c.in-Ok.id in
    let mid = c.take_row.new.bitmap in
    let told1 = g.E.Blocks.told c.take_row.new.edits in
    let old = g.E.Blocks.changed c.args.edits.now in
    let half = g.E.Blocks.changed c.take_row.new.edits in
    let tree = tree_there s valid inode v m d name can in
    let there = c.in-Ok.ensures.number m told tree in
    let now = c.in-Ok.ensures.taken m told tree in
    on_ok _ _ c.give_named.result (c.give_named.ensures.given now.map now.is (named_held s valid inode v m d name can id there mid told1 old half now))
    (left s valid inode v m d name can id there mid told1 old half now c.give_named.new.bitmap (g.E.Blocks.told c.give_named.new.edits) (g.E.Blocks.changed c.give_named.new.edits) c.give_named.ensures.rest c.give_named.ensures.stays)

pub returns-clause-there : goal.returns-clause-there
returns-clause-there g c inode m told can =
    let s = c.args.site.sup in
    let valid = c.requires.valid in
    let v = c.args.bitmap.now in
    let d = c.args.directory in
    let name = c.args.name.now in
    let there = c.in-Ok.ensures.number m told (tree_there s valid inode v m d name can) in
    always (IsSome (get (attributes_at (volume_at (geometry_of s) m) inode) name)) c.give_named.result (found_there s valid inode v m d name can c.in-Ok.id there)

pub returns-clause-faults : goal.returns-clause-faults
returns-clause-faults g c inode m told can =
    let s = c.args.site.sup in
    let valid = c.requires.valid in
    let v = c.args.bitmap.now in
    let d = c.args.directory in
    let name = c.args.name.now in
    let id = c.in-Ok.id in
    let mid = c.take_row.new.bitmap in
    let told1 = g.E.Blocks.told c.take_row.new.edits in
    let old = g.E.Blocks.changed c.args.edits.now in
    let half = g.E.Blocks.changed c.take_row.new.edits in
    let tree = tree_there s valid inode v m d name can in
    let there = c.in-Ok.ensures.number m told tree in
    let now = c.in-Ok.ensures.taken m told tree in
    undone_kept (volume_at (geometry_of s) m) inode name c.give_named.result
    (c.give_named.ensures.sound now.map now.is (named_held s valid inode v m d name can id there mid told1 old half now) (named_low s valid inode v m d name can id there))

pub returns-clause-blamed : goal.returns-clause-blamed
returns-clause-blamed g c m told =
    let s = c.args.site.sup in
    let v = c.args.bitmap.now in
    let d = c.args.directory in
    let name = c.args.name.now in
    give_blamed s d name v m (g.E.Blocks.told c.give_named.new.edits) (g.E.Blocks.counts c.take_row.new.edits) (g.E.Blocks.counts c.give_named.new.edits) c.give_named.result
    c.give_named.ensures.pages (λ inode can. returns-clause-faults g c inode m told can) c.give_named.ensures.cause

pub returns-in-Err-clause-rest : goal.returns-in-Err-clause-rest
returns-in-Err-clause-rest g c = rest_given c.args.bitmap.now c.take_row.new.bitmap c.take_row.ensures.rest

pub returns-in-Err-clause-kept : goal.returns-in-Err-clause-kept
returns-in-Err-clause-kept g c = ap as_kept c.take_row.ensures.rest

pub returns-clause-rest : goal.returns-clause-rest
returns-clause-rest g c = c.give_named.ensures.rest ∙ ap (λ (x : Room). record x { given = c.give_named.new.bitmap.given; tally = c.give_named.new.bitmap.tally }) c.take_row.ensures.rest

pub returns-clause-kept : goal.returns-clause-kept
returns-clause-kept g c = c.give_named.ensures.kept ∙ ap as_kept c.take_row.ensures.rest

pub returns-in-Err-clause-standing : goal.returns-in-Err-clause-standing
returns-in-Err-clause-standing g c = tally_standing c.args.bitmap.now c.take_row.new.bitmap c.take_row.ensures.rest

pub returns-clause-standing : goal.returns-clause-standing
returns-clause-standing g c = c.give_named.ensures.standing ∙ tally_standing c.args.bitmap.now c.take_row.new.bitmap c.take_row.ensures.rest

pub returns-clause-clear : goal.returns-clause-clear
returns-clause-clear g c inode m told can =
    let s = c.args.site.sup in
    let valid = c.requires.valid in
    let v = c.args.bitmap.now in
    let d = c.args.directory in
    let name = c.args.name.now in
    let id = c.in-Ok.id in
    let mid = c.take_row.new.bitmap in
    let told1 = g.E.Blocks.told c.take_row.new.edits in
    let old = g.E.Blocks.changed c.args.edits.now in
    let half = g.E.Blocks.changed c.take_row.new.edits in
    let tree = tree_there s valid inode v m d name can in
    let there = c.in-Ok.ensures.number m told tree in
    let now = c.in-Ok.ensures.taken m told tree in
    on_ok _ _ c.give_named.result (c.give_named.ensures.given now.map now.is (named_held s valid inode v m d name can id there mid told1 old half now))
    (left_clear s valid inode v m d name can id there mid told1 old half now c.take_row.ensures.rest c.give_named.new.bitmap (g.E.Blocks.told c.give_named.new.edits) (g.E.Blocks.changed c.give_named.new.edits))
