use Rattle.std.proofs.Common.{◌∙◌, ℕ, List, Option, ap, subst, arith, length, max}
use Rattle.bfs_bitmap.specs.Runs.{Room}
use Rattle.bfs_super.specs.Conditions.{ceil}
use Rattle.bfs_maps.proofs.Over.{on_ok}
use Rattle.bfs_attr.specs.Bearers.{bearer_of}
use Rattle.bfs_attr_write.specs.Adding.{CanAdd}
use Rattle.bfs_attrs.proofs.Begins.{can_add, has_begun, unmade, not_followed, make_added, add_wider_kept}
use Rattle.bfs_make.proofs.Telling.{told_back, one_map}
use Rattle.bfs_attrs.proofs.storing.put_first.Goals as goal

pub returns-in-Err-clause-faults : goal.returns-in-Err-clause-faults
returns-in-Err-clause-faults g c m told =
    unmade (bearer_of c.args.inode c.args.site.sup) c.args.bitmap.now m (record { code = c.args.kind; bytes = c.args.bytes.now }) (ceil (length c.args.bytes.now) c.args.site.sup.block_size) c.in-Err.fault
    (c.in-Err.ensures.faults m told (c.requires.can m told).make)

pub returns-in-Err-clause-cause : goal.returns-in-Err-clause-cause
returns-in-Err-clause-cause g c =
    let size = c.args.site.sup.block_size in
    make_added size (max 1 (max (ceil 2048 size) (ceil (length c.args.bytes.now) size))) (g.E.Blocks.counts c.args.edits.now) (g.E.Blocks.counts c.make_attribute_directory.new.edits) c.in-Err.fault (omega arith) c.in-Err.ensures.cause

pub put_stored-requires-clause-can : goal.put_stored-requires-clause-can
put_stored-requires-clause-can g c map told =
    let b = bearer_of c.args.inode c.args.site.sup in
    let v = c.args.bitmap.now in
    let mid = c.make_attribute_directory.new.bitmap in
    let d = c.in-Ok.directory in
    let name = c.args.name.now in
    let told1 = g.E.Blocks.told c.make_attribute_directory.new.edits in
    let old = g.E.Blocks.changed c.args.edits.now in
    let half = g.E.Blocks.changed c.make_attribute_directory.new.edits in
    let before =
    told_back (g.E.Blocks.told c.args.edits.now) told1 (g.E.Blocks.frame c.args.edits.now).below (g.E.Blocks.frame c.make_attribute_directory.new.edits).below
    (g.met.E.Edits.tells c.args.edits.now) (g.met.E.Edits.tells c.make_attribute_directory.new.edits) (ap (λ f. f.below) c.in-Ok.ensures.frame) map told in
    let can = c.requires.can before.0 before.1 in
    let made = c.in-Ok.ensures.made before.0 before.1 can.make in
    subst (λ (x : ℕ → Option (List ℕ)). CanAdd b mid x d name) (one_map told1 made.now_are.map map made.now_are.is told) (can_add b v mid before.0 name can d _ told1 old half made)

pub returns-clause-put : goal.returns-clause-put
returns-clause-put g c m told =
    let b = bearer_of c.args.inode c.args.site.sup in
    let v = c.args.bitmap.now in
    let mid = c.make_attribute_directory.new.bitmap in
    let now = c.put_stored.new.bitmap in
    let told1 = g.E.Blocks.told c.make_attribute_directory.new.edits in
    let old = g.E.Blocks.changed c.args.edits.now in
    let half = g.E.Blocks.changed c.make_attribute_directory.new.edits in
    let can = c.requires.can m told in
    let made = c.in-Ok.ensures.made m told can.make in
    on_ok _ _ c.put_stored.result (c.put_stored.ensures.put made.now_are.map made.now_are.is)
    (λ put. has_begun b v mid m c.args.name.now can c.in-Ok.directory _ told1 old half made now (record { code = c.args.kind; bytes = c.args.bytes.now }) (g.E.Blocks.told c.put_stored.new.edits) (g.E.Blocks.changed c.put_stored.new.edits) put
    c.make_attribute_directory.ensures.rest c.put_stored.ensures.rest c.put_stored.ensures.stays)

pub returns-clause-faults : goal.returns-clause-faults
returns-clause-faults g c m told =
    let b = bearer_of c.args.inode c.args.site.sup in
    let v = c.args.bitmap.now in
    let mid = c.make_attribute_directory.new.bitmap in
    let can = c.requires.can m told in
    let made = c.in-Ok.ensures.made m told can.make in
    not_followed b v m (record { code = c.args.kind; bytes = c.args.bytes.now }) (ceil (length c.args.bytes.now) c.args.site.sup.block_size) mid c.in-Ok.directory _ (g.E.Blocks.told c.make_attribute_directory.new.edits) (g.E.Blocks.changed c.args.edits.now) (g.E.Blocks.changed c.make_attribute_directory.new.edits) made
    c.put_stored.result (c.put_stored.ensures.faults made.now_are.map made.now_are.is)

pub returns-clause-cause : goal.returns-clause-cause
returns-clause-cause g c =
    let size = c.args.site.sup.block_size in
    let n = max 1 (ceil (length c.args.bytes.now) size) in
    add_wider_kept n (max 1 (max (ceil 2048 size) (ceil (length c.args.bytes.now) size))) (g.E.Blocks.counts c.args.edits.now) (g.E.Blocks.counts c.make_attribute_directory.new.edits) (g.E.Blocks.counts c.put_stored.new.edits) c.put_stored.result (omega arith) c.in-Ok.ensures.later c.put_stored.ensures.cause

pub returns-clause-rest : goal.returns-clause-rest
returns-clause-rest g c = c.put_stored.ensures.rest ∙ ap (λ (x : Room). record x { tally = c.put_stored.new.bitmap.tally }) c.make_attribute_directory.ensures.rest
