use Rattle.std.proofs.Common.{◌∙◌, inl, ℕ, List, Option, sym, ap, subst, arith, length, max}
use Rattle.bfs_bitmap.specs.Runs.{Room}
use Rattle.bfs_super.specs.Conditions.{ceil}
use Rattle.bfs_super.specs.Geometry.{geometry_of}
use Rattle.bfs_maps.specs.Mapped.{HasHeld}
use Rattle.bfs_make.specs.Made.{HasBits}
use Rattle.bfs_attr.specs.Bearers.{bearer_of, origin}
use Rattle.bfs_attr_write.proofs.Steps.{directory_tree}
use Rattle.bfs_attrs.proofs.Adds.{stored_there, row_not_added, put_cause_added}
use Rattle.bfs_make.proofs.Telling.{told_back, one_map}
use Rattle.bfs_attrs.proofs.storing.put_stored.Goals as goal

pub returns-in-Err-clause-faults : goal.returns-in-Err-clause-faults
returns-in-Err-clause-faults g c m told =
    let can = c.requires.can m told in
    let has : HasBits c.args.bitmap.now m = record { fits = can.holds.fits; bits = can.holds.bits } in
    inl (c.in-Err.ensures.faults m told has)

pub put_attribute_row-requires-clause-number : goal.put_attribute_row-requires-clause-number
put_attribute_row-requires-clause-number g c =
    let at = c.run_start-id.ensures in
    let inside = c.in-Ok.ensures.inside.inside in
    let one = c.in-Ok.ensures.one in
    omega (arith, at, inside, one)

pub put_attribute_row-requires-clause-stream : goal.put_attribute_row-requires-clause-stream
put_attribute_row-requires-clause-stream g c map told =
    let s = c.args.site.sup in
    let b = bearer_of c.args.inode s in
    let v = c.args.bitmap.now in
    let mid = c.store_attribute.new.bitmap in
    let d = c.args.directory in
    let told1 = g.E.Blocks.told c.store_attribute.new.edits in
    let old = g.E.Blocks.changed c.args.edits.now in
    let half = g.E.Blocks.changed c.store_attribute.new.edits in
    let before =
    told_back (g.E.Blocks.told c.args.edits.now) told1 (g.E.Blocks.frame c.args.edits.now).below (g.E.Blocks.frame c.store_attribute.new.edits).below
    (g.met.E.Edits.tells c.args.edits.now) (g.met.E.Edits.tells c.store_attribute.new.edits) (ap (λ f. f.below) c.in-Ok.ensures.frame) map told in
    let can = c.requires.can before.0 before.1 in
    let has : HasBits v before.0 = record { fits = can.holds.fits; bits = can.holds.bits } in
    let h = c.in-Ok.ensures.stored before.0 before.1 has in
    let stored = stored_there s c.args.inode v mid before.0 _ c.args.bytes.now (record { code = c.args.kind; bytes = c.args.bytes.now }) told1 old half h (c.in-Ok.ensures.attribute before.0 before.1 has) c.run_start-id.result (sym c.run_start-id.ensures) in
    subst (λ (x : ℕ → Option (List ℕ)). HasHeld (origin (geometry_of s) d) mid x) (one_map told1 h.map map h.is told)
    (directory_tree b v mid before.0 h.map d c.run_start-id.result c.args.name.now (record { code = c.args.kind; bytes = c.args.bytes.now }) old half can stored).held

pub returns-clause-put : goal.returns-clause-put
returns-clause-put g c m told =
    let s = c.args.site.sup in
    let v = c.args.bitmap.now in
    let mid = c.store_attribute.new.bitmap in
    let told1 = g.E.Blocks.told c.store_attribute.new.edits in
    let old = g.E.Blocks.changed c.args.edits.now in
    let half = g.E.Blocks.changed c.store_attribute.new.edits in
    let can = c.requires.can m told in
    let has : HasBits v m = record { fits = can.holds.fits; bits = can.holds.bits } in
    let h = c.in-Ok.ensures.stored m told has in
    let stored = stored_there s c.args.inode v mid m _ c.args.bytes.now (record { code = c.args.kind; bytes = c.args.bytes.now }) told1 old half h (c.in-Ok.ensures.attribute m told has) c.run_start-id.result (sym c.run_start-id.ensures) in
    c.put_attribute_row.ensures.added c.args.inode v m h.map (record { code = c.args.kind; bytes = c.args.bytes.now }) old h.is can stored

pub returns-clause-faults : goal.returns-clause-faults
returns-clause-faults g c m told =
    let s = c.args.site.sup in
    let b = bearer_of c.args.inode s in
    let v = c.args.bitmap.now in
    let mid = c.store_attribute.new.bitmap in
    let told1 = g.E.Blocks.told c.store_attribute.new.edits in
    let old = g.E.Blocks.changed c.args.edits.now in
    let half = g.E.Blocks.changed c.store_attribute.new.edits in
    let can = c.requires.can m told in
    let has : HasBits v m = record { fits = can.holds.fits; bits = can.holds.bits } in
    let h = c.in-Ok.ensures.stored m told has in
    let stored = stored_there s c.args.inode v mid m _ c.args.bytes.now (record { code = c.args.kind; bytes = c.args.bytes.now }) told1 old half h (c.in-Ok.ensures.attribute m told has) c.run_start-id.result (sym c.run_start-id.ensures) in
    row_not_added b v mid m h.map c.args.directory c.run_start-id.result (ceil (length c.args.bytes.now) s.block_size) (record { code = c.args.kind; bytes = c.args.bytes.now }) old half stored c.put_attribute_row.result
    (c.put_attribute_row.ensures.faults c.args.inode v m h.map (record { code = c.args.kind; bytes = c.args.bytes.now }) old h.is can stored)

pub returns-clause-cause : goal.returns-clause-cause
returns-clause-cause g c =
    put_cause_added (max 1 (ceil (length c.args.bytes.now) c.args.site.sup.block_size)) (g.E.Blocks.counts c.args.edits.now) (g.E.Blocks.counts c.store_attribute.new.edits) (g.E.Blocks.counts c.put_attribute_row.new.edits) c.put_attribute_row.result
    (omega arith) c.in-Ok.ensures.later c.put_attribute_row.ensures.cause

pub returns-clause-rest : goal.returns-clause-rest
returns-clause-rest g c = c.put_attribute_row.ensures.rest ∙ ap (λ (x : Room). record x { tally = c.put_attribute_row.new.bitmap.tally }) c.store_attribute.ensures.rest
