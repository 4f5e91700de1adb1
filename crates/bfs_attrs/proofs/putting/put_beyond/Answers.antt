use Rattle.std.proofs.Common.{◌<◌, ◌∙◌, ℕ, Bool, Option, sym, subst, arith, length, max}
use Rattle.std.specs.Prelude.{IfSome, OnOk}
use Rattle.std.specs.FinMap.{insert}
use Rattle.bfs_super.specs.Conditions.{ceil, natural}
use Rattle.bfs_super.specs.Geometry.{geometry_of}
use Rattle.bfs_maps.proofs.Over.{on_ok}
use Rattle.bfs_attr.specs.Bearers.{bearer_of, volume_at, attributes_at}
use Rattle.bfs_attrs.specs.Stored.{HasBegun}
use Rattle.bfs_attrs.proofs.Begins.{add_wider_kept}
use Rattle.bfs_attrs.proofs.Fresh.{row_begun, undone_new, added_new_kept, begun_new_kept, read_added}
use Rattle.bfs_attrs.proofs.Replaces.{all_there, all_alone}
use Rattle.bfs_attrs.proofs.putting.put_beyond.Goals as goal

pub put_stored-requires-clause-inside : goal.put_stored-requires-clause-inside
put_stored-requires-clause-inside g c =
    subst (λ (o : Option ℕ). IfSome o (λ d. d < natural c.args.site.sup.num_blocks)) c.in-Ok-Some.field-0-is c.in-Ok-Some.ensures.below

pub put_stored-requires-clause-can : goal.put_stored-requires-clause-can
put_stored-requires-clause-can g c m told =
    let mid = sym c.directory_at.ensures.told ∙ told in
    let is = c.requires.unknown m mid in
    record {
      holds = is.holds;
      there = sym (c.in-Ok-Some.ensures.found m mid is.holds.inode) ∙ c.in-Ok-Some.field-0-is;
      unknown = is.unknown;
      proper = c.requires.proper;
    }

pub put_first-requires-clause-can : goal.put_first-requires-clause-can
put_first-requires-clause-can g c m told =
    let mid = sym c.directory_at.ensures.told ∙ told in
    let is = c.requires.unknown m mid in
    record {
      make = record { holds = is.holds; missing = sym (c.in-Ok-None.ensures.found m mid is.holds.inode) ∙ c.in-Ok-None.field-0-is };
      unknown = is.unknown;
      proper = c.requires.proper;
    }

pub returns-in-Ok-Some-clause-put : goal.returns-in-Ok-Some-clause-put
returns-in-Ok-Some-clause-put g c m told =
    let s = c.args.site.sup in
    let b = bearer_of c.args.inode s in
    let v = c.args.bitmap.now in
    let now = c.put_stored.new.bitmap in
    let attributes = insert (attributes_at (volume_at (geometry_of s) m) c.args.inode) c.args.name.now (record { code = c.args.kind; bytes = c.args.bytes.now }) in
    let told2 = g.E.Blocks.told c.put_stored.new.edits in
    let new = g.E.Blocks.changed c.put_stored.new.edits in
    subst (λ (f : ℕ → Bool). OnOk c.put_stored.result (HasBegun b v now m attributes told2 f new)) c.directory_at.ensures.changed
    (on_ok _ _ c.put_stored.result (c.put_stored.ensures.put m (c.directory_at.ensures.told ∙ told)) (row_begun b v now m attributes told2 (g.E.Blocks.changed c.directory_at.new.under) new))

pub returns-in-Ok-Some-clause-keeps : goal.returns-in-Ok-Some-clause-keeps
returns-in-Ok-Some-clause-keeps g c m told =
    on_ok _ _ c.put_stored.result (c.put_stored.ensures.put m (c.directory_at.ensures.told ∙ told))
    (λ row. all_there (bearer_of c.args.inode c.args.site.sup) m (g.E.Blocks.told c.put_stored.new.edits) row.now_are.map row.now_are.is row.keeps)

pub returns-in-Ok-Some-clause-faults : goal.returns-in-Ok-Some-clause-faults
returns-in-Ok-Some-clause-faults g c m told =
    let s = c.args.site.sup in
    let b = bearer_of c.args.inode s in
    let v = c.args.bitmap.now in
    added_new_kept b v m (record { code = c.args.kind; bytes = c.args.bytes.now }) (ceil (length c.args.bytes.now) s.block_size) c.in-Ok-Some.directory c.put_stored.result (c.put_stored.ensures.faults m (c.directory_at.ensures.told ∙ told))

pub returns-in-Ok-Some-clause-cause : goal.returns-in-Ok-Some-clause-cause
returns-in-Ok-Some-clause-cause g c =
    let size = c.args.site.sup.block_size in
    let n = max 1 (max (ceil 2048 size) (ceil (length c.args.bytes.now) size)) in
    add_wider_kept (max 1 (ceil (length c.args.bytes.now) size)) n (g.E.Blocks.counts c.args.edits.now) (g.E.Blocks.counts c.directory_at.new.under) (g.E.Blocks.counts c.put_stored.new.edits) c.put_stored.result (omega arith)
    c.in-Ok-Some.ensures.later c.put_stored.ensures.cause

pub returns-in-Ok-None-clause-put : goal.returns-in-Ok-None-clause-put
returns-in-Ok-None-clause-put g c m told =
    let s = c.args.site.sup in
    let b = bearer_of c.args.inode s in
    let v = c.args.bitmap.now in
    let now = c.put_first.new.bitmap in
    let attributes = insert (attributes_at (volume_at (geometry_of s) m) c.args.inode) c.args.name.now (record { code = c.args.kind; bytes = c.args.bytes.now }) in
    subst (λ (f : ℕ → Bool). OnOk c.put_first.result (HasBegun b v now m attributes (g.E.Blocks.told c.put_first.new.edits) f (g.E.Blocks.changed c.put_first.new.edits))) c.directory_at.ensures.changed
    (c.put_first.ensures.put m (c.directory_at.ensures.told ∙ told))

pub returns-in-Ok-None-clause-keeps : goal.returns-in-Ok-None-clause-keeps
returns-in-Ok-None-clause-keeps g c m told =
    on_ok _ _ c.put_first.result (c.put_first.ensures.put m (c.directory_at.ensures.told ∙ told))
    (λ begun. all_alone (bearer_of c.args.inode c.args.site.sup) m (sym (c.in-Ok-None.ensures.found m told (c.requires.unknown m told).holds.inode) ∙ c.in-Ok-None.field-0-is) (g.E.Blocks.told c.put_first.new.edits))

pub returns-in-Ok-None-clause-faults : goal.returns-in-Ok-None-clause-faults
returns-in-Ok-None-clause-faults g c m told =
    let s = c.args.site.sup in
    let b = bearer_of c.args.inode s in
    let v = c.args.bitmap.now in
    begun_new_kept b v m (record { code = c.args.kind; bytes = c.args.bytes.now }) (ceil (length c.args.bytes.now) s.block_size) c.put_first.result (c.put_first.ensures.faults m (c.directory_at.ensures.told ∙ told))

pub returns-in-Ok-None-clause-cause : goal.returns-in-Ok-None-clause-cause
returns-in-Ok-None-clause-cause g c =
    let size = c.args.site.sup.block_size in
    let n = max 1 (max (ceil 2048 size) (ceil (length c.args.bytes.now) size)) in
    add_wider_kept n n (g.E.Blocks.counts c.args.edits.now) (g.E.Blocks.counts c.directory_at.new.under) (g.E.Blocks.counts c.put_first.new.edits) c.put_first.result (omega arith) c.in-Ok-None.ensures.later c.put_first.ensures.cause

pub returns-in-Err-clause-faults : goal.returns-in-Err-clause-faults
returns-in-Err-clause-faults g c m told =
    let s = c.args.site.sup in
    let b = bearer_of c.args.inode s in
    let v = c.args.bitmap.now in
    let is = c.requires.unknown m told in
    undone_new b v m (record { code = c.args.kind; bytes = c.args.bytes.now }) (ceil (length c.args.bytes.now) s.block_size) c.in-Err.fault (c.in-Err.ensures.sound m told is.holds.inode is.holds.stands)

pub returns-in-Err-clause-cause : goal.returns-in-Err-clause-cause
returns-in-Err-clause-cause g c =
    let size = c.args.site.sup.block_size in
    let n = max 1 (max (ceil 2048 size) (ceil (length c.args.bytes.now) size)) in
    read_added n (g.E.Blocks.counts c.args.edits.now) (g.E.Blocks.counts c.directory_at.new.under) c.in-Err.fault c.in-Err.ensures.cause
