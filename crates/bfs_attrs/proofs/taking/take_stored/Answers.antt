use Rattle.std.proofs.Common.{◌∙◌, inl, ℕ, List, [], Bool, Option, refl, sym, ap, subst, drop}
use Rattle.std.specs.Prelude.{length, unwrap_or}
use Rattle.std.proofs.lemmas.Bool.{true≢false}
use Rattle.bfs_super.specs.Geometry.{geometry_of}
use Rattle.bfs_maps.proofs.Over.{on_ok}
use Rattle.bfs_sound.specs.Inodes.{proper_rows}
use Rattle.bfs_attr.specs.Bearers.{bearer_of, volume_at, origin}
use Rattle.bfs_attr.specs.Changed.{HasTaken}
use Rattle.std.specs.Prelude.{OnOk}
use Rattle.bfs_attrs.proofs.Single.{is_single, not_single}
use Rattle.bfs_attrs.proofs.Stood.{read_taken, take_earlier, take_earlier_kept, can_read, undone_removed, directory_held, directory_rows, is_absent, is_there, can_take, out_removed_kept}
use Rattle.bfs_attrs.proofs.Gone.{row_gone, last_left}
use Rattle.bfs_stream.proofs.Arrays.{later_twice}
use Rattle.bfs_attrs.proofs.Alike.{small_told}
use Rattle.bfs_attrs.proofs.Clears.{undone_untouched, out_untouched}
use Rattle.bfs_attrs.proofs.taking.take_stored.Goals as goal

pub has_attribute_row-requires-clause-stream : goal.has_attribute_row-requires-clause-stream
has_attribute_row-requires-clause-stream g c m told =
    let s = c.args.site.sup in
    let h = c.requires.holds m told in
    can_read (origin (geometry_of s) c.args.directory) c.args.bitmap.now m (directory_held (bearer_of c.args.inode s) c.args.bitmap.now m c.args.directory h.holds h.there)

pub returns-in-Err-clause-faults : goal.returns-in-Err-clause-faults
returns-in-Err-clause-faults g c m told =
    let s = c.args.site.sup in
    let h = c.requires.holds m told in
    undone_removed (volume_at (geometry_of s) m) c.args.inode c.args.name.now c.in-Err.fault (c.in-Err.ensures.found m told (directory_rows (bearer_of c.args.inode s) c.args.bitmap.now m c.args.directory h.holds h.there))

pub returns-in-Err-clause-cause : goal.returns-in-Err-clause-cause
returns-in-Err-clause-cause g c = read_taken (g.E.Blocks.counts c.args.edits.now) (g.E.Blocks.counts c.has_attribute_row.new.under) c.in-Err.fault c.in-Err.ensures.cause

pub returns-then-not-there-clause-faults : goal.returns-then-not-there-clause-faults
returns-then-not-there-clause-faults g c m told =
    let s = c.args.site.sup in
    let h = c.requires.holds m told in
    let b = bearer_of c.args.inode s in
    let found = c.in-Ok.ensures.found m told (directory_rows b c.args.bitmap.now m c.args.directory h.holds h.there) in
    is_absent b c.args.bitmap.now m c.args.directory c.args.name.now h (λ some. absurd (true≢false (sym (found.1 some) ∙ c.if-not-there.true)))

pub names_one-requires-clause-stream : goal.names_one-requires-clause-stream
names_one-requires-clause-stream g c m told =
    let s = c.args.site.sup in
    let h = c.requires.holds m (sym c.has_attribute_row.ensures.told ∙ told) in
    can_read (origin (geometry_of s) c.args.directory) c.args.bitmap.now m (directory_held (bearer_of c.args.inode s) c.args.bitmap.now m c.args.directory h.holds h.there)

pub returns-in-Err-names_one-clause-faults : goal.returns-in-Err-names_one-clause-faults
returns-in-Err-names_one-clause-faults g c m told =
    let s = c.args.site.sup in
    let h = c.requires.holds m told in
    undone_removed (volume_at (geometry_of s) m) c.args.inode c.args.name.now c.in-Err-names_one.fault
    (c.in-Err-names_one.ensures.found m (c.has_attribute_row.ensures.told ∙ told) (directory_rows (bearer_of c.args.inode s) c.args.bitmap.now m c.args.directory h.holds h.there))

pub returns-in-Err-names_one-clause-cause : goal.returns-in-Err-names_one-clause-cause
returns-in-Err-names_one-clause-cause g c =
    let c0 = g.E.Blocks.counts c.args.edits.now in
    let c1 = g.E.Blocks.counts c.has_attribute_row.new.under in
    let c2 = g.E.Blocks.counts c.names_one.new.under in
    take_earlier c0 c1 c2 c.in-Err-names_one.fault c.in-Ok.ensures.later (read_taken c1 c2 c.in-Err-names_one.fault c.in-Err-names_one.ensures.cause)

pub take_last-requires-clause-alone : goal.take_last-requires-clause-alone
take_last-requires-clause-alone g c m told =
    let s = c.args.site.sup in
    let b = bearer_of c.args.inode s in
    let v = c.args.bitmap.now in
    let d = c.args.directory in
    let name = c.args.name.now in
    let mid = sym c.names_one.ensures.told ∙ told in
    let before = sym c.has_attribute_row.ensures.told ∙ mid in
    let h = c.requires.holds m before in
    let rows = directory_rows b v m d h.holds h.there in
    let some = (c.in-Ok.ensures.found m before rows).0 c.if-not-there.false in
    record {
      can = can_take b v m d name h some;
      one = is_single (length (proper_rows (volume_at (geometry_of s) m) d)) c.in-Ok-names_one.last (c.in-Ok-names_one.ensures.found m mid rows) c.if-last.true;
    }

pub take_attribute_row-requires-clause-stream : goal.take_attribute_row-requires-clause-stream
take_attribute_row-requires-clause-stream g c m told =
    let h = c.requires.holds m (sym c.has_attribute_row.ensures.told ∙ (sym c.names_one.ensures.told ∙ told)) in
    directory_held (bearer_of c.args.inode c.args.site.sup) c.args.bitmap.now m c.args.directory h.holds h.there

pub returns-then-last-clause-taken : goal.returns-then-last-clause-taken
returns-then-last-clause-taken g c m told =
    let s = c.args.site.sup in
    let b = bearer_of c.args.inode s in
    let v = c.args.bitmap.now in
    let d = c.args.directory in
    let name = c.args.name.now in
    let now = c.take_last.new.bitmap in
    let told3 = g.E.Blocks.told c.take_last.new.edits in
    let new = g.E.Blocks.changed c.take_last.new.edits in
    let h = c.requires.holds m told in
    let some = (c.in-Ok.ensures.found m told (directory_rows b v m d h.holds h.there)).0 c.if-not-there.false in
    subst (λ (f : ℕ → Bool). OnOk c.take_last.result (HasTaken b v now m name told3 f new)) (c.names_one.ensures.changed ∙ c.has_attribute_row.ensures.changed)
    (on_ok _ _ c.take_last.result (c.take_last.ensures.taken m (c.names_one.ensures.told ∙ (c.has_attribute_row.ensures.told ∙ told)))
    (last_left b v now m name told3 (g.E.Blocks.changed c.names_one.new.under) new (is_there b v m d name h some)))

pub returns-then-last-clause-faults : goal.returns-then-last-clause-faults
returns-then-last-clause-faults g c m told =
    let h = c.requires.holds m told in
    out_removed_kept (bearer_of c.args.inode c.args.site.sup) c.args.bitmap.now m c.args.directory c.args.name.now h c.take_last.result (c.take_last.ensures.faults m (c.names_one.ensures.told ∙ (c.has_attribute_row.ensures.told ∙ told)))

pub returns-then-last-clause-cause : goal.returns-then-last-clause-cause
returns-then-last-clause-cause g c =
    let c0 = g.E.Blocks.counts c.args.edits.now in
    let c1 = g.E.Blocks.counts c.has_attribute_row.new.under in
    let c2 = g.E.Blocks.counts c.names_one.new.under in
    take_earlier_kept c0 c2 (g.E.Blocks.counts c.take_last.new.edits) c.take_last.result (later_twice c0 c1 c2 c.in-Ok.ensures.later c.in-Ok-names_one.ensures.later) c.take_last.ensures.cause

pub returns-else-last-clause-taken : goal.returns-else-last-clause-taken
returns-else-last-clause-taken g c m told =
    let s = c.args.site.sup in
    let b = bearer_of c.args.inode s in
    let v = c.args.bitmap.now in
    let d = c.args.directory in
    let name = c.args.name.now in
    let now = c.take_attribute_row.new.bitmap in
    let told3 = g.E.Blocks.told c.take_attribute_row.new.edits in
    let half = g.E.Blocks.changed c.names_one.new.under in
    let new = g.E.Blocks.changed c.take_attribute_row.new.edits in
    let told1 = c.has_attribute_row.ensures.told ∙ told in
    let told2 = c.names_one.ensures.told ∙ told1 in
    let h = c.requires.holds m told in
    let rows = directory_rows b v m d h.holds h.there in
    let some = (c.in-Ok.ensures.found m told rows).0 c.if-not-there.false in
    let can = can_take b v m d name h some in
    let several = not_single (length (proper_rows (volume_at (geometry_of s) m) d)) c.in-Ok-names_one.last (c.in-Ok-names_one.ensures.found m told1 rows) c.if-last.false in
    subst (λ (f : ℕ → Bool). OnOk c.take_attribute_row.result (HasTaken b v now m name told3 f new)) (c.names_one.ensures.changed ∙ c.has_attribute_row.ensures.changed)
    (on_ok _ _ c.take_attribute_row.result (c.take_attribute_row.ensures.taken c.args.inode m told2 can)
    (row_gone b v now m d name can several some (is_there b v m d name h some) told3 half new))

pub returns-else-last-clause-faults : goal.returns-else-last-clause-faults
returns-else-last-clause-faults g c m told =
    let b = bearer_of c.args.inode c.args.site.sup in
    let v = c.args.bitmap.now in
    let d = c.args.directory in
    let name = c.args.name.now in
    let h = c.requires.holds m told in
    let some = (c.in-Ok.ensures.found m told (directory_rows b v m d h.holds h.there)).0 c.if-not-there.false in
    out_removed_kept b v m d name h c.take_attribute_row.result (c.take_attribute_row.ensures.faults c.args.inode m (c.names_one.ensures.told ∙ (c.has_attribute_row.ensures.told ∙ told)) (can_take b v m d name h some))

pub returns-else-last-clause-cause : goal.returns-else-last-clause-cause
returns-else-last-clause-cause g c =
    let c0 = g.E.Blocks.counts c.args.edits.now in
    let c1 = g.E.Blocks.counts c.has_attribute_row.new.under in
    let c2 = g.E.Blocks.counts c.names_one.new.under in
    take_earlier_kept c0 c2 (g.E.Blocks.counts c.take_attribute_row.new.edits) c.take_attribute_row.result (later_twice c0 c1 c2 c.in-Ok.ensures.later c.in-Ok-names_one.ensures.later) c.take_attribute_row.ensures.cause

pub returns-in-Err-clause-absent : goal.returns-in-Err-clause-absent
returns-in-Err-clause-absent g c m told =
    let b = bearer_of c.args.inode c.args.site.sup in
    let v = c.args.bitmap.now in
    let h = c.requires.holds m told in
    undone_untouched b v v m (g.E.Blocks.told c.has_attribute_row.new.under) (g.E.Blocks.changed c.args.edits.now) (g.E.Blocks.changed c.has_attribute_row.new.under) c.in-Err.fault
    (c.in-Err.ensures.found m told (directory_rows b v m c.args.directory h.holds h.there))

pub returns-then-not-there-clause-absent : goal.returns-then-not-there-clause-absent
returns-then-not-there-clause-absent g c m told = (refl, c.has_attribute_row.ensures.told ∙ told, λ k e. inl (sym (ap (λ (f : ℕ → Bool). f k) c.has_attribute_row.ensures.changed) ∙ e))

pub returns-in-Err-names_one-clause-absent : goal.returns-in-Err-names_one-clause-absent
returns-in-Err-names_one-clause-absent g c m told =
    let b = bearer_of c.args.inode c.args.site.sup in
    let v = c.args.bitmap.now in
    let h = c.requires.holds m told in
    undone_untouched b v v m (g.E.Blocks.told c.names_one.new.under) (g.E.Blocks.changed c.args.edits.now) (g.E.Blocks.changed c.names_one.new.under) c.in-Err-names_one.fault
    (c.in-Err-names_one.ensures.found m (c.has_attribute_row.ensures.told ∙ told) (directory_rows b v m c.args.directory h.holds h.there))

pub returns-then-last-clause-small : goal.returns-then-last-clause-small
returns-then-last-clause-small g c m told =
    on_ok _ _ c.take_last.result (c.take_last.ensures.taken m (c.names_one.ensures.told ∙ (c.has_attribute_row.ensures.told ∙ told)))
    (λ last. small_told m c.args.inode (g.E.Blocks.told c.take_last.new.edits) last.now_are.map last.now_are.is last.small)

pub returns-then-last-clause-absent : goal.returns-then-last-clause-absent
returns-then-last-clause-absent g c m told =
    let b = bearer_of c.args.inode c.args.site.sup in
    let v = c.args.bitmap.now in
    let d = c.args.directory in
    let h = c.requires.holds m told in
    let some = (c.in-Ok.ensures.found m told (directory_rows b v m d h.holds h.there)).0 c.if-not-there.false in
    out_untouched b v c.take_last.new.bitmap m (g.E.Blocks.told c.take_last.new.edits) (g.E.Blocks.changed c.args.edits.now) (g.E.Blocks.changed c.take_last.new.edits) d c.args.name.now h.there some c.take_last.result
    (c.take_last.ensures.faults m (c.names_one.ensures.told ∙ (c.has_attribute_row.ensures.told ∙ told)))

pub returns-else-last-clause-small : goal.returns-else-last-clause-small
returns-else-last-clause-small g c m told =
    let b = bearer_of c.args.inode c.args.site.sup in
    let v = c.args.bitmap.now in
    let d = c.args.directory in
    let name = c.args.name.now in
    let h = c.requires.holds m told in
    let some = (c.in-Ok.ensures.found m told (directory_rows b v m d h.holds h.there)).0 c.if-not-there.false in
    on_ok _ _ c.take_attribute_row.result (c.take_attribute_row.ensures.taken c.args.inode m (c.names_one.ensures.told ∙ (c.has_attribute_row.ensures.told ∙ told)) (can_take b v m d name h some))
    (λ row. small_told m c.args.inode (g.E.Blocks.told c.take_attribute_row.new.edits) row.now_are.map row.now_are.is (ap (λ (o : Option (List ℕ)). drop 232 (unwrap_or o [])) row.bearer))

pub returns-else-last-clause-absent : goal.returns-else-last-clause-absent
returns-else-last-clause-absent g c m told =
    let b = bearer_of c.args.inode c.args.site.sup in
    let v = c.args.bitmap.now in
    let d = c.args.directory in
    let name = c.args.name.now in
    let h = c.requires.holds m told in
    let some = (c.in-Ok.ensures.found m told (directory_rows b v m d h.holds h.there)).0 c.if-not-there.false in
    out_untouched b v c.take_attribute_row.new.bitmap m (g.E.Blocks.told c.take_attribute_row.new.edits) (g.E.Blocks.changed c.args.edits.now) (g.E.Blocks.changed c.take_attribute_row.new.edits) d name h.there some c.take_attribute_row.result
    (c.take_attribute_row.ensures.faults c.args.inode m (c.names_one.ensures.told ∙ (c.has_attribute_row.ensures.told ∙ told)) (can_take b v m d name h some))

pub returns-then-last-clause-clear : goal.returns-then-last-clause-clear
returns-then-last-clause-clear g c m told = c.take_last.ensures.clear m (c.names_one.ensures.told ∙ (c.has_attribute_row.ensures.told ∙ told))

pub returns-else-last-clause-clear : goal.returns-else-last-clause-clear
returns-else-last-clause-clear g c m told =
    let b = bearer_of c.args.inode c.args.site.sup in
    let v = c.args.bitmap.now in
    let d = c.args.directory in
    let name = c.args.name.now in
    let h = c.requires.holds m told in
    let some = (c.in-Ok.ensures.found m told (directory_rows b v m d h.holds h.there)).0 c.if-not-there.false in
    c.take_attribute_row.ensures.clear c.args.inode m (c.names_one.ensures.told ∙ (c.has_attribute_row.ensures.told ∙ told)) (can_take b v m d name h some)
