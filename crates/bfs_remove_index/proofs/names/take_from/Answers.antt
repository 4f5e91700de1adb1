use Rattle.std.proofs.Common.{◌∙◌, ℕ, Bool, sym, subst}
use Rattle.bfs_base.specs.declared.kind.KeyKind.TheVariants.{Text}
use Rattle.bfs_pages.specs.Maps.{without}
use Rattle.bfs_stream.specs.Sizes.{Origin, sizes_of}
use Rattle.bfs_maps.specs.Mapped.{StreamNow, rows_of}
use Rattle.bfs_maps.proofs.Sized.{held_here}
use Rattle.bfs_maps.specs.RowTrees.{IsRowTree}
use Rattle.bfs_leave.proofs.Unnamed.{undone_take, read_takes}
use Rattle.bfs_remove_index.proofs.names.take_from.Goals as goal

pub returns-in-Err-clause-refused : goal.returns-in-Err-clause-refused
returns-in-Err-clause-refused g c m told d =
    undone_take (rows_of Text (record { id = c.args.directory; sizes = sizes_of c.args.sup.now }) m) c.args.name.now c.in-Err.fault c.in-Err.ensures.undone

pub returns-in-Err-clause-cause : goal.returns-in-Err-clause-cause
returns-in-Err-clause-cause g c = read_takes (g.E.Blocks.counts c.args.edits.now) (g.E.Blocks.counts c.check_inode.new.under) c.in-Err.fault c.in-Err.ensures.read_cause

pub take_row-requires-clause-stream : goal.take_row-requires-clause-stream
take_row-requires-clause-stream g c m told = c.requires.stream m (sym c.check_inode.ensures.told ∙ told)

pub returns-in-Ok-take_row-clause-taken : goal.returns-in-Ok-take_row-clause-taken
returns-in-Ok-take_row-clause-taken g c m told d =
    let o : Origin = record { id = c.args.directory; sizes = sizes_of c.args.sup.now } in
    let v = c.args.bitmap.now in
    let now = c.take_row.new.bitmap in
    let told_now = g.E.Blocks.told c.take_row.new.edits in
    let changed_now = g.E.Blocks.changed c.take_row.new.edits in
    let got = c.in-Ok-take_row.ensures.taken m (c.check_inode.ensures.told ∙ told) d in
    record {
      before = c.in-Ok.ensures.words m told (held_here o v d.held.0 m d.held.1);
      since = subst (λ (was : ℕ → Bool). StreamNow o v now m (IsRowTree Text (without Text (rows_of Text o m) c.args.name.now)) told_now was changed_now) c.check_inode.ensures.changed got;
    }

pub returns-in-Ok-take_row-clause-number : goal.returns-in-Ok-take_row-clause-number
returns-in-Ok-take_row-clause-number g c m told d = c.in-Ok-take_row.ensures.number m (c.check_inode.ensures.told ∙ told) d

pub returns-in-Err-take_row-clause-refused : goal.returns-in-Err-take_row-clause-refused
returns-in-Err-take_row-clause-refused g c m told d = c.in-Err-take_row.ensures.refused m (c.check_inode.ensures.told ∙ told) d
