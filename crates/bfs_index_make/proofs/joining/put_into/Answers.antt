use Rattle.std.proofs.Common.{◌∙◌, ℕ, pos, Bool, subst}
use Rattle.bfs_base.specs.declared.kind.KeyKind.TheVariants.{Text}
use Rattle.bfs_pages.specs.Maps.{put}
use Rattle.bfs_stream.specs.Sizes.{Origin, sizes_of}
use Rattle.bfs_maps.specs.Mapped.{StreamNow, rows_of}
use Rattle.bfs_maps.proofs.Sized.{held_here}
use Rattle.bfs_maps.specs.RowTrees.{IsRowTree}
use Rattle.bfs_moves.proofs.Named.{undone_put}
use Rattle.bfs_stream_pages.specs.MovesLaws.{moved_none}
use Rattle.bfs_index_make.proofs.joining.put_into.Goals as goal

pub returns-in-Err-clause-refused : goal.returns-in-Err-clause-refused
returns-in-Err-clause-refused g c m told has =
    let o : Origin = record { id = c.args.directory; sizes = sizes_of c.args.sup.now } in
    let v = c.args.bitmap.now in
    undone_put o v v m m (rows_of Text o m) c.args.name.now (moved_none o v m has.held.1.owns) c.in-Err.fault c.in-Err.ensures.undone

pub returns-in-Ok-put_row-clause-put : goal.returns-in-Ok-put_row-clause-put
returns-in-Ok-put_row-clause-put g c m told has =
    let o : Origin = record { id = c.args.directory; sizes = sizes_of c.args.sup.now } in
    let v = c.args.bitmap.now in
    let now = c.put_row.new.bitmap in
    let told_now = g.E.Blocks.told c.put_row.new.edits in
    let changed_now = g.E.Blocks.changed c.put_row.new.edits in
    let got = c.in-Ok-put_row.ensures.put m (c.check_inode.ensures.told ∙ told) has in
    record {
      before = c.in-Ok.ensures.words m told (held_here o v has.held.0 m has.held.1);
      since = subst (λ (was : ℕ → Bool). StreamNow o v now m (IsRowTree Text (put Text (rows_of Text o m) c.args.name.now (pos c.args.id))) told_now was changed_now) c.check_inode.ensures.changed got;
    }

pub returns-in-Err-put_row-clause-refused : goal.returns-in-Err-put_row-clause-refused
returns-in-Err-put_row-clause-refused g c m told has = c.in-Err-put_row.ensures.refused m (c.check_inode.ensures.told ∙ told) has
