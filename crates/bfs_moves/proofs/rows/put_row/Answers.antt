use Rattle.std.proofs.Common.{◌≡◌, ◌∙◌, pos, None, ℕ, Bool, sym, subst}
use Rattle.bfs_base.specs.declared.kind.KeyKind.TheVariants.{Text}
use Rattle.bfs_pages.specs.Maps.{assoc, put}
use Rattle.bfs_stream.specs.Sizes.{Origin, sizes_of}
use Rattle.bfs_stream_pages.specs.MovesLaws.{moved_none}
use Rattle.bfs_make.specs.Mapped.{HasHeld, HasRowsNow}
use Rattle.bfs_make.specs.Refused.{IsPutFault}
use Rattle.bfs_make.proofs.Sized.{held_here}
use Rattle.bfs_dir.specs.Directories.{IsDirectory, names_of}
use Rattle.bfs_moves.proofs.Named.{undone_put}
use Rattle.bfs_moves.proofs.rows.put_row.Goals as goal

pub returns-in-Err-clause-refused : goal.returns-in-Err-clause-refused
returns-in-Err-clause-refused g c m told d =
    let o : Origin = record { id = c.args.dir; sizes = sizes_of c.args.sup.now } in
    let v = c.args.bitmap.now in
    undone_put o v v m m (names_of o m) c.args.name.now (moved_none o v m d.held.1.owns) c.in-Err.fault c.in-Err.ensures.undone

pub put-requires-clause-stream : goal.put-requires-clause-stream
put-requires-clause-stream g c m told = subst (λ (x : Origin). HasHeld x c.args.bitmap.now m) (sym c.at-directory.ensures) (c.requires.stream m (sym c.check_inode.ensures.told ∙ told))

pub returns-in-Ok-put-clause-put : goal.returns-in-Ok-put-clause-put
returns-in-Ok-put-clause-put g c m told d =
    let o : Origin = record { id = c.args.dir; sizes = sizes_of c.args.sup.now } in
    let v = c.args.bitmap.now in
    let now = c.put.new.bitmap in
    let told_now = g.E.Blocks.told c.put.new.edits in
    let changed_now = g.E.Blocks.changed c.put.new.edits in
    let at = c.at-directory.ensures in
    let got = c.in-Ok-put.ensures.put m (c.check_inode.ensures.told ∙ told) (subst (λ (x : Origin). IsDirectory x v m) (sym at) d) in
    let here = subst (λ (x : Origin). HasRowsNow Text x v now m (put Text (names_of x m) c.args.name.now (pos c.args.id)) told_now (g.E.Blocks.changed c.check_inode.new.under) changed_now) at got in
    record {
      before = c.in-Ok.ensures.words m told (held_here o v d.held.0 m d.held.1);
      since = subst (λ (was : ℕ → Bool). HasRowsNow Text o v now m (put Text (names_of o m) c.args.name.now (pos c.args.id)) told_now was changed_now) c.check_inode.ensures.changed here;
    }

pub returns-in-Ok-put-clause-absent : goal.returns-in-Ok-put-clause-absent
returns-in-Ok-put-clause-absent g c m told d =
    let at = c.at-directory.ensures in
    subst (λ (x : Origin). assoc Text (names_of x m) c.args.name.now ≡ None) at (c.in-Ok-put.ensures.absent m (c.check_inode.ensures.told ∙ told) (subst (λ (x : Origin). IsDirectory x c.args.bitmap.now m) (sym at) d))

pub returns-in-Err-put-clause-refused : goal.returns-in-Err-put-clause-refused
returns-in-Err-put-clause-refused g c m told d =
    let at = c.at-directory.ensures in
    subst (λ (x : Origin). IsPutFault Text x c.args.bitmap.now m (names_of x m) c.args.name.now c.in-Err-put.fault) at
    (c.in-Err-put.ensures.refused m (c.check_inode.ensures.told ∙ told) (subst (λ (x : Origin). IsDirectory x c.args.bitmap.now m) (sym at) d))
