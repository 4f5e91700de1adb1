use Rattle.std.proofs.Common.{◌≡◌, ◌∙◌, pos, Some, ℕ, Bool, sym, subst}
use Rattle.bfs_base.specs.declared.kind.KeyKind.TheVariants.{Text}
use Rattle.bfs_pages.specs.Maps.{assoc, without}
use Rattle.bfs_stream.specs.Sizes.{Origin, sizes_of}
use Rattle.bfs_maps.specs.Mapped.{HasHeld, HasRowsNow}
use Rattle.bfs_maps.specs.Refused.{IsTakeFault}
use Rattle.bfs_maps.proofs.Sized.{held_here}
use Rattle.bfs_moves.specs.Directories.{IsDirectory, names_of}
use Rattle.bfs_leave.proofs.Unnamed.{undone_take, read_takes}
use Rattle.bfs_leave.proofs.names.take_row.Goals as goal

pub returns-in-Err-clause-refused : goal.returns-in-Err-clause-refused
returns-in-Err-clause-refused g c m told d =
    undone_take (names_of (record { id = c.args.dir; sizes = sizes_of c.args.sup.now }) m) c.args.name.now c.in-Err.fault c.in-Err.ensures.undone

pub returns-in-Err-clause-cause : goal.returns-in-Err-clause-cause
returns-in-Err-clause-cause g c = read_takes (g.E.Blocks.counts c.args.edits.now) (g.E.Blocks.counts c.check_inode.new.under) c.in-Err.fault c.in-Err.ensures.read_cause

pub take-requires-clause-stream : goal.take-requires-clause-stream
take-requires-clause-stream g c m told = subst (λ (x : Origin). HasHeld x c.args.bitmap.now m) (sym c.at-directory.ensures) (c.requires.stream m (sym c.check_inode.ensures.told ∙ told))

pub returns-in-Ok-take-clause-taken : goal.returns-in-Ok-take-clause-taken
returns-in-Ok-take-clause-taken g c m told d =
    let o : Origin = record { id = c.args.dir; sizes = sizes_of c.args.sup.now } in
    let v = c.args.bitmap.now in
    let now = c.take.new.bitmap in
    let told_now = g.E.Blocks.told c.take.new.edits in
    let changed_now = g.E.Blocks.changed c.take.new.edits in
    let at = c.at-directory.ensures in
    let got = c.in-Ok-take.ensures.taken m (c.check_inode.ensures.told ∙ told) (subst (λ (x : Origin). IsDirectory x v m) (sym at) d) in
    let here = subst (λ (x : Origin). HasRowsNow Text x v now m (without Text (names_of x m) c.args.name.now) told_now (g.E.Blocks.changed c.check_inode.new.under) changed_now) at got in
    record {
      before = c.in-Ok.ensures.words m told (held_here o v d.held.0 m d.held.1);
      since = subst (λ (was : ℕ → Bool). HasRowsNow Text o v now m (without Text (names_of o m) c.args.name.now) told_now was changed_now) c.check_inode.ensures.changed here;
    }

pub returns-in-Ok-take-clause-id : goal.returns-in-Ok-take-clause-id
returns-in-Ok-take-clause-id g c m told d =
    let at = c.at-directory.ensures in
    subst (λ (x : Origin). assoc Text (names_of x m) c.args.name.now ≡ Some (pos c.in-Ok-take.id)) at (c.in-Ok-take.ensures.id m (c.check_inode.ensures.told ∙ told) (subst (λ (x : Origin). IsDirectory x c.args.bitmap.now m) (sym at) d))

pub returns-in-Err-take-clause-refused : goal.returns-in-Err-take-clause-refused
returns-in-Err-take-clause-refused g c m told d =
    let at = c.at-directory.ensures in
    subst (λ (x : Origin). IsTakeFault Text (names_of x m) c.args.name.now c.in-Err-take.fault) at
    (c.in-Err-take.ensures.refused m (c.check_inode.ensures.told ∙ told) (subst (λ (x : Origin). IsDirectory x c.args.bitmap.now m) (sym at) d))
