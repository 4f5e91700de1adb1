use Rattle.std.proofs.Common.{◌∙◌, ℕ, Bool, sym, subst}
use Rattle.bfs_stream.specs.Sizes.{Origin, sizes_of}
use Rattle.bfs_stream_pages.specs.Held.{stream_of}
use Rattle.bfs_stream_pages.specs.MovesLaws.{moved_none}
use Rattle.bfs_make.specs.Mapped.{HasHeld, StreamNow}
use Rattle.bfs_make.proofs.Sized.{held_here}
use Rattle.bfs_index.specs.Indices.{Place, IsIndex, HasWith}
use Rattle.bfs_index.specs.Refused.{IsPairFault}
use Rattle.bfs_moves.proofs.Listed.{undone_pair}
use Rattle.bfs_moves.proofs.pairs.add_pair.Goals as goal

pub returns-in-Err-clause-refused : goal.returns-in-Err-clause-refused
returns-in-Err-clause-refused g c m told d =
    let o : Origin = record { id = c.args.inode; sizes = sizes_of c.args.sup.now } in
    let v = c.args.bitmap.now in
    undone_pair o v v m m (moved_none o v m d.held.1.owns) c.in-Err.fault c.in-Err.ensures.undone

pub add-requires-clause-stream : goal.add-requires-clause-stream
add-requires-clause-stream g c m told = subst (λ (x : Place). HasHeld x.origin c.args.bitmap.now m) (sym c.at-index.ensures) (c.requires.stream m (sym c.check_inode.ensures.told ∙ told))

pub returns-in-Ok-add-clause-added : goal.returns-in-Ok-add-clause-added
returns-in-Ok-add-clause-added g c m told d =
    let o : Origin = record { id = c.args.inode; sizes = sizes_of c.args.sup.now } in
    let v = c.args.bitmap.now in
    let now = c.add.new.bitmap in
    let told_now = g.E.Blocks.told c.add.new.edits in
    let changed_now = g.E.Blocks.changed c.add.new.edits in
    let at = c.at-index.ensures in
    let got = c.in-Ok-add.ensures.added m (c.check_inode.ensures.told ∙ told) (subst (λ (x : Place). IsIndex x v m) (sym at) d) in
    let here = subst (λ (x : Place). StreamNow x.origin v now m (HasWith x.kind (stream_of x.origin m) c.args.key.now c.args.id) told_now (g.E.Blocks.changed c.check_inode.new.under) changed_now) at got in
    record {
      before = c.in-Ok.ensures.words m told (held_here o v d.held.0 m d.held.1);
      since = subst (λ (was : ℕ → Bool). StreamNow o v now m (HasWith c.args.kind (stream_of o m) c.args.key.now c.args.id) told_now was changed_now) c.check_inode.ensures.changed here;
    }

pub returns-in-Err-add-clause-refused : goal.returns-in-Err-add-clause-refused
returns-in-Err-add-clause-refused g c m told d =
    let at = c.at-index.ensures in
    subst (λ (x : Place). IsPairFault x.origin c.args.bitmap.now m c.in-Err-add.fault) at
    (c.in-Err-add.ensures.refused m (c.check_inode.ensures.told ∙ told) (subst (λ (x : Place). IsIndex x c.args.bitmap.now m) (sym at) d))
