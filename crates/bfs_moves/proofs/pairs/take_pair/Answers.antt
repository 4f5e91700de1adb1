use Rattle.std.proofs.Common.{◌∙◌, ℕ, Bool, sym, subst}
use Rattle.bfs_stream.specs.Sizes.{Origin, sizes_of}
use Rattle.bfs_stream_pages.specs.Held.{stream_of}
use Rattle.bfs_stream_pages.specs.MovesLaws.{moved_none}
use Rattle.bfs_make.specs.Mapped.{HasHeld, StreamNow}
use Rattle.bfs_make.proofs.Sized.{held_here}
use Rattle.bfs_index.specs.Indices.{Place, IsIndex, HasWithout}
use Rattle.bfs_index.specs.Refused.{IsPairFault}
use Rattle.bfs_moves.proofs.Listed.{undone_pair}
use Rattle.bfs_moves.proofs.pairs.take_pair.Goals as goal

pub returns-in-Err-clause-refused : goal.returns-in-Err-clause-refused
returns-in-Err-clause-refused g c m told d = c.in-Err.ensures.undone

pub remove-requires-clause-stream : goal.remove-requires-clause-stream
remove-requires-clause-stream g c m told = subst (λ (x : Place). HasHeld x.origin c.args.bitmap.now m) (sym c.at-index.ensures) (c.requires.stream m (sym c.check_inode.ensures.told ∙ told))

pub returns-in-Ok-remove-clause-taken : goal.returns-in-Ok-remove-clause-taken
returns-in-Ok-remove-clause-taken g c m told d =
    let o : Origin = record { id = c.args.inode; sizes = sizes_of c.args.sup.now } in
    let v = c.args.bitmap.now in
    let now = c.remove.new.bitmap in
    let told_now = g.E.Blocks.told c.remove.new.edits in
    let changed_now = g.E.Blocks.changed c.remove.new.edits in
    let at = c.at-index.ensures in
    let got = c.in-Ok-remove.ensures.taken m (c.check_inode.ensures.told ∙ told) (subst (λ (x : Place). IsIndex x v m) (sym at) d) in
    let here = subst (λ (x : Place). StreamNow x.origin v now m (HasWithout x.kind (stream_of x.origin m) c.args.key.now c.args.id) told_now (g.E.Blocks.changed c.check_inode.new.under) changed_now) at got in
    record {
      before = c.in-Ok.ensures.words m told (held_here o v d.held.0 m d.held.1);
      since = subst (λ (was : ℕ → Bool). StreamNow o v now m (HasWithout c.args.kind (stream_of o m) c.args.key.now c.args.id) told_now was changed_now) c.check_inode.ensures.changed here;
    }

pub returns-in-Err-remove-clause-refused : goal.returns-in-Err-remove-clause-refused
returns-in-Err-remove-clause-refused g c m told d =
    c.in-Err-remove.ensures.refused m (c.check_inode.ensures.told ∙ told) (subst (λ (x : Place). IsIndex x c.args.bitmap.now m) (sym c.at-index.ensures) d)
