use Rattle.std.proofs.Common.{◌≡◌, ◌∙◌, ℕ, [], Bool, Some, sym, subst, arith}
use Rattle.std.specs.Prelude.{slice_get}
use Rattle.bfs_stream.specs.Sizes.{Origin, HasSizes}
use Rattle.bfs_stream.specs.Places.{places_at}
use Rattle.bfs_stream.specs.Told.{contents, Stands}
use Rattle.bfs_stream.specs.Faults.{HasNoBlock}
use Rattle.bfs_stream.specs.Grown.{Owns, HasGrownBy}
use Rattle.bfs_stream.specs.declared.fault.StreamFault.{StreamFault}
use Rattle.bfs_stream.specs.declared.fault.StreamFault.TheVariants.{PastEnd}
use Rattle.bfs_stream_pages.proofs.Filled.{FillsAll, FillsSound, array_short}
use Rattle.bfs_stream_pages.proofs.Rooms.{room_there, room_ok, fill_fault, few, told_before, some_size}
use Rattle.bfs_stream_pages.proofs.backing.Backing.make_room.Goals as goal

pub returns-in-Ok-clause-room : goal.returns-in-Ok-clause-room
returns-in-Ok-clause-room g c long m is held low =
    let o = c.args.self.now in
    let there : Stands c.self.inside.stream m = subst (λ (x : Origin). Stands x m) (sym c.self.view_is) held.owns.stands in
    let found : slice_get (places_at o.sizes (contents m) o.id) c.args.index ≡ Some c.in-Ok.field-0 =
    subst (λ (x : Origin). slice_get (places_at x.sizes (contents m) x.id) c.args.index ≡ Some c.in-Ok.field-0) c.self.view_is (c.in-Ok.ensures.found m is there) in
    room_there o c.args.bitmap.now long m c.args.index c.in-Ok.field-0 (g.E.Blocks.told c.block.new.under) (g.E.Blocks.changed c.args.edits.now) (g.E.Blocks.changed c.block.new.under) held found (c.in-Ok.ensures.told ∙ is) c.in-Ok.ensures.changed

-- what growing has left, where the stream had no block at the place
pub returns-clause-room : goal.returns-clause-room
returns-clause-room g c long m is held low =
    let o = c.args.self.now in
    let same : c.block.new.self ≡ o = c.block.ensures.same ∙ c.self.view_is in
    let later : c.grow.new.stream ≡ o = c.in-Ok-grow.ensures.same ∙ same in
    let sizes : HasSizes o.sizes = subst (λ (x : Origin). HasSizes x.sizes) c.self.view_is c.self.invariant.2 in
    let owns : Owns c.block.new.self c.args.bitmap.now [] m = subst (λ (x : Origin). Owns x c.args.bitmap.now [] m) (sym same) held.owns in
    let there : Stands c.self.inside.stream m = subst (λ (x : Origin). Stands x m) (sym c.self.view_is) held.owns.stands in
    let none : HasNoBlock (places_at o.sizes (contents m) o.id) c.args.index (PastEnd c.in-Err-PastEnd.field-0-0) =
    subst (λ (x : Origin). HasNoBlock (places_at x.sizes (contents m) x.id) c.args.index (PastEnd c.in-Err-PastEnd.field-0-0)) c.self.view_is
    (subst (λ (f : StreamFault). HasNoBlock (places_at c.self.inside.stream.sizes (contents m) c.self.inside.stream.id) c.args.index f) c.in-Err-PastEnd.field-0-is (c.in-Err-PastEnd.ensures.none m is there)) in
    let grown : HasGrownBy o c.args.bitmap.now c.grow.new.bitmap m 1 (g.E.Blocks.told c.grow.new.edits) (g.E.Blocks.changed c.args.edits.now) (g.E.Blocks.changed c.grow.new.edits) =
    subst (λ (x : Origin). HasGrownBy x c.args.bitmap.now c.grow.new.bitmap m 1 (g.E.Blocks.told c.grow.new.edits) (g.E.Blocks.changed c.args.edits.now) (g.E.Blocks.changed c.grow.new.edits)) same
    (subst (λ (f : ℕ → Bool). HasGrownBy c.block.new.self c.args.bitmap.now c.grow.new.bitmap m 1 (g.E.Blocks.told c.grow.new.edits) f (g.E.Blocks.changed c.grow.new.edits)) c.block.ensures.changed (c.in-Ok-grow.ensures.grown m (c.block.ensures.told ∙ is) owns)) in
    let some = some_size o sizes in
    let four = array_short o sizes in
    let few = few o c.args.bitmap.now c.grow.new.bitmap long m held c.in-Ok-grow.ensures.rest (g.E.Blocks.told c.grow.new.edits) (g.E.Blocks.changed c.args.edits.now) (g.E.Blocks.changed c.grow.new.edits) c.args.index grown low some none.1 in
    let told_before = told_before o c.args.bitmap.now c.grow.new.bitmap long m held c.in-Ok-grow.ensures.rest (g.E.Blocks.told c.grow.new.edits) (g.E.Blocks.changed c.args.edits.now) (g.E.Blocks.changed c.grow.new.edits) c.args.index grown low some none.1 in
    let filled : FillsAll o c.args.index (g.E.Blocks.told c.grow.new.edits) (g.E.Blocks.told c.fill_from.new.edits) (g.E.Blocks.changed c.grow.new.edits) (g.E.Blocks.changed c.fill_from.new.edits) c.fill_from.result =
    subst (λ (x : Origin). FillsAll x c.args.index (g.E.Blocks.told c.grow.new.edits) (g.E.Blocks.told c.fill_from.new.edits) (g.E.Blocks.changed c.grow.new.edits) (g.E.Blocks.changed c.fill_from.new.edits) c.fill_from.result) later c.fill_from.ensures.filled in
    room_ok o c.args.bitmap.now c.grow.new.bitmap long m held c.in-Ok-grow.ensures.rest (g.E.Blocks.told c.grow.new.edits) (g.E.Blocks.changed c.args.edits.now) (g.E.Blocks.changed c.grow.new.edits) c.args.index grown low some none.1
    (g.E.Blocks.told c.fill_from.new.edits) (g.E.Blocks.changed c.fill_from.new.edits) c.fill_from.result
    (filled grown.grown.2.map grown.grown.2.is grown.grown.2.owns.stands grown.grown.2.owns.once told_before (omega (arith, few, four)))

pub returns-clause-faults : goal.returns-clause-faults
returns-clause-faults g c long m is held low =
    let o = c.args.self.now in
    let same : c.block.new.self ≡ o = c.block.ensures.same ∙ c.self.view_is in
    let later : c.grow.new.stream ≡ o = c.in-Ok-grow.ensures.same ∙ same in
    let sizes : HasSizes o.sizes = subst (λ (x : Origin). HasSizes x.sizes) c.self.view_is c.self.invariant.2 in
    let owns : Owns c.block.new.self c.args.bitmap.now [] m = subst (λ (x : Origin). Owns x c.args.bitmap.now [] m) (sym same) held.owns in
    let there : Stands c.self.inside.stream m = subst (λ (x : Origin). Stands x m) (sym c.self.view_is) held.owns.stands in
    let none : HasNoBlock (places_at o.sizes (contents m) o.id) c.args.index (PastEnd c.in-Err-PastEnd.field-0-0) =
    subst (λ (x : Origin). HasNoBlock (places_at x.sizes (contents m) x.id) c.args.index (PastEnd c.in-Err-PastEnd.field-0-0)) c.self.view_is
    (subst (λ (f : StreamFault). HasNoBlock (places_at c.self.inside.stream.sizes (contents m) c.self.inside.stream.id) c.args.index f) c.in-Err-PastEnd.field-0-is (c.in-Err-PastEnd.ensures.none m is there)) in
    let grown : HasGrownBy o c.args.bitmap.now c.grow.new.bitmap m 1 (g.E.Blocks.told c.grow.new.edits) (g.E.Blocks.changed c.args.edits.now) (g.E.Blocks.changed c.grow.new.edits) =
    subst (λ (x : Origin). HasGrownBy x c.args.bitmap.now c.grow.new.bitmap m 1 (g.E.Blocks.told c.grow.new.edits) (g.E.Blocks.changed c.args.edits.now) (g.E.Blocks.changed c.grow.new.edits)) same
    (subst (λ (f : ℕ → Bool). HasGrownBy c.block.new.self c.args.bitmap.now c.grow.new.bitmap m 1 (g.E.Blocks.told c.grow.new.edits) f (g.E.Blocks.changed c.grow.new.edits)) c.block.ensures.changed (c.in-Ok-grow.ensures.grown m (c.block.ensures.told ∙ is) owns)) in
    let some = some_size o sizes in
    let told_before = told_before o c.args.bitmap.now c.grow.new.bitmap long m held c.in-Ok-grow.ensures.rest (g.E.Blocks.told c.grow.new.edits) (g.E.Blocks.changed c.args.edits.now) (g.E.Blocks.changed c.grow.new.edits) c.args.index grown low some none.1 in
    let sound : FillsSound o c.args.index (g.E.Blocks.told c.grow.new.edits) c.fill_from.result =
    subst (λ (x : Origin). FillsSound x c.args.index (g.E.Blocks.told c.grow.new.edits) c.fill_from.result) later c.fill_from.ensures.sound in
    fill_fault o c.args.bitmap.now m c.fill_from.result (sound grown.grown.2.map grown.grown.2.is grown.grown.2.owns.stands grown.grown.2.owns.once told_before)
