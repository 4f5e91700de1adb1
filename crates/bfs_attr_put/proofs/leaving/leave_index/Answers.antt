use Rattle.std.proofs.Common.{◌∙◌, ℕ, Bool, refl, sym, subst}
use Rattle.bfs_bitmap.specs.Runs.{Room}
use Rattle.bfs_super.specs.Geometry.{geometry_of}
use Rattle.bfs_shift.specs.Work.{GoesOn}
use Rattle.bfs_look.specs.Ready.{IsReady, HasReady}
use Rattle.bfs_attr_calls.proofs.Ends.{goes_on_same}
use Rattle.bfs_attr_calls.specs.Removed.{HasUnlistedUnder}
use Rattle.bfs_attr_put.proofs.Missing.{state_of, unrefused, refused, none_unlisted}
use Rattle.bfs_attr_put.proofs.leaving.leave_index.Goals as goal

pub returns-in-Some-clause-unlisted : goal.returns-in-Some-clause-unlisted
returns-in-Some-clause-unlisted g c m tree lists n told ready is =
    let s = geometry_of c.args.sup.now in
    let v = c.args.bitmap.now in
    let id = c.args.id in
    let name = c.args.name.now in
    let t = g.E.Blocks.told c.attr_remove_refusal.new.edits in
    let old = g.E.Blocks.changed c.args.edits.now in
    let new = g.E.Blocks.changed c.attr_remove_refusal.new.edits in
    let some = sym c.in-Some.is ∙ c.in-Ok.ensures.refused m tree lists (state_of tree) told ready refl in
    let missing = refused tree id n name is c.in-Some.field-0 some in
    let goes : GoesOn s v v m m tree tree old new = subst (λ (f : ℕ → Bool). GoesOn s v v m m tree tree old f) (sym c.in-Ok.ensures.changed) (goes_on_same s v m tree old) in
    subst (λ (x : Room). HasUnlistedUnder s v x m tree lists id n name t old new) (sym c.in-Ok.ensures.bitmap)
    (none_unlisted tree id n name is missing s v m lists t old new ready (c.in-Ok.ensures.told ∙ told) goes)

pub unlist_attribute-requires-clause-ready : goal.unlist_attribute-requires-clause-ready
unlist_attribute-requires-clause-ready g c m told =
    subst (λ (v : Room). HasReady (geometry_of c.args.sup.now) v m) (sym c.in-Ok.ensures.bitmap) (c.requires.ready m (sym c.in-Ok.ensures.told ∙ told))

pub unlist_attribute-requires-clause-there : goal.unlist_attribute-requires-clause-there
unlist_attribute-requires-clause-there g c m tree lists told ready =
    let before = sym c.in-Ok.ensures.told ∙ told in
    let was = subst (λ (v : Room). IsReady (geometry_of c.args.sup.now) v m tree lists) c.in-Ok.ensures.bitmap ready in
    let there = c.requires.there m tree lists before was in
    unrefused tree c.args.id there.0 c.args.name.now there.1 (sym c.in-None.is ∙ c.in-Ok.ensures.refused m tree lists (state_of tree) before was refl)

pub returns-in-Err-unlist_attribute-clause-undone : goal.returns-in-Err-unlist_attribute-clause-undone
returns-in-Err-unlist_attribute-clause-undone g c m tree lists told ready =
    c.in-Err-unlist_attribute.ensures.undone m tree lists (c.in-Ok.ensures.told ∙ told) (subst (λ (v : Room). IsReady (geometry_of c.args.sup.now) v m tree lists) (sym c.in-Ok.ensures.bitmap) ready)

pub returns-in-Err-clause-undone : goal.returns-in-Err-clause-undone
returns-in-Err-clause-undone g c m tree lists told ready = c.in-Err.ensures.refused m tree lists (state_of tree) told ready refl
