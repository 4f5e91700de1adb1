use Rattle.std.proofs.Common.{rules, ◌≡◌, ℤ, refl, subst, w64, to_z, of_z}
use Rattle.std.specs.FinMap.{empty}
use Rattle.bfs_super.specs.Geometry.{geometry_of}
use Rattle.bfs_hold.specs.Sized.{IsSizedSo}
use Rattle.bfs_answers.proofs.Left.{sized_is_answered}
use Rattle.bfs_answers.proofs.sizing.give_size.Goals as goal

pub set_size-requires-clause-fine : goal.set_size-requires-clause-fine
set_size-requires-clause-fine g c m tree lists told ready =
    (record { tree = tree; holds = c.args.holds.now; known = empty }, refl, c.requires.fine m tree lists (record { tree = tree; holds = c.args.holds.now; known = empty }) told ready refl refl)

pub returns-in-Ok-clause-answered : goal.returns-in-Ok-clause-answered
returns-in-Ok-clause-answered g c m tree lists told ready =
    let v = geometry_of c.args.sup.now in
    let n = c.set_size.new in
    let e : to_z w64 (of_z w64 c.args.stamp) ≡ c.args.stamp = search rules in
    let so : IsSizedSo v c.args.bitmap.now n.bitmap m tree c.args.holds.now c.args.stamp c.args.id c.args.size (g.E.Blocks.told n.edits) (g.E.Blocks.changed c.args.edits.now) (g.E.Blocks.changed n.edits) =
    subst (λ (z : ℤ). IsSizedSo v c.args.bitmap.now n.bitmap m tree c.args.holds.now z c.args.id c.args.size (g.E.Blocks.told n.edits) (g.E.Blocks.changed c.args.edits.now) (g.E.Blocks.changed n.edits)) e
    (c.in-Ok.ensures.done m tree lists c.args.holds.now told ready (λ s same held. c.requires.fine m tree lists s told ready same held)) in
    sized_is_answered v c.args.bitmap.now n.bitmap m tree lists c.args.holds.now c.args.stamp c.args.id c.args.size (g.E.Blocks.told n.edits) (g.E.Blocks.changed c.args.edits.now) (g.E.Blocks.changed n.edits) ready c.requires.settled so
