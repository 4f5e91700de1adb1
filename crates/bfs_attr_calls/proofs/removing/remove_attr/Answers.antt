use Rattle.std.proofs.Common.{rules, ◌≡◌, ◌∙◌, ℤ, [], ap, subst}
use mir.Syntax.{w64}
use mir.Val.{to_z, of_z}
use Rattle.std.specs.FinMap.{remove}
use Rattle.bfs_bitmap.specs.Runs.{Room}
use Rattle.bfs_super.specs.Geometry.{geometry_of}
use Rattle.bfs_shift.specs.Work.{IsStepped}
use Rattle.bfs_unmake.proofs.Standing.{same_standing}
use Rattle.bfs_make.proofs.Telling.{told_back}
use Rattle.bfs_attr_calls.specs.Attributed.{with_attributes}
use Rattle.bfs_attr_calls.specs.Stamped.{with_changed}
use Rattle.bfs_attr_calls.proofs.Whole.{unlisted_clear, bearer_at, bare_there, attribute_gone}
use Rattle.bfs_attr_calls.proofs.removing.remove_attr.Goals as goal

pub take_attribute-requires-clause-bearer : goal.take_attribute-requires-clause-bearer
take_attribute-requires-clause-bearer g c now told1 =
    let before =
    told_back (g.E.Blocks.told c.args.edits.now) (g.E.Blocks.told c.unlist_attribute.new.edits) (g.E.Blocks.frame c.args.edits.now).below (g.E.Blocks.frame c.unlist_attribute.new.edits).below
    (g.met.E.Edits.tells c.args.edits.now) (g.met.E.Edits.tells c.unlist_attribute.new.edits) (ap (λ f. f.below) c.in-Ok.ensures.frame) now told1 in
    let m = before.0 in
    let told = before.1 in
    let h = c.requires.ready m told in
    let there = c.requires.there m h.tree h.lists told h.ready in
    let one = c.in-Ok.ensures.unlisted m h.tree h.lists there.node told h.ready there.there in
    bearer_at (geometry_of c.args.sup.now) c.args.bitmap.now c.unlist_attribute.new.bitmap m h.tree h.lists h.ready c.args.id there.node there.there c.args.name.now
    (g.E.Blocks.told c.unlist_attribute.new.edits) (g.E.Blocks.changed c.args.edits.now) (g.E.Blocks.changed c.unlist_attribute.new.edits) one now told1

pub returns-in-Err-take_attribute-clause-undone : goal.returns-in-Err-take_attribute-clause-undone
returns-in-Err-take_attribute-clause-undone g c m tree lists told ready =
    let there = c.requires.there m tree lists told ready in
    let one = c.in-Ok.ensures.unlisted m tree lists there.node told ready there.there in
    c.in-Err-take_attribute.ensures.undone one.step.map tree one.last [] there.node one.step.is one.step.work there.there there.bears

pub returns-in-Ok-put_changed-clause-removed : goal.returns-in-Ok-put_changed-clause-removed
returns-in-Ok-put_changed-clause-removed g c m tree lists told ready =
    let s = geometry_of c.args.sup.now in
    let v = c.args.bitmap.now in
    let v1 = c.unlist_attribute.new.bitmap in
    let v2 = c.take_attribute.new.bitmap in
    let id = c.args.id in
    let name = c.args.name.now in
    let there = c.requires.there m tree lists told ready in
    let n = there.node in
    let t1 = g.E.Blocks.told c.unlist_attribute.new.edits in
    let t2 = g.E.Blocks.told c.take_attribute.new.edits in
    let t3 = g.E.Blocks.told c.put_changed.new.edits in
    let c0 = g.E.Blocks.changed c.args.edits.now in
    let c1 = g.E.Blocks.changed c.unlist_attribute.new.edits in
    let c2 = g.E.Blocks.changed c.take_attribute.new.edits in
    let c3 = g.E.Blocks.changed c.put_changed.new.edits in
    let one = c.in-Ok.ensures.unlisted m tree lists n told ready there.there in
    let clear = unlisted_clear s v v1 m tree lists ready id n there.there name t1 c0 c1 one in
    let two = c.in-Ok-take_attribute.ensures.left one.step.map tree one.last [] n one.step.is one.step.work clear there.there in
    let bare = record n { attributes = remove n.attributes name } in
    let mid = with_attributes tree id n (remove n.attributes name) in
    let e : to_z w64 (of_z w64 c.args.stamp) ≡ c.args.stamp = search rules in
    let three : IsStepped s v2 v2 two.map mid (with_changed mid id bare c.args.stamp) one.last [] t3 c2 c3 =
    subst (λ (z : ℤ). IsStepped s v2 v2 two.map mid (with_changed mid id bare z) one.last [] t3 c2 c3) e
    (c.in-Ok-put_changed.ensures.stamped v2 two.map mid one.last [] bare two.is two.work (bare_there s v v1 m tree lists ready id n there.there name t1 c0 c1 one)) in
    attribute_gone s v v1 m tree lists ready id n there.there name t1 c0 c1 one c.args.stamp v2 t2 t3 c2 c3 two three

pub returns-in-Err-clause-standing : goal.returns-in-Err-clause-standing
returns-in-Err-clause-standing g c = same_standing c.args.bitmap.now c.unlist_attribute.new.bitmap (ap (λ (r : Room). r.given) c.in-Err.ensures.rest)

pub returns-in-Err-take_attribute-clause-standing : goal.returns-in-Err-take_attribute-clause-standing
returns-in-Err-take_attribute-clause-standing g c =
    c.in-Err-take_attribute.ensures.standing ∙ same_standing c.args.bitmap.now c.unlist_attribute.new.bitmap (ap (λ (r : Room). r.given) c.in-Ok.ensures.rest)

pub returns-in-Ok-put_changed-clause-standing : goal.returns-in-Ok-put_changed-clause-standing
returns-in-Ok-put_changed-clause-standing g c =
    c.in-Ok-take_attribute.ensures.standing ∙ same_standing c.args.bitmap.now c.unlist_attribute.new.bitmap (ap (λ (r : Room). r.given) c.in-Ok.ensures.rest)

pub returns-in-Err-put_changed-clause-standing : goal.returns-in-Err-put_changed-clause-standing
returns-in-Err-put_changed-clause-standing g c =
    c.in-Ok-take_attribute.ensures.standing ∙ same_standing c.args.bitmap.now c.unlist_attribute.new.bitmap (ap (λ (r : Room). r.given) c.in-Ok.ensures.rest)
