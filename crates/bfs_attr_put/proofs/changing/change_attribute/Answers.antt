use Rattle.std.proofs.Common.{rules, ◌≡◌, ℤ, subst}
use mir.Syntax.{w64}
use mir.Val.{to_z, of_z}
use Rattle.std.specs.FinMap.{insert}
use Rattle.bfs_super.specs.Geometry.{geometry_of}
use Rattle.bfs_tree.specs.Trees.{Attribute}
use Rattle.bfs_shift.specs.Work.{IsStepped}
use Rattle.bfs_attr_calls.specs.Attributed.{with_attributes}
use Rattle.bfs_attr_calls.specs.Stamped.{with_changed}
use Rattle.bfs_attr_put.proofs.Whole.{more_there, attribute_changed}
use Rattle.bfs_attr_put.proofs.changing.change_attribute.Goals as goal

pub returns-in-Ok-put_changed-clause-left : goal.returns-in-Ok-put_changed-clause-left
returns-in-Ok-put_changed-clause-left g c m tree lists loose n told work clear is =
    let s = geometry_of c.args.sup.now in
    let v = c.args.bitmap.now in
    let v1 = c.put_attribute.new.bitmap in
    let id = c.args.id in
    let name = c.args.name.now in
    let attribute : Attribute = record { code = c.args.kind; bytes = c.args.bytes.now } in
    let t1 = g.E.Blocks.told c.put_attribute.new.edits in
    let t2 = g.E.Blocks.told c.put_changed.new.edits in
    let c0 = g.E.Blocks.changed c.args.edits.now in
    let c1 = g.E.Blocks.changed c.put_attribute.new.edits in
    let c2 = g.E.Blocks.changed c.put_changed.new.edits in
    let one = c.in-Ok.ensures.left m tree lists loose n told work clear is in
    let more = record n { attributes = insert n.attributes name attribute } in
    let mid = with_attributes tree id n (insert n.attributes name attribute) in
    let e : to_z w64 (of_z w64 c.args.stamp) ≡ c.args.stamp = search rules in
    let two : IsStepped s v1 v1 one.map mid (with_changed mid id more c.args.stamp) lists loose t2 c1 c2 =
    subst (λ (z : ℤ). IsStepped s v1 v1 one.map mid (with_changed mid id more z) lists loose t2 c1 c2) e
    (c.in-Ok-put_changed.ensures.stamped v1 one.map mid lists loose more one.is one.work (more_there s v v1 m tree lists loose id n name attribute c.args.stamp t1 t2 c0 c1 c2 one)) in
    attribute_changed s v v1 m tree lists loose id n name attribute c.args.stamp t1 t2 c0 c1 c2 one two
