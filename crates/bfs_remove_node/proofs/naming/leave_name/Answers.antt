use Rattle.std.proofs.Common.{rules, ◌≡◌, [], ℤ, sym, subst}
use mir.Syntax.{w64}
use mir.Val.{to_z, of_z}
use Rattle.bfs_base.specs.declared.kind.KeyKind.TheVariants.{Text}
use Rattle.bfs_super.specs.Geometry.{geometry_of}
use Rattle.bfs_pages.specs.Maps.{without}
use Rattle.bfs_maps.specs.Refused.{IsUndone}
use Rattle.bfs_shift.specs.Lists.{with_rows}
use Rattle.bfs_shift.specs.Work.{IsStepped}
use Rattle.bfs_calls.specs.Made.{with_touched}
use Rattle.bfs_moves.proofs.Stepping.{stepped_twice}
use Rattle.bfs_remove_node.proofs.Faulty.{take_undone}
use Rattle.bfs_remove_node.proofs.naming.leave_name.Goals as goal

pub returns-in-Err-clause-undone : goal.returns-in-Err-clause-undone
returns-in-Err-clause-undone g c m tree lists d value told work there isdir numbers row =
    subst IsUndone (sym c.not_taken.ensures)
    (take_undone (lists.rows c.args.dir) c.args.name.now value c.args.dir c.in-Err.fault row (c.in-Err.ensures.refused m tree lists [] d told work there isdir numbers))

pub returns-in-Ok-stamp_directory-clause-left : goal.returns-in-Ok-stamp_directory-clause-left
returns-in-Ok-stamp_directory-clause-left g c m tree lists d told work there isdir numbers =
    let s = geometry_of c.args.sup.now in
    let rows = with_rows lists c.args.dir (without Text (lists.rows c.args.dir) c.args.name.now) in
    let one = c.in-Ok.ensures.taken m tree lists [] d told work there isdir numbers in
    let e : to_z w64 (of_z w64 c.args.stamp) ≡ c.args.stamp = search rules in
    let two : IsStepped s c.take_name.new.bitmap c.take_name.new.bitmap one.map tree (with_touched tree c.args.dir d c.args.stamp) rows [] (g.E.Blocks.told c.stamp_directory.new.edits) (g.E.Blocks.changed c.take_name.new.edits) (g.E.Blocks.changed c.stamp_directory.new.edits) =
    subst (λ (z : ℤ). IsStepped s c.take_name.new.bitmap c.take_name.new.bitmap one.map tree (with_touched tree c.args.dir d z) rows [] (g.E.Blocks.told c.stamp_directory.new.edits) (g.E.Blocks.changed c.take_name.new.edits) (g.E.Blocks.changed c.stamp_directory.new.edits)) e
    (c.in-Ok-stamp_directory.ensures.stamped c.take_name.new.bitmap one.map tree rows [] d one.is one.work there isdir) in
    stepped_twice s c.args.bitmap.now c.take_name.new.bitmap c.take_name.new.bitmap m tree tree (with_touched tree c.args.dir d c.args.stamp) rows rows [] []
    (g.E.Blocks.told c.take_name.new.edits) (g.E.Blocks.told c.stamp_directory.new.edits) (g.E.Blocks.changed c.args.edits.now) (g.E.Blocks.changed c.take_name.new.edits) (g.E.Blocks.changed c.stamp_directory.new.edits) one two
