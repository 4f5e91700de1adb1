use Rattle.std.proofs.Common.{rules, ◌≡◌, ℤ, subst}
use mir.Syntax.{w64}
use mir.Val.{to_z, of_z}
use Rattle.bfs_super.specs.Geometry.{geometry_of}
use Rattle.bfs_tree.specs.Trees.{Tree}
use Rattle.bfs_shift.specs.Work.{IsStepped}
use Rattle.bfs_calls.specs.Made.{with_touched}
use Rattle.bfs_moves.proofs.Stepping.{stepped_twice}
use Rattle.bfs_rename.proofs.Stampings.{still, both_is}
use Rattle.bfs_rename.proofs.stamping.stamp_both.Goals as goal

pub returns-in-Ok-stamp_directory-clause-stamped : goal.returns-in-Ok-stamp_directory-clause-stamped
returns-in-Ok-stamp_directory-clause-stamped g c v m tree lists loose d t told work there dir_kind to_there to_kind =
    let s = geometry_of c.args.sup.now in
    let dir = c.args.dir in
    let to_dir = c.args.to_dir in
    let stamp = c.args.stamp in
    let e : to_z w64 (of_z w64 c.args.stamp) ≡ c.args.stamp = search rules in
    let x = still tree dir to_dir stamp d t there dir_kind to_there to_kind in
    let one : IsStepped s v v m tree (with_touched tree dir d stamp) lists loose (g.E.Blocks.told c.stamp_directory.new.edits) (g.E.Blocks.changed c.args.edits.now) (g.E.Blocks.changed c.stamp_directory.new.edits) =
    subst (λ (z : ℤ). IsStepped s v v m tree (with_touched tree dir d z) lists loose (g.E.Blocks.told c.stamp_directory.new.edits) (g.E.Blocks.changed c.args.edits.now) (g.E.Blocks.changed c.stamp_directory.new.edits)) e
    (c.in-Ok.ensures.stamped v m tree lists loose d told work there dir_kind) in
    let two : IsStepped s v v one.map (with_touched tree dir d stamp) (with_touched (with_touched tree dir d stamp) to_dir x.0 stamp) lists loose (g.E.Blocks.told c.stamp_directory-2.new.edits) (g.E.Blocks.changed c.stamp_directory.new.edits) (g.E.Blocks.changed c.stamp_directory-2.new.edits) =
    subst (λ (z : ℤ). IsStepped s v v one.map (with_touched tree dir d stamp) (with_touched (with_touched tree dir d stamp) to_dir x.0 z) lists loose (g.E.Blocks.told c.stamp_directory-2.new.edits) (g.E.Blocks.changed c.stamp_directory.new.edits) (g.E.Blocks.changed c.stamp_directory-2.new.edits)) e
    (c.in-Ok-stamp_directory.ensures.stamped v one.map (with_touched tree dir d stamp) lists loose x.0 one.is one.work x.1 x.2) in
    subst (λ (after : Tree). IsStepped s v v m tree after lists loose (g.E.Blocks.told c.stamp_directory-2.new.edits) (g.E.Blocks.changed c.args.edits.now) (g.E.Blocks.changed c.stamp_directory-2.new.edits))
    (both_is tree dir to_dir stamp d t there dir_kind to_there to_kind x.0 x.1)
    (stepped_twice s v v v m tree (with_touched tree dir d stamp) (with_touched (with_touched tree dir d stamp) to_dir x.0 stamp) lists lists loose loose
    (g.E.Blocks.told c.stamp_directory.new.edits) (g.E.Blocks.told c.stamp_directory-2.new.edits) (g.E.Blocks.changed c.args.edits.now) (g.E.Blocks.changed c.stamp_directory.new.edits) (g.E.Blocks.changed c.stamp_directory-2.new.edits) one two)
