use Rattle.std.proofs.Common.{rules, ◌≡◌, ℤ, [], subst}
use mir.Syntax.{w32, w64}
use mir.Val.{to_z, of_z}
use Rattle.bfs_super.specs.Geometry.{geometry_of}
use Rattle.bfs_shift.specs.Work.{IsStepped}
use Rattle.bfs_moves.specs.Statuses.{with_status}
use Rattle.bfs_calls.proofs.Status.{node_there, set_so}
use Rattle.bfs_calls.proofs.setting.set_mode.Goals as goal

pub returns-in-Ok-clause-done : goal.returns-in-Ok-clause-done
returns-in-Ok-clause-done g c v m tree lists told ready fine =
    let s = geometry_of c.args.sup.now in
    let n = node_there tree c.args.id c.args.mode c.args.uid c.args.gid fine in
    let user : to_z w32 (of_z w32 c.args.uid) ≡ c.args.uid = search rules in
    let group : to_z w32 (of_z w32 c.args.gid) ≡ c.args.gid = search rules in
    let time : to_z w64 (of_z w64 c.args.stamp) ≡ c.args.stamp = search rules in
    set_so s v m tree lists c.args.id c.args.mode c.args.uid c.args.gid c.args.stamp n.0 (g.E.Blocks.told c.set_status.new.edits) (g.E.Blocks.changed c.args.edits.now) (g.E.Blocks.changed c.set_status.new.edits) ready n.1 fine
    (subst (λ (z : ℤ). IsStepped s v v m tree (with_status tree c.args.id (record { mode = c.args.mode; uid = c.args.uid; gid = c.args.gid; stamp = z })) lists [] (g.E.Blocks.told c.set_status.new.edits) (g.E.Blocks.changed c.args.edits.now) (g.E.Blocks.changed c.set_status.new.edits)) time
    (subst (λ (z : ℤ). IsStepped s v v m tree (with_status tree c.args.id (record { mode = c.args.mode; uid = c.args.uid; gid = z; stamp = to_z w64 (of_z w64 c.args.stamp) })) lists [] (g.E.Blocks.told c.set_status.new.edits) (g.E.Blocks.changed c.args.edits.now) (g.E.Blocks.changed c.set_status.new.edits)) group
    (subst (λ (z : ℤ). IsStepped s v v m tree (with_status tree c.args.id (record { mode = c.args.mode; uid = z; gid = to_z w32 (of_z w32 c.args.gid); stamp = to_z w64 (of_z w64 c.args.stamp) })) lists [] (g.E.Blocks.told c.set_status.new.edits) (g.E.Blocks.changed c.args.edits.now) (g.E.Blocks.changed c.set_status.new.edits)) user
    (c.in-Ok.ensures.restated v m tree lists [] n.0 told ready.work n.1))))
