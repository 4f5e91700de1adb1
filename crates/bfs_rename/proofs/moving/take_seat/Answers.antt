use Rattle.std.proofs.Common.{rules, ◌≡◌, ℤ, [], ap, subst}
use mir.Syntax.{w64}
use mir.Val.{to_z, of_z}
use Rattle.bfs_super.specs.Geometry.{geometry_of}
use Rattle.bfs_tree.specs.Trees.{Node, Nodes, Tree}
use Rattle.bfs_shift.specs.TreeLaws.{moved_node}
use Rattle.bfs_shift.specs.Work.{IsStepped}
use Rattle.bfs_shift.proofs.Made.{put_here}
use Rattle.bfs_give_name.proofs.AttrCallsWhole.{put_again}
use Rattle.bfs_moves.proofs.Stepping.{stepped_twice}
use Rattle.bfs_give_name.specs.Named.{with_name}
use Rattle.bfs_rename.specs.Moved.{with_seat}
use Rattle.bfs_rename.specs.Sited.{with_parent}
use Rattle.bfs_rename.proofs.moving.take_seat.Goals as goal

pub returns-in-Ok-place_node-clause-seated : goal.returns-in-Ok-place_node-clause-seated
returns-in-Ok-place_node-clause-seated g c m tree lists n told work is apart =
    let s = geometry_of c.args.sup.now in
    let id = c.args.id in
    let name = c.args.to_name.now in
    let stamp = c.args.stamp in
    let e : to_z w64 (of_z w64 c.args.stamp) ≡ c.args.stamp = search rules in
    let one = c.in-Ok.ensures.named m tree lists n told work is apart in
    let x : Node = record n { name = name } in
    let mid = with_name tree id n name in
    let v1 = c.give_name.new.bitmap in
    let t2 = g.E.Blocks.told c.place_node.new.edits in
    let c1 = g.E.Blocks.changed c.give_name.new.edits in
    let c2 = g.E.Blocks.changed c.place_node.new.edits in
    let two : IsStepped s v1 v1 one.map mid (with_parent mid id x c.args.to_dir stamp) lists [] t2 c1 c2 =
    subst (λ (z : ℤ). IsStepped s v1 v1 one.map mid (with_parent mid id x c.args.to_dir z) lists [] t2 c1 c2) e
    (c.in-Ok-place_node.ensures.placed v1 one.map mid lists [] x one.is one.work (put_here tree.nodes id x) apart) in
    let same : with_parent mid id x c.args.to_dir stamp ≡ with_seat tree id n c.args.to_dir name stamp = ap (λ (ns : Nodes). record tree { nodes = ns }) (put_again tree.nodes id x (moved_node c.args.to_dir name stamp n)) in
    subst (λ (after : Tree). IsStepped s c.args.bitmap.now v1 m tree after lists [] t2 (g.E.Blocks.changed c.args.edits.now) c2) same
    (stepped_twice s c.args.bitmap.now v1 v1 m tree mid (with_parent mid id x c.args.to_dir stamp) lists lists [] [] (g.E.Blocks.told c.give_name.new.edits) t2 (g.E.Blocks.changed c.args.edits.now) c1 c2 one two)
