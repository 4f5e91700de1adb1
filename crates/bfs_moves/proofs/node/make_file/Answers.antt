use Rattle.std.proofs.Common.{rules, ◌≡◌, ◌∙◌, ℤ, [], subst, to_z, of_z}
use Rattle.std.specs.Int.{w64}
use Rattle.std.specs.FinMap.{insert}
use Rattle.bfs_super.specs.Geometry.{geometry_of}
use Rattle.bfs_tree.specs.declared.call.Kind.TheVariants.{File}
use Rattle.bfs_tree.specs.Trees.{new_node}
use Rattle.bfs_shift.specs.Work.{IsStepped}
use Rattle.bfs_moves.proofs.Filed.{file_step}
use Rattle.bfs_moves.proofs.node.make_file.Goals as goal

pub returns-in-Ok-clause-made : goal.returns-in-Ok-clause-made
returns-in-Ok-clause-made g c v m tree lists rest told work absent other =
    let s = c.args.sup.now in
    let e = c.new_inode-new.ensures in
    let told_now = g.E.Blocks.told c.write_empty.new.edits in
    let old = g.E.Blocks.changed c.args.edits.now in
    let new = g.E.Blocks.changed c.write_empty.new.edits in
    let stamp : to_z w64 (of_z w64 c.args.stamp) ≡ c.args.stamp = search rules in
    subst (λ (z : ℤ). IsStepped (geometry_of s) v v m tree (record tree { nodes = insert tree.nodes c.args.block (new_node File c.args.name.now c.args.parent c.args.mode 0 [] z) }) lists rest told_now old new) (e.stamp ∙ stamp)
    (file_step s v m tree lists rest c.args.block c.args.parent c.new_inode-new.result c.args.name.now c.args.mode told_now old new c.requires.valid work absent other e.number e.up c.requires.mode e.flags c.write_empty.ensures.changed c.write_empty.ensures.stays c.in-Ok.ensures.set e.mode (c.in-Ok.ensures.written m told))
