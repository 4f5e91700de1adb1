use Rattle.std.proofs.Common.{rules, ◌≡◌, ◌∙◌, ℤ, length, subst, to_z, of_z}
use Rattle.std.specs.Int.{w64}
use Rattle.std.specs.FinMap.{insert}
use Rattle.bfs_super.specs.Geometry.{geometry_of}
use Rattle.bfs_tree.specs.declared.call.Kind.TheVariants.{Link}
use Rattle.bfs_tree.specs.Trees.{new_node}
use Rattle.bfs_shift.specs.Work.{IsStepped}
use Rattle.bfs_moves.proofs.Filed.{link_step}
use Rattle.bfs_moves.proofs.node.make_link.Goals as goal

pub returns-in-Ok-clause-made : goal.returns-in-Ok-clause-made
returns-in-Ok-clause-made g c v m tree lists rest told work absent other =
    let s = c.args.sup.now in
    let e = c.new_inode-new.ensures in
    let told_now = g.E.Blocks.told c.write_link.new.edits in
    let old = g.E.Blocks.changed c.args.edits.now in
    let new = g.E.Blocks.changed c.write_link.new.edits in
    let stamp : to_z w64 (of_z w64 c.args.stamp) ≡ c.args.stamp = search rules in
    subst (λ (z : ℤ). IsStepped (geometry_of s) v v m tree (record tree { nodes = insert tree.nodes c.args.block (new_node Link c.args.name.now c.args.parent c.args.mode (length c.args.target.now) c.args.target.now z) }) lists rest told_now old new) (e.stamp ∙ stamp)
    (link_step s v m tree lists rest c.args.block c.args.parent c.new_inode-new.result c.args.name.now c.args.mode told_now old new c.requires.valid work absent other e.number e.up c.requires.mode e.flags c.write_link.ensures.changed c.write_link.ensures.stays c.in-Ok.ensures.set e.mode c.args.target.now c.requires.target c.requires.no_zero (c.in-Ok.ensures.written m told))
