use Rattle.std.proofs.Common.{rules, ◌≡◌, ◌∙◌, ℤ, length, subst, to_z, of_z}
use Rattle.std.specs.Int.{w64}
use Rattle.std.specs.FinMap.{insert}
use Rattle.bfs_super.specs.Geometry.{geometry_of}
use Rattle.bfs_tree.specs.declared.call.Kind.TheVariants.{Link}
use Rattle.bfs_tree.specs.Trees.{new_node}
use Rattle.bfs_shift.specs.Work.{IsStepped}
use Rattle.bfs_moves.proofs.Housed.{long_link_step}
use Rattle.bfs_moves.proofs.grown.make_long_link.Goals as goal

pub returns-in-Ok-clause-made : goal.returns-in-Ok-clause-made
returns-in-Ok-clause-made g c m tree lists rest told work absent other =
    let s = c.args.sup.now in
    let v = c.args.bitmap.now in
    let now = c.write_grown.new.bitmap in
    let id = c.args.block in
    let parent = c.args.parent in
    let target = c.args.target.now in
    let e = c.new_inode-new.ensures in
    let told_now = g.E.Blocks.told c.write_grown.new.edits in
    let old = g.E.Blocks.changed c.args.edits.now in
    let new = g.E.Blocks.changed c.write_grown.new.edits in
    let stamp : to_z w64 (of_z w64 c.args.stamp) ≡ c.args.stamp = search rules in
    subst (λ (z : ℤ). IsStepped (geometry_of s) v now m tree (record tree { nodes = insert tree.nodes id (new_node Link c.args.name.now parent c.args.mode (length target) target z) }) lists rest told_now old new) (e.stamp ∙ stamp)
    (long_link_step s v now m tree lists rest id parent c.new_inode-new.result c.args.name.now target c.args.mode told_now old new absent other e.number e.up c.requires.mode
    (c.in-Ok.ensures.grown m tree lists rest told work) e.mode e.flags)

pub returns-in-Err-clause-sound : goal.returns-in-Err-clause-sound
returns-in-Err-clause-sound g c m tree lists rest told work absent other = c.in-Err.ensures.sound m tree lists rest told work
