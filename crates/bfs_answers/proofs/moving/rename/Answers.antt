use Rattle.std.proofs.Common.{rules, ◌≡◌, ℤ, refl, subst, w64, to_z, of_z}
use Rattle.std.specs.FinMap.{empty}
use Rattle.bfs_super.specs.Geometry.{geometry_of}
use Rattle.bfs_tree.specs.declared.call.Call.TheVariants.{Rename}
use Rattle.bfs_tree.specs.declared.reply.Reply.TheVariants.{Done}
use Rattle.bfs_rename.specs.Done.{IsRenamedIn}
use Rattle.bfs_rename.proofs.Renaming.{may_be}
use Rattle.bfs_answers.proofs.Left.{left_is_answered}
use Rattle.bfs_answers.proofs.Gone.{renamed_answers}
use Rattle.bfs_answers.proofs.moving.rename.Goals as goal

pub rename_node-requires-clause-may : goal.rename_node-requires-clause-may
rename_node-requires-clause-may g c m tree lists told ready =
    may_be (record { tree = tree; holds = c.args.holds.now; known = empty }) c.args.dir c.args.name.now c.args.to_dir c.args.to_name.now
    (c.requires.fine m tree lists (record { tree = tree; holds = c.args.holds.now; known = empty }) told ready refl refl)

pub returns-in-Ok-clause-answered : goal.returns-in-Ok-clause-answered
returns-in-Ok-clause-answered g c m tree lists told ready =
    let v = geometry_of c.args.sup.now in
    let n = c.rename_node.new in
    let e : to_z w64 (of_z w64 c.args.stamp) ≡ c.args.stamp = search rules in
    let so : IsRenamedIn v c.args.bitmap.now n.bitmap m tree c.args.dir c.args.name.now c.args.to_dir c.args.to_name.now c.args.stamp (g.E.Blocks.told n.edits) (g.E.Blocks.changed c.args.edits.now) (g.E.Blocks.changed n.edits) =
    subst (λ (z : ℤ). IsRenamedIn v c.args.bitmap.now n.bitmap m tree c.args.dir c.args.name.now c.args.to_dir c.args.to_name.now z (g.E.Blocks.told n.edits) (g.E.Blocks.changed c.args.edits.now) (g.E.Blocks.changed n.edits)) e (c.in-Ok.ensures.renamed m tree lists told ready) in
    left_is_answered v c.args.bitmap.now n.bitmap m tree so.after lists so.lists c.args.holds.now c.args.stamp (Rename c.args.dir c.args.name.now c.args.to_dir c.args.to_name.now) Done (g.E.Blocks.told n.edits) (g.E.Blocks.changed c.args.edits.now) (g.E.Blocks.changed n.edits)
    ready c.requires.settled so.left so.agrees so.root
    (renamed_answers tree so.after c.args.holds.now c.args.dir c.args.name.now c.args.to_dir c.args.to_name.now c.args.stamp (λ s same held. c.requires.fine m tree lists s told ready same held) so.follows)
