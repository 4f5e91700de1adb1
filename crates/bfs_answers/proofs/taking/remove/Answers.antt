use Rattle.std.proofs.Common.{rules, ◌≡◌, ℤ, refl, subst, w64, to_z, of_z}
use Rattle.std.specs.FinMap.{empty}
use Rattle.bfs_super.specs.Geometry.{geometry_of}
use Rattle.bfs_tree.specs.declared.call.Call.TheVariants.{Remove}
use Rattle.bfs_tree.specs.declared.reply.Reply.TheVariants.{Done}
use Rattle.bfs_calls.proofs.Faulting.{undone_unanswered}
use Rattle.bfs_rename.specs.Removed.{IsRemovedIn}
use Rattle.bfs_rename.proofs.Refusing.{may_be}
use Rattle.bfs_answers.proofs.Left.{left_is_answered}
use Rattle.bfs_answers.proofs.Gone.{removed_answers}
use Rattle.bfs_answers.proofs.taking.remove.Goals as goal

pub remove_node-requires-clause-may : goal.remove_node-requires-clause-may
remove_node-requires-clause-may g c m tree lists told ready =
    may_be (record { tree = tree; holds = c.args.holds.now; known = empty }) c.args.dir c.args.name.now (c.requires.fine m tree lists (record { tree = tree; holds = c.args.holds.now; known = empty }) told ready refl refl)

pub returns-in-Ok-clause-answered : goal.returns-in-Ok-clause-answered
returns-in-Ok-clause-answered g c m tree lists told ready =
    let v = geometry_of c.args.sup.now in
    let n = c.remove_node.new in
    let e : to_z w64 (of_z w64 c.args.stamp) ≡ c.args.stamp = search rules in
    let so : IsRemovedIn v c.args.bitmap.now n.bitmap m tree c.args.dir c.args.name.now c.args.stamp (g.E.Blocks.told n.edits) (g.E.Blocks.changed c.args.edits.now) (g.E.Blocks.changed n.edits) =
    subst (λ (z : ℤ). IsRemovedIn v c.args.bitmap.now n.bitmap m tree c.args.dir c.args.name.now z (g.E.Blocks.told n.edits) (g.E.Blocks.changed c.args.edits.now) (g.E.Blocks.changed n.edits)) e (c.in-Ok.ensures.removed m tree lists told ready) in
    left_is_answered v c.args.bitmap.now n.bitmap m tree so.after lists so.lists c.args.holds.now c.args.stamp (Remove c.args.dir c.args.name.now) Done (g.E.Blocks.told n.edits) (g.E.Blocks.changed c.args.edits.now) (g.E.Blocks.changed n.edits)
    ready c.requires.settled so.left so.agrees so.root
    (removed_answers tree so.after c.args.holds.now c.args.dir c.args.name.now c.args.stamp (λ s same held. c.requires.fine m tree lists s told ready same held) so.follows)

pub returns-in-Err-clause-unanswered : goal.returns-in-Err-clause-unanswered
returns-in-Err-clause-unanswered g c m tree lists told ready = undone_unanswered c.in-Err.fault (c.in-Err.ensures.undone m tree lists told ready)
