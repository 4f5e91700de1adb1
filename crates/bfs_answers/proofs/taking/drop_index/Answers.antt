use Rattle.std.proofs.Common.{[], refl}
use Rattle.std.specs.FinMap.{empty}
use Rattle.bfs_super.specs.Geometry.{geometry_of}
use Rattle.bfs_tree.specs.declared.call.Call.TheVariants.{IndexRemove}
use Rattle.bfs_tree.specs.declared.reply.Reply.TheVariants.{Done}
use Rattle.bfs_calls.proofs.Faulting.{undone_unanswered}
use Rattle.bfs_answers.proofs.Left.{left_is_answered}
use Rattle.bfs_answers.proofs.Gone.{own_index, unindexed_answers}
use Rattle.bfs_answers.proofs.taking.drop_index.Goals as goal

pub remove_index-requires-clause-there : goal.remove_index-requires-clause-there
remove_index-requires-clause-there g c m tree lists told ready =
    own_index (record { tree = tree; holds = []; known = empty }) c.args.name.now (c.requires.fine m tree lists (record { tree = tree; holds = []; known = empty }) told ready refl)

pub returns-in-Ok-clause-answered : goal.returns-in-Ok-clause-answered
returns-in-Ok-clause-answered g c m tree lists holds stamp told ready =
    let v = geometry_of c.args.sup.now in
    let n = c.remove_index.new in
    let so = c.in-Ok.ensures.removed m tree lists told ready in
    left_is_answered v c.args.bitmap.now n.bitmap m tree so.after lists so.lists holds stamp (IndexRemove c.args.name.now) Done (g.E.Blocks.told n.edits) (g.E.Blocks.changed c.args.edits.now) (g.E.Blocks.changed n.edits)
    ready c.requires.settled so.left so.agrees so.root
    (unindexed_answers tree so.after holds c.args.name.now stamp (λ s same. c.requires.fine m tree lists s told ready same) so.follows)

pub returns-in-Err-clause-unanswered : goal.returns-in-Err-clause-unanswered
returns-in-Err-clause-unanswered g c m tree lists told ready = undone_unanswered c.in-Err.fault (c.in-Err.ensures.undone m tree lists told ready)
