use Rattle.std.proofs.Common.{[], refl}
use Rattle.std.specs.FinMap.{empty}
use Rattle.bfs_super.specs.Geometry.{geometry_of}
use Rattle.bfs_tree.specs.declared.call.Call.TheVariants.{IndexMake}
use Rattle.bfs_tree.specs.declared.reply.Reply.TheVariants.{Done}
use Rattle.bfs_tree.specs.States.{State}
use Rattle.bfs_index_make.proofs.RemoveIndexWhole.{rest_more, kept_still}
use Rattle.bfs_index_make.proofs.Refusing.{new_index}
use Rattle.bfs_answers.proofs.Done.{done_is_answered}
use Rattle.bfs_answers.proofs.Indexed.{indexed_so}
use Rattle.bfs_answers.proofs.indexing.build_index.Goals as goal

pub make_index-requires-clause-fresh : goal.make_index-requires-clause-fresh
make_index-requires-clause-fresh g c m tree lists told ready =
    let st : State = record { tree = tree; holds = []; known = empty } in
    new_index st c.args.name.now c.args.kind ready.plain.indices (c.requires.fine m tree lists st told ready refl)

pub returns-in-Ok-clause-answered : goal.returns-in-Ok-clause-answered
returns-in-Ok-clause-answered g c m tree lists holds told ready =
    let v = geometry_of c.args.sup.now in
    let n = c.make_index.new in
    let name = c.args.name.now in
    let kind = c.args.kind in
    let told_now = g.E.Blocks.told n.edits in
    let old = g.E.Blocks.changed c.args.edits.now in
    let new = g.E.Blocks.changed n.edits in
    done_is_answered v c.args.bitmap.now n.bitmap m tree lists told_now old new ready holds c.args.stamp (IndexMake name kind) Done
    (indexed_so v c.args.bitmap.now n.bitmap m tree name kind c.args.stamp told_now old new (λ s same. c.requires.fine m tree lists s told ready same) (c.in-Ok.ensures.made m tree lists told ready))

pub returns-in-Ok-clause-rest : goal.returns-in-Ok-clause-rest
returns-in-Ok-clause-rest g c = rest_more c.args.bitmap.now c.make_index.new.bitmap c.in-Ok.ensures.rest

pub returns-in-Ok-clause-kept : goal.returns-in-Ok-clause-kept
returns-in-Ok-clause-kept g c = kept_still c.args.bitmap.now c.make_index.new.bitmap c.in-Ok.ensures.rest
