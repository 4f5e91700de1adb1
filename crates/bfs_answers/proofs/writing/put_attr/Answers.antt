use Rattle.std.proofs.Common.{rules, ◌≡◌, ℤ, [], refl, subst, w64, to_z, of_z}
use Rattle.std.specs.FinMap.{empty}
use Rattle.bfs_super.specs.Geometry.{geometry_of}
use Rattle.bfs_tree.specs.declared.call.Call.TheVariants.{AttrWrite}
use Rattle.bfs_tree.specs.declared.reply.Reply.TheVariants.{Done}
use Rattle.bfs_index_make.specs.Written.{IsAttributeWritten}
use Rattle.bfs_answers.proofs.Left.{left_is_answered}
use Rattle.bfs_answers.proofs.Put.{own_written, written_answers}
use Rattle.bfs_answers.proofs.writing.put_attr.Goals as goal

pub write_attr-requires-clause-there : goal.write_attr-requires-clause-there
write_attr-requires-clause-there g c m tree lists told ready =
    own_written (record { tree = tree; holds = []; known = empty }) c.args.id c.args.name.now c.args.kind c.args.bytes.now (c.requires.fine m tree lists (record { tree = tree; holds = []; known = empty }) told ready refl)

pub returns-in-Ok-clause-answered : goal.returns-in-Ok-clause-answered
returns-in-Ok-clause-answered g c m tree lists holds told ready =
    let v = geometry_of c.args.sup.now in
    let n = c.write_attr.new in
    let id = c.args.id in
    let name = c.args.name.now in
    let kind = c.args.kind in
    let bytes = c.args.bytes.now in
    let e : to_z w64 (of_z w64 c.args.stamp) ≡ c.args.stamp = search rules in
    let so : IsAttributeWritten v c.args.bitmap.now n.bitmap m tree id name (record { code = kind; bytes = bytes }) c.args.stamp (g.E.Blocks.told n.edits) (g.E.Blocks.changed c.args.edits.now) (g.E.Blocks.changed n.edits) =
    subst (λ (z : ℤ). IsAttributeWritten v c.args.bitmap.now n.bitmap m tree id name (record { code = kind; bytes = bytes }) z (g.E.Blocks.told n.edits) (g.E.Blocks.changed c.args.edits.now) (g.E.Blocks.changed n.edits)) e (c.in-Ok.ensures.written m tree lists told ready) in
    left_is_answered v c.args.bitmap.now n.bitmap m tree so.after lists so.lists holds c.args.stamp (AttrWrite id name kind bytes) Done (g.E.Blocks.told n.edits) (g.E.Blocks.changed c.args.edits.now) (g.E.Blocks.changed n.edits)
    ready c.requires.settled so.left so.agrees so.root
    (written_answers tree so.after holds id name kind bytes c.args.stamp (λ s same. c.requires.fine m tree lists s told ready same) so.follows)

pub returns-in-Err-clause-unanswered : goal.returns-in-Err-clause-unanswered
returns-in-Err-clause-unanswered g c m tree lists told ready = c.in-Err.ensures.unanswered m tree lists told ready
