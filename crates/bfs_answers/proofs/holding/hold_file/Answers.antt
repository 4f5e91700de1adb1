use Rattle.std.proofs.Common.{rules, ◌≡◌, ℤ, Bool, None, refl, subst, w64, to_z, of_z}
use Rattle.std.specs.FinMap.{empty}
use Rattle.bfs_super.specs.Geometry.{geometry_of}
use Rattle.bfs_tree.specs.declared.call.Call.TheVariants as calls
use Rattle.bfs_tree.specs.declared.reply.Reply.TheVariants as replies
use Rattle.bfs_tree.specs.Refusals.{own_refusal}
use Rattle.bfs_tree.specs.States.{State}
use Rattle.bfs_hold.specs.Held.{IsHeldSo}
use Rattle.bfs_answers.proofs.Done.{read_is_answered}
use Rattle.bfs_answers.proofs.Grants.{held_is_answered, reads_held}
use Rattle.bfs_answers.proofs.holding.hold_file.Goals as goal

pub returns-then-not-write-clause-answered : goal.returns-then-not-write-clause-answered
returns-then-not-write-clause-answered g c m tree lists told ready =
    read_is_answered (geometry_of c.args.sup.now) c.args.bitmap.now m tree c.args.holds.now lists (g.E.Blocks.told c.args.edits.now) (g.E.Blocks.changed c.args.edits.now) c.args.stamp (calls.Hold c.args.id c.args.at c.args.length c.args.write) replies.Done ready told
    (reads_held tree c.args.holds.now c.args.id c.args.at c.args.length c.args.write c.if-not-write.true (λ s same held. c.requires.fine m tree lists s told ready same held) c.args.stamp)

pub hold_to_write-requires-clause-fine : goal.hold_to_write-requires-clause-fine
hold_to_write-requires-clause-fine g c m tree lists told ready =
    let st : State = record { tree = tree; holds = c.args.holds.now; known = empty } in
    let fine = subst (λ (w : Bool). own_refusal (calls.Hold c.args.id c.args.at c.args.length w) st ≡ None) c.if-not-write.false (c.requires.fine m tree lists st told ready refl refl) in
    (c.args.at, c.args.length, (st, refl, fine))

pub returns-in-Ok-clause-answered : goal.returns-in-Ok-clause-answered
returns-in-Ok-clause-answered g c m tree lists told ready =
    let v = geometry_of c.args.sup.now in
    let n = c.hold_to_write.new in
    let e : to_z w64 (of_z w64 c.args.stamp) ≡ c.args.stamp = search rules in
    let so : IsHeldSo v c.args.bitmap.now n.bitmap m tree c.args.id c.args.stamp (g.E.Blocks.told n.edits) (g.E.Blocks.changed c.args.edits.now) (g.E.Blocks.changed n.edits) =
    subst (λ (z : ℤ). IsHeldSo v c.args.bitmap.now n.bitmap m tree c.args.id z (g.E.Blocks.told n.edits) (g.E.Blocks.changed c.args.edits.now) (g.E.Blocks.changed n.edits)) e
    (c.in-Ok.ensures.done m tree lists told ready) in
    held_is_answered tree c.args.holds.now c.args.id c.args.at c.args.length v c.args.bitmap.now n.bitmap m lists c.args.stamp c.args.write (g.E.Blocks.told n.edits) (g.E.Blocks.changed c.args.edits.now) (g.E.Blocks.changed n.edits) ready c.if-not-write.false
    (λ s same held. c.requires.fine m tree lists s told ready same held) so
