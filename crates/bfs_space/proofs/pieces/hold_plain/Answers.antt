use Rattle.std.proofs.Common.{rules, ◌≡◌, ◌∙◌, ℤ, true, sym, ap, subst, w64, to_z, of_z}
use Rattle.bfs_super.specs.Geometry.{geometry_of}
use Rattle.bfs_tree.specs.declared.call.Call.{Call}
use Rattle.bfs_tree.specs.declared.reply.Reply.{Reply}
use Rattle.bfs_tree.specs.Steps.{is_done}
use Rattle.bfs_replies.specs.Replies.{HasReplyCause, IsReplied}
use Rattle.bfs_space.proofs.Plain.{done_plain, plain_caused, plain_done, plain_same}
use Rattle.bfs_space.proofs.pieces.hold_plain.Goals as goal

pub hold_piece-requires-clause-ready : goal.hold_piece-requires-clause-ready
hold_piece-requires-clause-ready g c = c.requires.ready

pub hold_piece-requires-clause-empty : goal.hold_piece-requires-clause-empty
hold_piece-requires-clause-empty g c = c.requires.empty

pub returns-in-Ok-clause-replied : goal.returns-in-Ok-clause-replied
returns-in-Ok-clause-replied g c = λ m tree lists told ready.
    let s = geometry_of c.args.sup.now in
    let p = c.args.piece in
    let equal : to_z w64 (of_z w64 c.args.stamp) ≡ c.args.stamp = search rules in
    let was : IsReplied s c.args.bitmap.now c.hold_piece.new.bitmap m c.args.group.now c.hold_piece.new.group tree c.args.holds.now (c.args.idle ≡ true) c.args.stamp c.args.call.now c.in-Ok.reply =
    subst (λ (z : ℤ). IsReplied s c.args.bitmap.now c.hold_piece.new.bitmap m c.args.group.now c.hold_piece.new.group tree c.args.holds.now (c.args.idle ≡ true) z c.args.call.now c.in-Ok.reply) equal (c.in-Ok.ensures.replied m tree lists told ready) in
    let same = plain_same s c.args.bitmap.now c.hold_piece.new.bitmap m c.args.group.now c.hold_piece.new.group tree c.args.holds.now (c.args.idle ≡ true) c.args.stamp p.id p.at p.length p.id p.write c.in-Ok.reply
    (subst (λ (k : Call). IsReplied s c.args.bitmap.now c.hold_piece.new.bitmap m c.args.group.now c.hold_piece.new.group tree c.args.holds.now (c.args.idle ≡ true) c.args.stamp k c.in-Ok.reply) c.requires.call was) in
    subst (λ (r : Reply). IsReplied s c.args.bitmap.now c.hold_piece.new.bitmap m c.args.group.now c.hold_piece.new.group tree c.args.holds.now (c.args.idle ≡ true) c.args.stamp c.args.call.now r) (sym (c.plain_reply.ensures ∙ same)) was

pub returns-in-Ok-clause-places : goal.returns-in-Ok-clause-places
returns-in-Ok-clause-places g c = λ done. c.in-Ok.ensures.places (done_plain c.args.piece.id c.in-Ok.reply (sym c.plain_reply.ensures ∙ done))

pub returns-in-Ok-clause-piece : goal.returns-in-Ok-clause-piece
returns-in-Ok-clause-piece g c = λ m tree lists told ready done. c.in-Ok.ensures.piece m tree lists told ready (done_plain c.args.piece.id c.in-Ok.reply (sym c.plain_reply.ensures ∙ done))

pub returns-in-Ok-clause-plain : goal.returns-in-Ok-clause-plain
returns-in-Ok-clause-plain g c = λ done. c.plain_reply.ensures ∙ plain_done c.args.piece.id c.in-Ok.reply (ap is_done (sym c.plain_reply.ensures) ∙ done)

pub returns-in-Ok-clause-cause : goal.returns-in-Ok-clause-cause
returns-in-Ok-clause-cause g c = λ stop.
    let a = g.B.Blocks.counts c.args.under.now in
    let b = g.B.Blocks.counts c.hold_piece.new.under in
    subst (HasReplyCause a b stop) (sym c.plain_reply.ensures) (plain_caused a b stop c.args.piece.id c.in-Ok.reply (c.in-Ok.ensures.cause stop))

pub returns-in-Err-clause-put_off : goal.returns-in-Err-clause-put_off
returns-in-Err-clause-put_off g c = λ m tree lists told ready. c.in-Err.ensures.put_off m tree lists told ready
