use Rattle.std.proofs.Common.{◌≡◌, ◌∙◌, ℕ, List, true, refl, sym, ap, subst}
use Rattle.bfs_super.specs.Geometry.{geometry_of}
use Rattle.bfs_bitmap.specs.Runs.{Room}
use Rattle.bfs_txn.specs.Changed.{over}
use Rattle.bfs_stream.specs.Grown.{IsOfVolume}
use Rattle.bfs_stream.specs.Sizes.{sizes_of}
use Rattle.bfs_look.specs.Ready.{IsReady}
use Rattle.bfs_replies.specs.declared.replying.NoReply.TheVariants.{NoMemory}
use Rattle.bfs_replies.specs.Replies.{HasReplyCause, IsReplied, reply_to}
use Rattle.bfs_replies.proofs.Turned.{away, step_answered, step_outside, that_err, that_ok}
use Rattle.bfs_replies.proofs.search.reply_search.Goals as goal

pub returns-in-Err-clause-rests_replied : goal.returns-in-Err-clause-rests_replied
returns-in-Err-clause-rests_replied g c = λ m w tree lists idle stamp told ready rests.
    let s = geometry_of c.args.sup.now in
    that_ok (reply_to c.in-Err.fault) (IsReplied s c.args.bitmap.now c.look_call.new.bitmap w c.args.group.now c.look_call.new.group tree c.args.holds.now (idle ≡ true) stamp c.args.call.now) c.reply_to_step.result c.reply_to_step.ensures
    (λ r is. away s c.args.bitmap.now c.look_call.new.bitmap w c.args.group.now c.look_call.new.group tree c.args.holds.now (idle ≡ true) stamp c.args.call.now r c.in-Err.ensures.bitmap c.in-Err.ensures.group
    (step_outside s c.args.bitmap.now (over c.args.group.now w) tree c.args.holds.now (idle ≡ true) c.args.call.now c.in-Err.fault r is (c.in-Err.ensures.rests_unanswered c.args.bitmap.now m w tree lists told ready rests)))

pub returns-in-Err-clause-no_memory : goal.returns-in-Err-clause-no_memory
returns-in-Err-clause-no_memory g c = that_err (reply_to c.in-Err.fault) (λ e. e ≡ NoMemory) c.reply_to_step.result c.reply_to_step.ensures refl

pub returns-in-Err-clause-cause : goal.returns-in-Err-clause-cause
returns-in-Err-clause-cause g c = λ stop.
    let a = g.B.Blocks.counts c.args.under.now in
    let b = g.B.Blocks.counts c.look_call.new.under in
    that_ok (reply_to c.in-Err.fault) (HasReplyCause a b stop) c.reply_to_step.result c.reply_to_step.ensures (λ r is. step_answered a b stop c.in-Err.fault r is c.in-Err.ensures.cause)

pub returns-in-Ok-reply_found-clause-rests_replied : goal.returns-in-Ok-reply_found-clause-rests_replied
returns-in-Ok-reply_found-clause-rests_replied g c = λ m w tree lists idle stamp told ready rests.
    let s = geometry_of c.args.sup.now in
    let there : IsReady s c.look_call.new.bitmap (over c.args.group.now w) tree lists = subst (λ (x : Room). IsReady s x (over c.args.group.now w) tree lists) (sym c.in-Ok.ensures.bitmap) ready in
    let looked = c.in-Ok.ensures.rests c.args.bitmap.now m w tree lists told ready rests in
    subst (λ (ps : List (ℕ × List ℕ)). IsReplied s c.args.bitmap.now c.reply_found.new.bitmap w c.args.group.now ps tree c.args.holds.now (idle ≡ true) stamp c.args.call.now c.in-Ok-reply_found.reply) (sym c.in-Ok.ensures.group)
    (subst (λ (x : Room). IsReplied s x c.reply_found.new.bitmap w c.args.group.now c.args.group.now tree c.args.holds.now (idle ≡ true) stamp c.args.call.now c.in-Ok-reply_found.reply) c.in-Ok.ensures.bitmap
    (c.in-Ok-reply_found.ensures.replied s w c.args.group.now tree lists c.args.holds.now idle stamp c.args.call.now there looked))

pub returns-in-Ok-reply_found-clause-cause : goal.returns-in-Ok-reply_found-clause-cause
returns-in-Ok-reply_found-clause-cause g c = λ stop. c.in-Ok-reply_found.ensures.cause (g.B.Blocks.counts c.args.under.now) (g.B.Blocks.counts c.look_call.new.under) stop

pub returns-in-Ok-reply_found-clause-idle : goal.returns-in-Ok-reply_found-clause-idle
returns-in-Ok-reply_found-clause-idle g c = λ none. (sym c.in-Ok.ensures.group ∙ none, c.reply_found.ensures.used ∙ ap (λ (x : Room). x.tally.used) c.in-Ok.ensures.bitmap)

pub returns-in-Err-reply_found-clause-idle : goal.returns-in-Err-reply_found-clause-idle
returns-in-Err-reply_found-clause-idle g c = λ none. (sym c.in-Ok.ensures.group ∙ none, c.reply_found.ensures.used ∙ ap (λ (x : Room). x.tally.used) c.in-Ok.ensures.bitmap)

pub returns-in-Ok-reply_found-clause-volume : goal.returns-in-Ok-reply_found-clause-volume
returns-in-Ok-reply_found-clause-volume g c = c.reply_found.ensures.volume (sizes_of c.args.sup.now) (subst (IsOfVolume (sizes_of c.args.sup.now)) (sym c.in-Ok.ensures.bitmap) c.requires.volume)

pub returns-in-Err-reply_found-clause-volume : goal.returns-in-Err-reply_found-clause-volume
returns-in-Err-reply_found-clause-volume g c = c.reply_found.ensures.volume (sizes_of c.args.sup.now) (subst (IsOfVolume (sizes_of c.args.sup.now)) (sym c.in-Ok.ensures.bitmap) c.requires.volume)

pub returns-in-Err-reply_found-clause-left : goal.returns-in-Err-reply_found-clause-left
returns-in-Err-reply_found-clause-left g c = (c.in-Ok.ensures.group, c.in-Err-reply_found.ensures.left ∙ c.in-Ok.ensures.bitmap)
