use Rattle.std.proofs.Common.{rules, ◌≡◌, ◌∙◌, ℕ, ℤ, List, true, length, sym, subst, w64, to_z, of_z}
use Rattle.std.specs.Prelude.{IfOk, IfErr, Result, Ok, Err}
use Rattle.std.proofs.lemmas.Result.{IfOk-weaker}
use Rattle.bfs_super.specs.Geometry.{geometry_of}
use Rattle.bfs_bitmap.specs.Runs.{Room}
use Rattle.bfs_txn.specs.Changed.{over}
use Rattle.bfs_tree.specs.declared.reply.Reply.{Reply}
use Rattle.bfs_tree.specs.Steps.{is_done}
use Rattle.bfs_look.specs.Ready.{IsReady, HasReady}
use Rattle.bfs_replies.specs.Replaced.{FindsPlace}
use Rattle.bfs_replies.specs.declared.replying.NoReply.{NoReply}
use Rattle.bfs_replies.specs.Replies.{HasReplyCause, IsNoReply, IsReplied, reply_to}
use Rattle.bfs_replies.proofs.Replaced.{step_not_done}
use Rattle.bfs_replies.proofs.Turned.{away, reply_earlier, step_answered, step_outside, that_ok}
use Rattle.bfs_replies.proofs.replying.reply_counted.Goals as goal

-- what holds anyway, holds where a reply says that the call was done
always : (result : Result Reply NoReply) (P : Type 0) → P → IfOk result (λ r. is_done r ≡ true → P)
always (Ok r) P p = λ done. p
always (Err e) P p = tt

pub returns-in-Err-clause-replied : goal.returns-in-Err-clause-replied
returns-in-Err-clause-replied g c = λ m tree lists told ready.
    let s = geometry_of c.args.sup.now in
    that_ok (reply_to c.in-Err.fault) (IsReplied s c.args.bitmap.now c.takes_place.new.bitmap m c.args.group.now c.takes_place.new.group tree c.args.holds.now (c.args.idle ≡ true) c.args.stamp c.args.call.now) c.reply_to_step.result c.reply_to_step.ensures
    (λ r is. away s c.args.bitmap.now c.takes_place.new.bitmap m c.args.group.now c.takes_place.new.group tree c.args.holds.now (c.args.idle ≡ true) c.args.stamp c.args.call.now r c.in-Err.ensures.bitmap c.in-Err.ensures.group
    (step_outside s c.args.bitmap.now (over c.args.group.now m) tree c.args.holds.now (c.args.idle ≡ true) c.args.call.now c.in-Err.fault r is (c.in-Err.ensures.unanswered m tree lists told ready)))

pub returns-in-Err-clause-cause : goal.returns-in-Err-clause-cause
returns-in-Err-clause-cause g c = λ stop.
    let a = g.B.Blocks.counts c.args.under.now in
    let b = g.B.Blocks.counts c.takes_place.new.under in
    that_ok (reply_to c.in-Err.fault) (HasReplyCause a b stop) c.reply_to_step.result c.reply_to_step.ensures (λ r is. step_answered a b stop c.in-Err.fault r is c.in-Err.ensures.cause)

pub reply_call-requires-clause-ready : goal.reply_call-requires-clause-ready
reply_call-requires-clause-ready g c = λ m told.
    subst (λ (x : Room). HasReady (geometry_of c.args.sup.now) x (over c.takes_place.new.group m)) (sym c.in-Ok.ensures.bitmap)
    (subst (λ (ps : List (ℕ × List ℕ)). HasReady (geometry_of c.args.sup.now) c.args.bitmap.now (over ps m)) (sym c.in-Ok.ensures.group) (c.requires.ready m (sym c.in-Ok.ensures.told ∙ told)))

pub returns-in-Ok-clause-replied : goal.returns-in-Ok-clause-replied
returns-in-Ok-clause-replied g c = λ m tree lists told ready.
    let s = geometry_of c.args.sup.now in
    let same : to_z w64 (of_z w64 c.args.stamp) ≡ c.args.stamp = search rules in
    let there : IsReady s c.takes_place.new.bitmap (over c.takes_place.new.group m) tree lists =
    subst (λ (x : Room). IsReady s x (over c.takes_place.new.group m) tree lists) (sym c.in-Ok.ensures.bitmap) (subst (λ (ps : List (ℕ × List ℕ)). IsReady s c.args.bitmap.now (over ps m) tree lists) (sym c.in-Ok.ensures.group) ready) in
    subst (λ (z : ℤ). IfOk c.reply_call.result (IsReplied s c.args.bitmap.now c.reply_call.new.bitmap m c.args.group.now c.reply_call.new.group tree c.args.holds.now (c.args.idle ≡ true) z c.args.call.now)) same
    (subst (λ (ps : List (ℕ × List ℕ)). IfOk c.reply_call.result (IsReplied s c.args.bitmap.now c.reply_call.new.bitmap m ps c.reply_call.new.group tree c.args.holds.now (c.args.idle ≡ true) (to_z w64 (of_z w64 c.args.stamp)) c.args.call.now)) c.in-Ok.ensures.group
    (subst (λ (x : Room). IfOk c.reply_call.result (IsReplied s x c.reply_call.new.bitmap m c.takes_place.new.group c.reply_call.new.group tree c.args.holds.now (c.args.idle ≡ true) (to_z w64 (of_z w64 c.args.stamp)) c.args.call.now)) c.in-Ok.ensures.bitmap
    (c.reply_call.ensures.replied m tree lists (c.in-Ok.ensures.told ∙ told) there)))

pub returns-in-Ok-clause-put_off : goal.returns-in-Ok-clause-put_off
returns-in-Ok-clause-put_off g c = λ m tree lists told ready.
    let s = geometry_of c.args.sup.now in
    let there : IsReady s c.takes_place.new.bitmap (over c.takes_place.new.group m) tree lists =
    subst (λ (x : Room). IsReady s x (over c.takes_place.new.group m) tree lists) (sym c.in-Ok.ensures.bitmap) (subst (λ (ps : List (ℕ × List ℕ)). IsReady s c.args.bitmap.now (over ps m) tree lists) (sym c.in-Ok.ensures.group) ready) in
    subst (λ (ps : List (ℕ × List ℕ)). IfErr c.reply_call.result (IsNoReply s c.args.bitmap.now (over ps m) (length ps) tree c.args.holds.now (c.args.idle ≡ true) c.args.call.now)) c.in-Ok.ensures.group
    (subst (λ (x : Room). IfErr c.reply_call.result (IsNoReply s x (over c.takes_place.new.group m) (length c.takes_place.new.group) tree c.args.holds.now (c.args.idle ≡ true) c.args.call.now)) c.in-Ok.ensures.bitmap
    (c.reply_call.ensures.put_off m tree lists (c.in-Ok.ensures.told ∙ told) there))

pub returns-in-Ok-clause-cause : goal.returns-in-Ok-clause-cause
returns-in-Ok-clause-cause g c = λ stop.
    IfOk-weaker c.reply_call.result (HasReplyCause (g.B.Blocks.counts c.takes_place.new.under) (g.B.Blocks.counts c.reply_call.new.under) stop) (HasReplyCause (g.B.Blocks.counts c.args.under.now) (g.B.Blocks.counts c.reply_call.new.under) stop)
    (λ r cause. reply_earlier (g.B.Blocks.counts c.args.under.now) (g.B.Blocks.counts c.takes_place.new.under) (g.B.Blocks.counts c.reply_call.new.under) stop r c.in-Ok.ensures.later cause) (c.reply_call.ensures.cause stop)

pub returns-in-Ok-clause-found : goal.returns-in-Ok-clause-found
returns-in-Ok-clause-found g c = λ m tree lists told ready. always c.reply_call.result (FindsPlace tree c.args.call.now c.in-Ok.found) (c.in-Ok.ensures.found m tree lists told ready)

pub returns-in-Err-clause-found : goal.returns-in-Err-clause-found
returns-in-Err-clause-found g c = λ m tree lists told ready.
    that_ok (reply_to c.in-Err.fault) (λ r. is_done r ≡ true → FindsPlace tree c.args.call.now c.args.replaced.now) c.reply_to_step.result c.reply_to_step.ensures (λ r is done. absurd (step_not_done c.in-Err.fault r is done))
