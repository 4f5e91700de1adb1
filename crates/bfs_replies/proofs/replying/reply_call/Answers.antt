use Rattle.std.proofs.Common.{rules, ◌≡◌, ◌∙◌, ℕ, ℤ, List, true, length, sym, subst, w64, to_z, of_z}
use Rattle.std.specs.Prelude.{IfOk, IfErr}
use Rattle.std.proofs.lemmas.Result.{IfOk-weaker}
use Rattle.bfs_super.specs.Geometry.{geometry_of}
use Rattle.bfs_bitmap.specs.Runs.{Room}
use Rattle.bfs_txn.specs.Changed.{over}
use Rattle.bfs_look.specs.Ready.{IsReady, HasReady}
use Rattle.bfs_answers.specs.Looks.{IsLooked}
use Rattle.bfs_replies.specs.Replies.{HasReplyCause, IsNoReply, IsReplied, reply_to}
use Rattle.bfs_answers.proofs.Searching.{may_see}
use Rattle.bfs_replies.proofs.Sees.{over_told}
use Rattle.bfs_replies.proofs.Turned.{away, reply_earlier, step_answered, step_outside, that_ok}
use Rattle.bfs_replies.proofs.replying.reply_call.Goals as goal

pub look_call-requires-clause-ready : goal.look_call-requires-clause-ready
look_call-requires-clause-ready g c = λ m told.
    may_see (geometry_of c.args.sup.now) c.args.bitmap.now (over c.args.group.now m)
    (over_told c.args.sup.now (g.B.Blocks.size c.args.under.now) (g.B.Blocks.told c.args.under.now) c.args.group.now m c.requires.group c.requires.size (g.met.B.Blocks.sized c.args.under.now) told)
    (c.requires.ready m told) c.args.call.now

pub returns-in-Err-clause-replied : goal.returns-in-Err-clause-replied
returns-in-Err-clause-replied g c = λ m tree lists told ready.
    let s = geometry_of c.args.sup.now in
    that_ok (reply_to c.in-Err.fault) (IsReplied s c.args.bitmap.now c.look_call.new.bitmap m c.args.group.now c.look_call.new.group tree c.args.holds.now (c.args.idle ≡ true) c.args.stamp c.args.call.now) c.reply_to_step.result c.reply_to_step.ensures
    (λ r is. away s c.args.bitmap.now c.look_call.new.bitmap m c.args.group.now c.look_call.new.group tree c.args.holds.now (c.args.idle ≡ true) c.args.stamp c.args.call.now r c.in-Err.ensures.bitmap c.in-Err.ensures.group
    (step_outside s c.args.bitmap.now (over c.args.group.now m) tree c.args.holds.now (c.args.idle ≡ true) c.args.call.now c.in-Err.fault r is (c.in-Err.ensures.unanswered m tree lists told ready)))

pub returns-in-Err-clause-cause : goal.returns-in-Err-clause-cause
returns-in-Err-clause-cause g c = λ stop.
    let a = g.B.Blocks.counts c.args.under.now in
    let b = g.B.Blocks.counts c.look_call.new.under in
    that_ok (reply_to c.in-Err.fault) (HasReplyCause a b stop) c.reply_to_step.result c.reply_to_step.ensures (λ r is. step_answered a b stop c.in-Err.fault r is c.in-Err.ensures.cause)

pub reply_looked-requires-clause-ready : goal.reply_looked-requires-clause-ready
reply_looked-requires-clause-ready g c = λ m told.
    subst (λ (x : Room). HasReady (geometry_of c.args.sup.now) x (over c.look_call.new.group m)) (sym c.in-Ok.ensures.bitmap)
    (subst (λ (ps : List (ℕ × List ℕ)). HasReady (geometry_of c.args.sup.now) c.args.bitmap.now (over ps m)) (sym c.in-Ok.ensures.group) (c.requires.ready m (sym c.in-Ok.ensures.told ∙ told)))

pub reply_looked-requires-clause-looked : goal.reply_looked-requires-clause-looked
reply_looked-requires-clause-looked g c = λ m tree lists told ready.
    let s = geometry_of c.args.sup.now in
    let here : IsReady s c.args.bitmap.now (over c.args.group.now m) tree lists =
    subst (λ (ps : List (ℕ × List ℕ)). IsReady s c.args.bitmap.now (over ps m) tree lists) c.in-Ok.ensures.group (subst (λ (x : Room). IsReady s x (over c.look_call.new.group m) tree lists) c.in-Ok.ensures.bitmap ready) in
    subst (λ (ps : List (ℕ × List ℕ)). IsLooked s (over ps m) tree c.args.holds.now c.args.call.now c.in-Ok.looked) (sym c.in-Ok.ensures.group) (c.in-Ok.ensures.looked m tree lists (sym c.in-Ok.ensures.told ∙ told) here)

pub returns-clause-replied : goal.returns-clause-replied
returns-clause-replied g c = λ m tree lists told ready.
    let s = geometry_of c.args.sup.now in
    let same : to_z w64 (of_z w64 c.args.stamp) ≡ c.args.stamp = search rules in
    let there : IsReady s c.look_call.new.bitmap (over c.look_call.new.group m) tree lists =
    subst (λ (x : Room). IsReady s x (over c.look_call.new.group m) tree lists) (sym c.in-Ok.ensures.bitmap) (subst (λ (ps : List (ℕ × List ℕ)). IsReady s c.args.bitmap.now (over ps m) tree lists) (sym c.in-Ok.ensures.group) ready) in
    subst (λ (z : ℤ). IfOk c.reply_looked.result (IsReplied s c.args.bitmap.now c.reply_looked.new.bitmap m c.args.group.now c.reply_looked.new.group tree c.args.holds.now (c.args.idle ≡ true) z c.args.call.now)) same
    (subst (λ (ps : List (ℕ × List ℕ)). IfOk c.reply_looked.result (IsReplied s c.args.bitmap.now c.reply_looked.new.bitmap m ps c.reply_looked.new.group tree c.args.holds.now (c.args.idle ≡ true) (to_z w64 (of_z w64 c.args.stamp)) c.args.call.now)) c.in-Ok.ensures.group
    (subst (λ (x : Room). IfOk c.reply_looked.result (IsReplied s x c.reply_looked.new.bitmap m c.look_call.new.group c.reply_looked.new.group tree c.args.holds.now (c.args.idle ≡ true) (to_z w64 (of_z w64 c.args.stamp)) c.args.call.now)) c.in-Ok.ensures.bitmap
    (c.reply_looked.ensures.replied m tree lists (c.in-Ok.ensures.told ∙ told) there)))

pub returns-clause-put_off : goal.returns-clause-put_off
returns-clause-put_off g c = λ m tree lists told ready.
    let s = geometry_of c.args.sup.now in
    let there : IsReady s c.look_call.new.bitmap (over c.look_call.new.group m) tree lists =
    subst (λ (x : Room). IsReady s x (over c.look_call.new.group m) tree lists) (sym c.in-Ok.ensures.bitmap) (subst (λ (ps : List (ℕ × List ℕ)). IsReady s c.args.bitmap.now (over ps m) tree lists) (sym c.in-Ok.ensures.group) ready) in
    subst (λ (ps : List (ℕ × List ℕ)). IfErr c.reply_looked.result (IsNoReply s c.args.bitmap.now (over ps m) (length ps) tree c.args.holds.now (c.args.idle ≡ true) c.args.call.now)) c.in-Ok.ensures.group
    (subst (λ (x : Room). IfErr c.reply_looked.result (IsNoReply s x (over c.look_call.new.group m) (length c.look_call.new.group) tree c.args.holds.now (c.args.idle ≡ true) c.args.call.now)) c.in-Ok.ensures.bitmap
    (c.reply_looked.ensures.put_off m tree lists (c.in-Ok.ensures.told ∙ told) there))

pub returns-clause-cause : goal.returns-clause-cause
returns-clause-cause g c = λ stop.
    IfOk-weaker c.reply_looked.result (HasReplyCause (g.B.Blocks.counts c.look_call.new.under) (g.B.Blocks.counts c.reply_looked.new.under) stop) (HasReplyCause (g.B.Blocks.counts c.args.under.now) (g.B.Blocks.counts c.reply_looked.new.under) stop)
    (λ r cause. reply_earlier (g.B.Blocks.counts c.args.under.now) (g.B.Blocks.counts c.look_call.new.under) (g.B.Blocks.counts c.reply_looked.new.under) stop r c.in-Ok.ensures.later cause) (c.reply_looked.ensures.cause stop)
