use Rattle.std.proofs.Common.{◌≡◌, ◌⊎◌, ◌∙◌, true, false, sym}
use Rattle.std.proofs.lemmas.Bool.{true≢false}
use Rattle.std.proofs.lemmas.Result.{IfOk-weaker, IfErr-weaker}
use Rattle.bfs_super.specs.Geometry.{geometry_of}
use Rattle.bfs_txn.specs.Changed.{over}
use Rattle.bfs_replies.specs.Replies.{HasFewRuns, IsNoReply, IsOutside, array_run}
use Rattle.bfs_replies.specs.declared.replying.NoReply.TheVariants.{Drain}
use Rattle.bfs_replies.proofs.Turned.{outside_for, put_off_of}
use Rattle.bfs_replies.proofs.lacking.lacks_space.Goals as goal

pub returns-clause-outside : goal.returns-clause-outside
returns-clause-outside g c = λ m tree holds told has change within.
    IfOk-weaker c.put_off.result (IsOutside (geometry_of c.args.sup.now) c.args.bitmap.now (over c.args.group.now m) tree holds (false ≡ true) c.args.call.now) (IsOutside (geometry_of c.args.sup.now) c.args.bitmap.now (over c.args.group.now m) tree holds (c.args.idle ≡ true) c.args.call.now)
    (λ r why. outside_for (geometry_of c.args.sup.now) c.args.bitmap.now (over c.args.group.now m) tree holds (false ≡ true) (c.args.idle ≡ true) c.args.call.now r (λ e. c.if-idle.false ∙ e) why)
    (c.put_off.ensures.outside m tree holds c.args.call.now told has)

pub returns-clause-put_off : goal.returns-clause-put_off
returns-clause-put_off g c = λ m tree holds begun told has change within.
    IfErr-weaker c.put_off.result (λ e. e ≡ Drain → HasFewRuns c.args.bitmap.now (over c.args.group.now m) 1 c.args.needed ⊎ HasFewRuns c.args.bitmap.now (over c.args.group.now m) (array_run c.args.bitmap.now) c.args.needed)
    (IsNoReply (geometry_of c.args.sup.now) c.args.bitmap.now (over c.args.group.now m) begun tree holds (c.args.idle ≡ true) c.args.call.now)
    (λ e few. put_off_of (geometry_of c.args.sup.now) c.args.bitmap.now (over c.args.group.now m) begun tree holds (c.args.idle ≡ true) c.args.call.now c.args.needed e change (λ is. true≢false (sym is ∙ c.if-idle.false)) (sym c.only_takes_out.ensures ∙ c.if-only_takes_out.false) within few)
    (c.put_off.ensures.few m told has)

pub returns-then-idle-clause-outside : goal.returns-then-idle-clause-outside
returns-then-idle-clause-outside g c = λ m tree holds told has change within.
    IfOk-weaker c.say_no_space.result (IsOutside (geometry_of c.args.sup.now) c.args.bitmap.now (over c.args.group.now m) tree holds (true ≡ true) c.args.call.now) (IsOutside (geometry_of c.args.sup.now) c.args.bitmap.now (over c.args.group.now m) tree holds (c.args.idle ≡ true) c.args.call.now)
    (λ r why. outside_for (geometry_of c.args.sup.now) c.args.bitmap.now (over c.args.group.now m) tree holds (true ≡ true) (c.args.idle ≡ true) c.args.call.now r (λ e. c.if-idle.true) why)
    (c.say_no_space.ensures.short m tree holds c.args.call.now told has change (sym c.only_takes_out.ensures ∙ c.if-only_takes_out.false) within)
