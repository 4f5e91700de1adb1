use Rattle.std.proofs.Common.{rules, ◌≡◌, ◌∙◌, ℤ, subst, sym, true, false, length, w64, to_z, of_z}
use Rattle.std.specs.Prelude.{IfOk, Result, Ok, Err}
use Rattle.std.proofs.lemmas.Result.{IfErr-weaker}
use Rattle.bfs_super.specs.Geometry.{geometry_of}
use Rattle.bfs_txn.specs.Changed.{over}
use Rattle.bfs_tree.specs.declared.reply.Reply.{Reply}
use Rattle.bfs_tree.specs.Steps.{is_done}
use Rattle.bfs_answers.specs.Looks.{is_search}
use Rattle.bfs_answers.proofs.Searching.{rests_own, rests_search, sees_all}
use Rattle.bfs_replies.specs.Replaced.{FindsPlace}
use Rattle.bfs_replies.specs.Replies.{IsNoReply, IsReplied}
use Rattle.bfs_replies.specs.declared.replying.NoReply.{NoReply}
use Rattle.bfs_replies.specs.declared.replying.NoReply.TheVariants.{NoMemory}
use Rattle.bfs_replies.proofs.Sees.{over_told, search_replaces}
use Rattle.bfs_replies.proofs.replying.reply_or_stopped.Goals as goal

-- what holds anyway, holds where a reply says that the call was done
always : (result : Result Reply NoReply) (P : Type 0) → P → IfOk result (λ r. is_done r ≡ true → P)
always (Ok r) P p = λ done. p
always (Err e) P p = tt

pub returns-then-is_search-clause-replied : goal.returns-then-is_search-clause-replied
returns-then-is_search-clause-replied g c = λ m tree lists told ready.
    let s = geometry_of c.args.sup.now in
    let sized = over_told c.args.sup.now (g.B.Blocks.size c.args.under.now) (g.B.Blocks.told c.args.under.now) c.args.group.now m c.requires.group c.requires.size (g.met.B.Blocks.sized c.args.under.now) told in
    let search : is_search c.args.call.now ≡ true = sym c.is_search.ensures ∙ c.if-is_search.true in
    c.reply_search.ensures.rests_replied m m tree lists c.args.idle c.args.stamp told ready (rests_own s (over c.args.group.now m) tree sized c.args.call.now search)

pub returns-then-is_search-clause-put_off : goal.returns-then-is_search-clause-put_off
returns-then-is_search-clause-put_off g c = λ m tree lists told ready.
    let s = geometry_of c.args.sup.now in
    IfErr-weaker c.reply_search.result (λ (e : NoReply). e ≡ NoMemory) (IsNoReply s c.args.bitmap.now (over c.args.group.now m) (length c.args.group.now) tree c.args.holds.now (c.args.idle ≡ true) c.args.call.now)
    (λ e is. subst (IsNoReply s c.args.bitmap.now (over c.args.group.now m) (length c.args.group.now) tree c.args.holds.now (c.args.idle ≡ true) c.args.call.now) (sym is) tt) c.reply_search.ensures.no_memory

pub returns-then-is_search-clause-rests_replied : goal.returns-then-is_search-clause-rests_replied
returns-then-is_search-clause-rests_replied g c = λ m w tree lists told ready rests. c.reply_search.ensures.rests_replied m w tree lists c.args.idle c.args.stamp told ready rests

pub returns-then-is_search-clause-rests_put_off : goal.returns-then-is_search-clause-rests_put_off
returns-then-is_search-clause-rests_put_off g c = λ m w tree lists told ready rests.
    let s = geometry_of c.args.sup.now in
    IfErr-weaker c.reply_search.result (λ (e : NoReply). e ≡ NoMemory) (IsNoReply s c.args.bitmap.now (over c.args.group.now w) (length c.args.group.now) tree c.args.holds.now (c.args.idle ≡ true) c.args.call.now)
    (λ e is. subst (IsNoReply s c.args.bitmap.now (over c.args.group.now w) (length c.args.group.now) tree c.args.holds.now (c.args.idle ≡ true) c.args.call.now) (sym is) tt) c.reply_search.ensures.no_memory

pub returns-then-is_search-clause-cause : goal.returns-then-is_search-clause-cause
returns-then-is_search-clause-cause g c = c.reply_search.ensures.cause c.args.stop

pub returns-then-is_search-clause-found : goal.returns-then-is_search-clause-found
returns-then-is_search-clause-found g c = λ m tree lists told ready.
    let search : is_search c.args.call.now ≡ true = sym c.is_search.ensures ∙ c.if-is_search.true in
    always c.reply_search.result (FindsPlace tree c.args.call.now false) (λ s same fine. search_replaces tree c.args.call.now search)

pub reply_counted-requires-clause-ready : goal.reply_counted-requires-clause-ready
reply_counted-requires-clause-ready g c = λ m told.
    let not : is_search c.args.call.now ≡ false = sym c.is_search.ensures ∙ c.if-is_search.false in
    sees_all (geometry_of c.args.sup.now) c.args.bitmap.now (over c.args.group.now m) c.args.call.now not (c.requires.ready m told)

pub returns-else-is_search-clause-replied : goal.returns-else-is_search-clause-replied
returns-else-is_search-clause-replied g c = λ m tree lists told ready.
    let same : to_z w64 (of_z w64 c.args.stamp) ≡ c.args.stamp = search rules in
    subst (λ (z : ℤ). IfOk c.reply_counted.result (IsReplied (geometry_of c.args.sup.now) c.args.bitmap.now c.reply_counted.new.bitmap m c.args.group.now c.reply_counted.new.group tree c.args.holds.now (c.args.idle ≡ true) z c.args.call.now)) same
    (c.reply_counted.ensures.replied m tree lists told ready)

pub returns-else-is_search-clause-rests_replied : goal.returns-else-is_search-clause-rests_replied
returns-else-is_search-clause-rests_replied g c = λ m w tree lists told ready rests.
    let not : is_search c.args.call.now ≡ false = sym c.is_search.ensures ∙ c.if-is_search.false in
    absurd (let bad : true ≡ false = sym (rests_search (geometry_of c.args.sup.now) (over c.args.group.now w) (over c.args.group.now m) tree c.args.call.now rests) ∙ not in cc)

pub returns-else-is_search-clause-rests_put_off : goal.returns-else-is_search-clause-rests_put_off
returns-else-is_search-clause-rests_put_off g c = λ m w tree lists told ready rests.
    let not : is_search c.args.call.now ≡ false = sym c.is_search.ensures ∙ c.if-is_search.false in
    absurd (let bad : true ≡ false = sym (rests_search (geometry_of c.args.sup.now) (over c.args.group.now w) (over c.args.group.now m) tree c.args.call.now rests) ∙ not in cc)

pub returns-else-is_search-clause-cause : goal.returns-else-is_search-clause-cause
returns-else-is_search-clause-cause g c = c.reply_counted.ensures.cause c.args.stop
