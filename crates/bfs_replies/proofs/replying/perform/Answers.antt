use Rattle.std.proofs.Common.{rules, ◌≡◌, ◌≤◌, ◌+◌, ◌∙◌, inl, ℕ, ℤ, List, true, false, length, sym, ap, subst, arith, w64, to_z, of_z}
use Rattle.std.specs.Prelude.{IfErr}
use Rattle.std.proofs.lemmas.Result.{IfOk-weaker}
use Rattle.bfs_super.specs.Geometry.{geometry_of}
use Rattle.bfs_bitmap.specs.Runs.{Room, HasBitmap}
use Rattle.bfs_txn.specs.Changed.{over}
use Rattle.bfs_tree.specs.Steps.{is_done}
use Rattle.bfs_device.specs.Layouts.{layout_of}
use Rattle.bfs_sound.specs.Need.{logged_need, need}
use Rattle.bfs_shift.specs.Shifts.{volume_in}
use Rattle.bfs_replies.specs.declared.calling.CallFault.TheVariants as calling
use Rattle.bfs_replies.specs.declared.keep.Unkept.{Unkept}
use Rattle.bfs_replies.specs.Kept.{IsCallFault, IsCrowding, IsKept}
use Rattle.bfs_replies.specs.Replies.{HasReplyCause, IsChange, IsNoReply, IsOutside, IsReplied, IsTooLong, reply_to}
use Rattle.bfs_replies.proofs.Turned.{away, reply_earlier, step_outside, that_ok, too_long}
use Rattle.bfs_replies.proofs.Within.{within_more}
use Rattle.bfs_replies.proofs.replying.perform.Goals as goal

pub answer_call-requires-clause-fine : goal.answer_call-requires-clause-fine
answer_call-requires-clause-fine g c = λ m tree lists s told ready same held. (c.requires.allowed m tree lists told ready).fine s same held

pub returns-in-Ok-clause-replied : goal.returns-in-Ok-clause-replied
returns-in-Ok-clause-replied g c = λ m tree lists told ready.
    let same : to_z w64 (of_z w64 c.args.stamp) ≡ c.args.stamp = search rules in
    let allowed = c.requires.allowed m tree lists told ready in
    inl (record {
      kept = subst (λ (z : ℤ). IsKept (geometry_of c.args.sup.now) c.args.bitmap.now c.answer_call.new.bitmap m c.args.group.now c.answer_call.new.group tree c.args.holds.now z c.args.call.now c.in-Ok.reply) same (c.in-Ok.ensures.kept m tree lists told ready);
      own = c.in-Ok.ensures.own;
      unchanged = λ no. let done : is_done c.in-Ok.reply ≡ true = c.in-Ok.ensures.done in let bad : false ≡ true = sym no ∙ done in absurd cc;
      within = within_more c.args.allowed.logged (logged_need (volume_in (geometry_of c.args.sup.now) (over c.args.group.now m)) tree c.args.call.now) c.args.allowed.taken (need (volume_in (geometry_of c.args.sup.now) (over c.args.group.now m)) tree c.args.call.now)
          c.args.bitmap.now c.answer_call.new.bitmap m c.args.group.now c.answer_call.new.group allowed.logged allowed.taken (c.in-Ok.ensures.within m);
    })

pub returns-then-is_no_run-clause-replied : goal.returns-then-is_no_run-clause-replied
returns-then-is_no_run-clause-replied g c = λ m tree lists told ready.
    let s = geometry_of c.args.sup.now in
    let allowed = c.requires.allowed m tree lists told ready in
    let change : IsChange tree c.args.holds.now c.args.call.now = record { changes = allowed.changes; fine = allowed.fine } in
    let group : c.answer_call.new.group ≡ c.args.group.now = c.in-Err.ensures.refused.0 in
    let bitmap : c.answer_call.new.bitmap ≡ c.args.bitmap.now = c.in-Err.ensures.refused.1 in
    let has : HasBitmap c.answer_call.new.bitmap (over c.answer_call.new.group m) = subst (λ (x : Room). HasBitmap x (over c.answer_call.new.group m)) (sym bitmap) (subst (λ (ps : List (ℕ × List ℕ)). HasBitmap c.args.bitmap.now (over ps m)) (sym group) ready.work.fits.has) in
    let within : c.args.allowed.taken ≤ need (volume_in s (over c.answer_call.new.group m)) tree c.args.call.now = subst (λ (ps : List (ℕ × List ℕ)). c.args.allowed.taken ≤ need (volume_in s (over ps m)) tree c.args.call.now) (sym group) allowed.taken in
    IfOk-weaker c.lacks_space.result (IsOutside s c.answer_call.new.bitmap (over c.answer_call.new.group m) tree c.args.holds.now (c.args.idle ≡ true) c.args.call.now)
    (IsReplied s c.args.bitmap.now c.answer_call.new.bitmap m c.args.group.now c.lacks_space.new.group tree c.args.holds.now (c.args.idle ≡ true) c.args.stamp c.args.call.now)
    (λ r why. away s c.args.bitmap.now c.answer_call.new.bitmap m c.args.group.now c.lacks_space.new.group tree c.args.holds.now (c.args.idle ≡ true) c.args.stamp c.args.call.now r bitmap (c.lacks_space.ensures.group ∙ group)
    (subst (λ (ps : List (ℕ × List ℕ)). IsOutside s c.args.bitmap.now (over ps m) tree c.args.holds.now (c.args.idle ≡ true) c.args.call.now r) group
    (subst (λ (x : Room). IsOutside s x (over c.answer_call.new.group m) tree c.args.holds.now (c.args.idle ≡ true) c.args.call.now r) bitmap why)))
    (c.lacks_space.ensures.outside m tree c.args.holds.now (c.answer_call.ensures.told ∙ told) has change within)

pub returns-then-is_no_run-clause-put_off : goal.returns-then-is_no_run-clause-put_off
returns-then-is_no_run-clause-put_off g c = λ m tree lists told ready.
    let s = geometry_of c.args.sup.now in
    let allowed = c.requires.allowed m tree lists told ready in
    let change : IsChange tree c.args.holds.now c.args.call.now = record { changes = allowed.changes; fine = allowed.fine } in
    let group : c.answer_call.new.group ≡ c.args.group.now = c.in-Err.ensures.refused.0 in
    let bitmap : c.answer_call.new.bitmap ≡ c.args.bitmap.now = c.in-Err.ensures.refused.1 in
    let has : HasBitmap c.answer_call.new.bitmap (over c.answer_call.new.group m) = subst (λ (x : Room). HasBitmap x (over c.answer_call.new.group m)) (sym bitmap) (subst (λ (ps : List (ℕ × List ℕ)). HasBitmap c.args.bitmap.now (over ps m)) (sym group) ready.work.fits.has) in
    let within : c.args.allowed.taken ≤ need (volume_in s (over c.answer_call.new.group m)) tree c.args.call.now = subst (λ (ps : List (ℕ × List ℕ)). c.args.allowed.taken ≤ need (volume_in s (over ps m)) tree c.args.call.now) (sym group) allowed.taken in
    subst (λ (ps : List (ℕ × List ℕ)). IfErr c.lacks_space.result (IsNoReply s c.args.bitmap.now (over ps m) (length c.args.group.now) tree c.args.holds.now (c.args.idle ≡ true) c.args.call.now)) group
    (subst (λ (x : Room). IfErr c.lacks_space.result (IsNoReply s x (over c.answer_call.new.group m) (length c.args.group.now) tree c.args.holds.now (c.args.idle ≡ true) c.args.call.now)) bitmap
    (c.lacks_space.ensures.put_off m tree c.args.holds.now (length c.args.group.now) (c.answer_call.ensures.told ∙ told) has change within))

pub returns-then-is_no_run-clause-cause : goal.returns-then-is_no_run-clause-cause
returns-then-is_no_run-clause-cause g c = λ stop.
    IfOk-weaker c.lacks_space.result (HasReplyCause (g.B.Blocks.counts c.answer_call.new.under) (g.B.Blocks.counts c.lacks_space.new.under) stop) (HasReplyCause (g.B.Blocks.counts c.args.under.now) (g.B.Blocks.counts c.lacks_space.new.under) stop)
    (λ r cause. reply_earlier (g.B.Blocks.counts c.args.under.now) (g.B.Blocks.counts c.answer_call.new.under) (g.B.Blocks.counts c.lacks_space.new.under) stop r c.answer_call.ensures.later cause) (c.lacks_space.ensures.cause stop)

pub returns-else-is_no_run-clause-replied : goal.returns-else-is_no_run-clause-replied
returns-else-is_no_run-clause-replied g c = λ m tree lists told ready.
    let s = geometry_of c.args.sup.now in
    that_ok (reply_to c.in-Map.fault) (IsReplied s c.args.bitmap.now c.answer_call.new.bitmap m c.args.group.now c.answer_call.new.group tree c.args.holds.now (c.args.idle ≡ true) c.args.stamp c.args.call.now) c.reply_to_step.result c.reply_to_step.ensures
    (λ r is. away s c.args.bitmap.now c.answer_call.new.bitmap m c.args.group.now c.answer_call.new.group tree c.args.holds.now (c.args.idle ≡ true) c.args.stamp c.args.call.now r c.in-Err.ensures.refused.1 c.in-Err.ensures.refused.0
    (step_outside s c.args.bitmap.now (over c.args.group.now m) tree c.args.holds.now (c.args.idle ≡ true) c.args.call.now c.in-Map.fault r is (subst IsCallFault c.in-Map.is (c.in-Err.ensures.unanswered m tree lists told ready))))

pub returns-in-Damaged-clause-replied : goal.returns-in-Damaged-clause-replied
returns-in-Damaged-clause-replied g c = λ m tree lists told ready.
    let none = subst (λ (w : Unkept). IsCallFault (calling.Unkept w)) c.in-Damaged.is (subst IsCallFault c.in-Unkept.is (c.in-Err.ensures.unanswered m tree lists told ready)) in
    absurd none

pub returns-in-TooMany-clause-replied : goal.returns-in-TooMany-clause-replied
returns-in-TooMany-clause-replied g c = λ m tree lists told ready.
    let s = geometry_of c.args.sup.now in
    let allowed = c.requires.allowed m tree lists told ready in
    let change : IsChange tree c.args.holds.now c.args.call.now = record { changes = allowed.changes; fine = allowed.fine } in
    let crowding = subst (λ (w : Unkept). IsCrowding (layout_of c.args.sup.now) c.args.allowed.logged (length c.args.group.now) (calling.Unkept w)) c.in-TooMany.is (subst (IsCrowding (layout_of c.args.sup.now) c.args.allowed.logged (length c.args.group.now)) c.in-Unkept.is c.in-Err.ensures.crowding) in
    let few = crowding.1 in
    let most = allowed.logged in
    let within : c.in-TooMany.blocks ≤ logged_need (volume_in s (over c.args.group.now m)) tree c.args.call.now = omega (arith, few, most) in
    let long : IsTooLong s (length c.args.group.now + c.in-TooMany.blocks) = too_long c.args.sup.now (length c.args.group.now + c.in-TooMany.blocks) c.requires.valid crowding.0 in
    IfOk-weaker c.crowds_log.result (IsOutside s c.args.bitmap.now (over c.args.group.now m) tree c.args.holds.now (c.args.idle ≡ true) c.args.call.now)
    (IsReplied s c.args.bitmap.now c.answer_call.new.bitmap m c.args.group.now c.answer_call.new.group tree c.args.holds.now (c.args.idle ≡ true) c.args.stamp c.args.call.now)
    (λ r why. away s c.args.bitmap.now c.answer_call.new.bitmap m c.args.group.now c.answer_call.new.group tree c.args.holds.now (c.args.idle ≡ true) c.args.stamp c.args.call.now r c.in-Err.ensures.refused.1 c.in-Err.ensures.refused.0 why)
    (c.crowds_log.ensures.crowded c.args.bitmap.now (over c.args.group.now m) tree c.args.holds.now c.args.call.now change within
    (λ idle. let none : length c.args.group.now ≡ 0 = ap length (c.requires.empty idle) in let same : length c.args.group.now + c.in-TooMany.blocks ≡ c.in-TooMany.blocks = omega (arith, none) in subst (IsTooLong s) same long))

pub returns-in-TooMany-clause-put_off : goal.returns-in-TooMany-clause-put_off
returns-in-TooMany-clause-put_off g c = λ m tree lists told ready.
    let s = geometry_of c.args.sup.now in
    let allowed = c.requires.allowed m tree lists told ready in
    let change : IsChange tree c.args.holds.now c.args.call.now = record { changes = allowed.changes; fine = allowed.fine } in
    let crowding = subst (λ (w : Unkept). IsCrowding (layout_of c.args.sup.now) c.args.allowed.logged (length c.args.group.now) (calling.Unkept w)) c.in-TooMany.is (subst (IsCrowding (layout_of c.args.sup.now) c.args.allowed.logged (length c.args.group.now)) c.in-Unkept.is c.in-Err.ensures.crowding) in
    let few = crowding.1 in
    let most = allowed.logged in
    let within : c.in-TooMany.blocks ≤ logged_need (volume_in s (over c.args.group.now m)) tree c.args.call.now = omega (arith, few, most) in
    let long : IsTooLong s (length c.args.group.now + c.in-TooMany.blocks) = too_long c.args.sup.now (length c.args.group.now + c.in-TooMany.blocks) c.requires.valid crowding.0 in
    c.crowds_log.ensures.put_off c.args.bitmap.now (over c.args.group.now m) tree c.args.holds.now c.args.call.now (length c.args.group.now) change within long

pub returns-in-TooMany-clause-cause : goal.returns-in-TooMany-clause-cause
returns-in-TooMany-clause-cause g c = λ stop. c.crowds_log.ensures.cause (g.B.Blocks.counts c.args.under.now) (g.B.Blocks.counts c.answer_call.new.under) stop
