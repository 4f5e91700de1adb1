use Rattle.std.proofs.Common.{rules, ◌≡◌, ◌∙◌, inl, ℤ, Some, true, refl, sym, ap, subst, w64, to_z, of_z}
use Rattle.std.specs.Prelude.{Result, Ok, Err, IfOk}
use Rattle.bfs_super.specs.Geometry.{geometry_of}
use Rattle.bfs_bitmap.specs.Runs.{Room}
use Rattle.bfs_txn.specs.Changed.{over}
use Rattle.bfs_sound.specs.Need.{logged_need, need}
use Rattle.bfs_shift.specs.Shifts.{volume_in}
use Rattle.bfs_tree.specs.declared.reply.Reply.{Reply}
use Rattle.bfs_tree.specs.Steps.{is_done}
use Rattle.bfs_answers.specs.declared.answers.Looked.{Looked}
use Rattle.bfs_replies.specs.declared.replying.NoReply.{NoReply}
use Rattle.bfs_replies.specs.Kept.{IsKept, IsWithin, room_kept}
use Rattle.bfs_answers.specs.Called.{is_changed}
use Rattle.bfs_answers.specs.Looks.{FindsOwn, IsLooked, is_to_do}
use Rattle.bfs_replies.specs.Replies.{IsReplied}
use Rattle.bfs_answers.proofs.Done.{read_is_answered}
use Rattle.bfs_replies.proofs.Fits.{kept_of}
use Rattle.bfs_replies.proofs.Within.{within_none}
use Rattle.bfs_replies.proofs.replying.reply_looked.Goals as goal

-- what holds of each reply
ok_always : (result : Result Reply NoReply) (P : Reply → Type 0) → ((r : Reply) → P r) → IfOk result P
ok_always (Ok r) P each = each r
ok_always (Err e) P each = tt

pub perform-requires-clause-allowed : goal.perform-requires-clause-allowed
perform-requires-clause-allowed g c = λ m tree lists told ready.
    subst (λ (l : Looked). IsLooked (geometry_of c.args.sup.now) (over c.args.group.now m) tree c.args.holds.now c.args.call.now l) c.in-Allowed.is (c.requires.looked m tree lists told ready)

pub returns-in-Answered-clause-replied : goal.returns-in-Answered-clause-replied
returns-in-Answered-clause-replied g c = λ m tree lists told ready.
    let s = geometry_of c.args.sup.now in
    let reads = subst (λ (l : Looked). IsLooked s (over c.args.group.now m) tree c.args.holds.now c.args.call.now l) c.in-Answered.is (c.requires.looked m tree lists told ready) in
    let room : c.keep.new.self ≡ room_kept c.args.bitmap.now = c.keep.ensures.given in
    let kept : IsKept s c.args.bitmap.now c.keep.new.self m c.args.group.now c.args.group.now tree c.args.holds.now c.args.stamp c.args.call.now c.in-Answered.reply =
    kept_of s c.args.bitmap.now c.args.bitmap.now c.keep.new.self m tree c.args.holds.now c.args.stamp c.args.call.now c.in-Answered.reply c.args.group.now c.args.group.now c.args.group.now (Some m) refl (λ k. refl) room c.keep.ensures.fits
    (read_is_answered s c.args.bitmap.now (over c.args.group.now m) tree c.args.holds.now lists (Some (over c.args.group.now m)) (is_changed c.args.group.now) c.args.stamp c.args.call.now c.in-Answered.reply ready refl (reads c.args.stamp)) in
    inl (record {
      kept = kept;
      own = subst FindsOwn c.in-Answered.is c.requires.own;
      unchanged = λ no. (refl, ap (λ (x : Room). x.tally.used) room);
      within = subst (λ (x : Room). IsWithin (logged_need (volume_in s (over c.args.group.now m)) tree c.args.call.now) (need (volume_in s (over c.args.group.now m)) tree c.args.call.now) c.args.bitmap.now x m c.args.group.now c.args.group.now) (sym room)
          (within_none c.args.bitmap.now m c.args.group.now (logged_need (volume_in s (over c.args.group.now m)) tree c.args.call.now) (need (volume_in s (over c.args.group.now m)) tree c.args.call.now));
    })

pub returns-in-Answered-clause-taken : goal.returns-in-Answered-clause-taken
returns-in-Answered-clause-taken g c = λ done. ap is_to_do c.in-Answered.is ∙ done

pub returns-in-Allowed-clause-replied : goal.returns-in-Allowed-clause-replied
returns-in-Allowed-clause-replied g c = λ m tree lists told ready.
    let s = geometry_of c.args.sup.now in
    let same : to_z w64 (of_z w64 c.args.stamp) ≡ c.args.stamp = search rules in
    subst (λ (z : ℤ). IfOk c.perform.result (IsReplied s c.args.bitmap.now c.perform.new.bitmap m c.args.group.now c.perform.new.group tree c.args.holds.now (c.args.idle ≡ true) z c.args.call.now)) same
    (c.perform.ensures.replied m tree lists told ready)

pub returns-in-Allowed-clause-taken : goal.returns-in-Allowed-clause-taken
returns-in-Allowed-clause-taken g c = ok_always c.perform.result (λ reply. is_done reply ≡ true → is_to_do c.args.looked ≡ true) (λ reply done. ap is_to_do c.in-Allowed.is)
