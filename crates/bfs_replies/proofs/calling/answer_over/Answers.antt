use Rattle.std.proofs.Common.{rules, ◌≡◌, ◌≤◌, ℕ, ℤ, List, Option, arith, length, take, sym, ap, subst, ◌∙◌, w64, to_z, of_z}
use Rattle.std.specs.Option.{option_map}
use Rattle.bfs_super.specs.Geometry.{geometry_of}
use Rattle.bfs_txn.specs.Changed.{over}
use Rattle.bfs_txn.specs.Told.{Frame}
use Rattle.bfs_device.specs.Layouts.{layout_of}
use Rattle.bfs_answers.specs.Called.{is_changed}
use Rattle.bfs_look.specs.Ready.{HasReady, IsReady}
use Rattle.bfs_answers.specs.Answered.{IsAnswered}
use Rattle.bfs_replies.specs.Kept.{AreFit}
use Rattle.bfs_replies.proofs.Fits.{mapped, same_mark, kept_but, crowding_of}
use Rattle.bfs_replies.proofs.calling.answer_over.Goals as goal

pub answer-requires-clause-ready : goal.answer-requires-clause-ready
answer-requires-clause-ready g c = λ m e. let r = mapped (over c.args.overlay.now.group.now) (g.B.Blocks.told c.args.overlay.now.under.now) m e in
    subst (HasReady (geometry_of c.args.sup.now) c.args.bitmap.now) r.1.1 (c.requires.ready r.0 r.1.0)

pub answer-requires-clause-fine : goal.answer-requires-clause-fine
answer-requires-clause-fine g c = λ m tree lists st e ready same held. let r = mapped (over c.args.overlay.now.group.now) (g.B.Blocks.told c.args.overlay.now.under.now) m e in
    c.requires.fine r.0 tree lists st r.1.0 (subst (λ (x : ℕ → Option (List ℕ)). IsReady (geometry_of c.args.sup.now) c.args.bitmap.now x tree lists) (sym r.1.1) ready) same held

pub may_be_kept-requires-clause-mark : goal.may_be_kept-requires-clause-mark
may_be_kept-requires-clause-mark g c =
    let kept : take c.answer.new.edits.mark c.answer.new.edits.group.now ≡ take c.args.overlay.now.mark c.args.overlay.now.group.now = ap (λ (f : Frame _). f.kept) c.answer.ensures.frame in
    let same = same_mark c.answer.new.edits.mark c.args.overlay.now.mark c.answer.new.edits.group.now c.args.overlay.now.group.now c.answer.new.edits.layered.within c.args.overlay.now.layered.within kept in
    subst (λ (x : ℕ). x ≤ length c.answer.new.edits.group.now) (same ∙ sym c.requires.mark) c.answer.new.edits.layered.within

pub returns-in-Ok-may_be_kept-clause-answered : goal.returns-in-Ok-may_be_kept-clause-answered
returns-in-Ok-may_be_kept-clause-answered g c = λ m tree lists told ready.
    let same : to_z w64 (of_z w64 c.args.stamp) ≡ c.args.stamp = search rules in
    subst (λ (z : ℤ). IsAnswered (geometry_of c.args.sup.now) c.args.bitmap.now c.answer.new.bitmap (over c.args.overlay.now.group.now m) tree c.args.holds.now z c.args.call.now c.in-Ok.reply (option_map (over c.answer.new.edits.group.now) (g.B.Blocks.told c.answer.new.edits.under.now)) (is_changed c.args.overlay.now.group.now) (is_changed c.answer.new.edits.group.now)) same
    (c.in-Ok.ensures.answered (over c.args.overlay.now.group.now m) tree lists (ap (option_map (over c.args.overlay.now.group.now)) told) ready)

pub returns-in-Ok-may_be_kept-clause-fit : goal.returns-in-Ok-may_be_kept-clause-fit
returns-in-Ok-may_be_kept-clause-fit g c =
    let kept : take c.answer.new.edits.mark c.answer.new.edits.group.now ≡ take c.args.overlay.now.mark c.args.overlay.now.group.now = ap (λ (f : Frame _). f.kept) c.answer.ensures.frame in
    let same = same_mark c.answer.new.edits.mark c.args.overlay.now.mark c.answer.new.edits.group.now c.args.overlay.now.group.now c.answer.new.edits.layered.within c.args.overlay.now.layered.within kept in
    subst (AreFit (layout_of c.args.sup.now) c.answer.new.edits.group.now) (c.requires.mark ∙ sym same) c.in-Ok-may_be_kept.ensures.ok

pub returns-in-Err-may_be_kept-clause-unanswered : goal.returns-in-Err-may_be_kept-clause-unanswered
returns-in-Err-may_be_kept-clause-unanswered g c = λ m tree lists told ready.
    kept_but c.args.sup.now c.args.bitmap.now c.answer.new.bitmap (over c.args.overlay.now.group.now m) tree c.args.holds.now _ c.args.call.now c.in-Ok.reply _ c.args.overlay.now.group.now c.answer.new.edits.group.now c.args.mark c.args.allowed c.used-was.result c.in-Err-may_be_kept.why c.requires.open
    (c.in-Ok.ensures.answered (over c.args.overlay.now.group.now m) tree lists (ap (option_map (over c.args.overlay.now.group.now)) told) ready) c.in-Err-may_be_kept.ensures.err

pub returns-in-Err-clause-unanswered : goal.returns-in-Err-clause-unanswered
returns-in-Err-clause-unanswered g c = λ m tree lists told ready. c.in-Err.ensures.unanswered (over c.args.overlay.now.group.now m) tree lists (ap (option_map (over c.args.overlay.now.group.now)) told) ready

pub returns-in-Ok-may_be_kept-clause-rise : goal.returns-in-Ok-may_be_kept-clause-rise
returns-in-Ok-may_be_kept-clause-rise g c = let was = c.used-was.ensures.value in let now = c.in-Ok-may_be_kept.ensures.rise in omega (arith, was, now)

pub returns-in-Err-may_be_kept-clause-crowding : goal.returns-in-Err-may_be_kept-clause-crowding
returns-in-Err-may_be_kept-clause-crowding g c =
    crowding_of (layout_of c.args.sup.now) c.args.allowed c.used-was.result c.answer.new.bitmap.tally.used c.answer.new.edits.group.now c.args.mark c.in-Err-may_be_kept.why c.in-Err-may_be_kept.ensures.err

pub returns-in-Ok-may_be_kept-clause-idle : goal.returns-in-Ok-may_be_kept-clause-idle
returns-in-Ok-may_be_kept-clause-idle g c = λ none. c.in-Ok-may_be_kept.ensures.idle none ∙ c.used-was.ensures.value
