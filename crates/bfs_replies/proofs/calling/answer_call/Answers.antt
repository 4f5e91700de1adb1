use Rattle.std.proofs.Common.{rules, ◌≡◌, ℕ, ℤ, arith, List, Some, take, sym, ap, subst, ◌∙◌, w64, to_z, of_z}
use Rattle.std.specs.Option.{option_map}
use Rattle.bfs_super.specs.Geometry.{geometry_of}
use Rattle.bfs_txn.specs.Changed.{AreOfSize, over}
use Rattle.bfs_device.specs.Layouts.{layout_of}
use Rattle.bfs_replies.specs.Books.{MayBeSealed}
use Rattle.bfs_answers.specs.Called.{is_changed}
use Rattle.bfs_look.specs.Ready.{HasReady, IsReady}
use Rattle.bfs_answers.specs.Answered.{IsAnswered}
use Rattle.bfs_replies.specs.Kept.{IsKept, IsWithin, StaysIdle}
use Rattle.bfs_bitmap.specs.Runs.{Room}
use Rattle.bfs_replies.proofs.Within.{idle_kept, within}
use Rattle.bfs_replies.proofs.Fits.{kept_of, may_be_sealed, same_mark, whole}
use Rattle.bfs_replies.proofs.calling.answer_call.Goals as goal

pub answer_over-requires-clause-ready : goal.answer_over-requires-clause-ready
answer_over-requires-clause-ready g c = λ m e. subst (λ (ps : List (ℕ × List ℕ)). HasReady (geometry_of c.args.sup.now) c.args.bitmap.now (over ps m)) (sym c.begin-overlay.ensures.open_now)
    (c.requires.ready m (ap g.B.Blocks.told (sym c.begin-overlay.ensures.under_now) ∙ e))

pub answer_over-requires-clause-fine : goal.answer_over-requires-clause-fine
answer_over-requires-clause-fine g c = λ m tree lists st e ready same held.
    c.requires.fine m tree lists st (ap g.B.Blocks.told (sym c.begin-overlay.ensures.under_now) ∙ e)
    (subst (λ (ps : List (ℕ × List ℕ)). IsReady (geometry_of c.args.sup.now) c.args.bitmap.now (over ps m) tree lists) c.begin-overlay.ensures.open_now ready) same held

pub returns-in-Ok-clause-within : goal.returns-in-Ok-clause-within
returns-in-Ok-clause-within g c = λ m.
    let open_is : take c.begin-overlay.result.mark c.begin-overlay.result.group.now ≡ c.args.group.now = whole c.begin-overlay.result.mark c.begin-overlay.result.group.now c.args.group.now c.begin-overlay.ensures.mark c.begin-overlay.ensures.open_now in
    let few = c.in-Ok.ensures.few in
    let mark = same_mark c.answer_over.new.overlay.mark c.begin-overlay.result.mark c.answer_over.new.overlay.group.now c.begin-overlay.result.group.now c.answer_over.new.overlay.layered.within c.begin-overlay.result.layered.within c.answer_over.ensures.open in
    subst (λ (ps : List (ℕ × List ℕ)). IsWithin c.args.allowed.logged c.args.allowed.taken c.args.bitmap.now c.keep-in-Ok.new.self m c.args.group.now ps) (search rules)
    (subst (λ (r : Room). IsWithin c.args.allowed.logged c.args.allowed.taken c.args.bitmap.now r m c.args.group.now c.keep.new.self.0) (sym c.keep-in-Ok.ensures.given)
    (within c.args.bitmap.now c.answer_over.new.bitmap m c.args.group.now c.answer_over.new.overlay.group.now c.keep.new.self.0 c.answer_over.new.overlay.mark c.args.allowed.logged c.args.allowed.taken (c.answer_over.ensures.open ∙ open_is) c.keep.ensures.reads
    (let long = c.begin-overlay.ensures.mark in let n = c.len-mark.ensures in omega (arith, few, mark, long, n)) c.in-Ok.ensures.rise))

pub returns-in-Ok-clause-kept : goal.returns-in-Ok-clause-kept
returns-in-Ok-clause-kept g c = λ m tree lists told ready.
    let under : g.B.Blocks.told c.begin-overlay.result.under.now ≡ Some m = ap g.B.Blocks.told c.begin-overlay.ensures.under_now ∙ told in
    let below : g.B.Blocks.told c.answer_over.new.overlay.under.now ≡ Some m = c.answer_over.ensures.told ∙ under in
    let same : to_z w64 (of_z w64 c.args.stamp) ≡ c.args.stamp = search rules in
    let first = subst (λ (z : ℤ). IsAnswered (geometry_of c.args.sup.now) c.args.bitmap.now c.answer_over.new.bitmap (over c.begin-overlay.result.group.now m) tree c.args.holds.now z c.args.call.now c.in-Ok.reply (option_map (over c.answer_over.new.overlay.group.now) (g.B.Blocks.told c.answer_over.new.overlay.under.now)) (is_changed c.begin-overlay.result.group.now) (is_changed c.answer_over.new.overlay.group.now)) same
    (c.in-Ok.ensures.answered m tree lists under (subst (λ (ps : List (ℕ × List ℕ)). IsReady (geometry_of c.args.sup.now) c.args.bitmap.now (over ps m) tree lists) (sym c.begin-overlay.ensures.open_now) ready)) in
    let answered = subst (λ (ps : List (ℕ × List ℕ)). IsAnswered (geometry_of c.args.sup.now) c.args.bitmap.now c.answer_over.new.bitmap (over ps m) tree c.args.holds.now c.args.stamp c.args.call.now c.in-Ok.reply (option_map (over c.answer_over.new.overlay.group.now) (g.B.Blocks.told c.answer_over.new.overlay.under.now)) (is_changed ps) (is_changed c.answer_over.new.overlay.group.now)) c.begin-overlay.ensures.open_now first in
    subst (λ (ps : List (ℕ × List ℕ)). IsKept (geometry_of c.args.sup.now) c.args.bitmap.now c.keep-in-Ok.new.self m c.args.group.now ps tree c.args.holds.now c.args.stamp c.args.call.now c.in-Ok.reply) (search rules)
    (kept_of (geometry_of c.args.sup.now) c.args.bitmap.now c.answer_over.new.bitmap c.keep-in-Ok.new.self m tree c.args.holds.now c.args.stamp c.args.call.now c.in-Ok.reply c.args.group.now c.answer_over.new.overlay.group.now c.keep.new.self.0 (g.B.Blocks.told c.answer_over.new.overlay.under.now) below c.keep.ensures.reads c.keep-in-Ok.ensures.given c.keep-in-Ok.ensures.fits answered)

pub returns-in-Ok-clause-group : goal.returns-in-Ok-clause-group
returns-in-Ok-clause-group g c =
    let open_is : take c.begin-overlay.result.mark c.begin-overlay.result.group.now ≡ c.args.group.now = whole c.begin-overlay.result.mark c.begin-overlay.result.group.now c.args.group.now c.begin-overlay.ensures.mark c.begin-overlay.ensures.open_now in
    let size : g.B.Blocks.size c.keep.new.self.1.0 ≡ c.args.sup.now.block_size = ap g.B.Blocks.size c.keep.ensures.under ∙ c.answer_over.ensures.size ∙ ap g.B.Blocks.size c.begin-overlay.ensures.under_now ∙ c.requires.size in
    subst (λ (ps : List (ℕ × List ℕ)). MayBeSealed (layout_of c.args.sup.now) c.args.sup.now.block_size ps) (search rules)
    (may_be_sealed (layout_of c.args.sup.now) c.args.sup.now.block_size c.answer_over.new.overlay.mark c.args.group.now c.answer_over.new.overlay.group.now c.keep.new.self.0 c.requires.group (c.answer_over.ensures.open ∙ open_is) c.answer_over.new.overlay.layered.within c.in-Ok.ensures.fit
    c.keep.ensures.reads c.keep.ensures.ascends (subst (λ (n : ℕ). AreOfSize n c.keep.new.self.0) size c.keep.ensures.sized) c.keep.ensures.len)

pub returns-in-Err-clause-unanswered : goal.returns-in-Err-clause-unanswered
returns-in-Err-clause-unanswered g c = λ m tree lists told ready.
    let under : g.B.Blocks.told c.begin-overlay.result.under.now ≡ Some m = ap g.B.Blocks.told c.begin-overlay.ensures.under_now ∙ told in
    c.in-Err.ensures.unanswered m tree lists under (subst (λ (ps : List (ℕ × List ℕ)). IsReady (geometry_of c.args.sup.now) c.args.bitmap.now (over ps m) tree lists) (sym c.begin-overlay.ensures.open_now) ready)

pub returns-in-Ok-clause-idle : goal.returns-in-Ok-clause-idle
returns-in-Ok-clause-idle g c =
    let open_is : take c.begin-overlay.result.mark c.begin-overlay.result.group.now ≡ c.args.group.now = whole c.begin-overlay.result.mark c.begin-overlay.result.group.now c.args.group.now c.begin-overlay.ensures.mark c.begin-overlay.ensures.open_now in
    subst (λ (ps : List (ℕ × List ℕ)). StaysIdle c.args.bitmap.now c.keep-in-Ok.new.self c.args.group.now ps) (search rules)
    (idle_kept c.args.bitmap.now c.answer_over.new.bitmap c.keep-in-Ok.new.self c.args.group.now c.answer_over.new.overlay.group.now c.keep.new.self.0 c.answer_over.new.overlay.mark (c.answer_over.ensures.open ∙ open_is) c.keep.ensures.reads c.in-Ok.ensures.idle
    (ap (λ (r : Room). r.tally.used) c.keep-in-Ok.ensures.given))
