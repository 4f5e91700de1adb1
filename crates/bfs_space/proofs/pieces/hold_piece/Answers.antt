use Rattle.std.proofs.Common.{rules, ◌≡◌, ◌∙◌, ℕ, ℤ, List, true, length, sym, ap, subst, w64, to_z, of_z}
use Rattle.std.specs.Prelude.{IfOk, IfErr}
use Rattle.std.specs.List.{All}
use Rattle.std.proofs.lemmas.Result.{IfOk-weaker}
use Rattle.bfs_super.specs.Geometry.{geometry_of}
use Rattle.bfs_bitmap.specs.Runs.{Room}
use Rattle.bfs_txn.specs.Changed.{over}
use Rattle.bfs_tree.specs.Answers.{KeepsRanges}
use Rattle.bfs_tree.specs.declared.reply.Reply.{Reply}
use Rattle.bfs_tree.specs.declared.reply.Reply.TheVariants as replies
use Rattle.bfs_tree.specs.Steps.{is_done}
use Rattle.bfs_device.specs.Layouts.{IsData, layout_of}
use Rattle.bfs_sound.specs.Inodes.{stream_blocks}
use Rattle.bfs_shift.specs.Shifts.{volume_in}
use Rattle.bfs_look.specs.Ready.{IsReady, HasReady}
use Rattle.bfs_replies.specs.Places.{piece_blocks, piece_of}
use Rattle.bfs_replies.specs.Looks.{IsHeldIn, IsLooked, MaySee, is_served, is_to_do}
use Rattle.bfs_replies.specs.Replies.{HasReplyCause, IsNoReply, IsReplied, reply_to, reply_to_block}
use Rattle.bfs_space.proofs.Pieced.{looked_in}
use Rattle.bfs_replies.proofs.Turned.{away, block_caused, block_outside, block_undone, reply_earlier, step_answered, step_outside, step_undone, that_err, that_ok}
use Rattle.bfs_space.proofs.pieces.hold_piece.Goals as goal

pub look_call-requires-clause-serves : goal.look_call-requires-clause-serves
look_call-requires-clause-serves g c = ap is_served c.requires.call

pub look_call-requires-clause-ranges : goal.look_call-requires-clause-ranges
look_call-requires-clause-ranges g c = subst KeepsRanges (sym c.requires.call) tt

pub look_call-requires-clause-ready : goal.look_call-requires-clause-ready
look_call-requires-clause-ready g c = λ m told. subst (MaySee (geometry_of c.args.sup.now) c.args.bitmap.now (over c.args.group.now m)) (sym c.requires.call) (c.requires.ready m told)

pub reply_looked-requires-clause-serves : goal.reply_looked-requires-clause-serves
reply_looked-requires-clause-serves g c = ap is_served c.requires.call

pub reply_looked-requires-clause-ranges : goal.reply_looked-requires-clause-ranges
reply_looked-requires-clause-ranges g c = subst KeepsRanges (sym c.requires.call) tt

pub reply_looked-requires-clause-own : goal.reply_looked-requires-clause-own
reply_looked-requires-clause-own g c = c.in-Ok.ensures.own

pub reply_looked-requires-clause-may : goal.reply_looked-requires-clause-may
reply_looked-requires-clause-may g c = c.in-Ok.ensures.may

pub reply_looked-requires-clause-empty : goal.reply_looked-requires-clause-empty
reply_looked-requires-clause-empty g c = λ idle. c.in-Ok-places_for.ensures.group ∙ c.in-Ok.ensures.group ∙ c.requires.empty idle

pub returns-in-Err-clause-put_off : goal.returns-in-Err-clause-put_off
returns-in-Err-clause-put_off g c = λ m tree lists told ready.
    that_err (reply_to c.in-Err.fault) (IsNoReply (geometry_of c.args.sup.now) c.args.bitmap.now (over c.args.group.now m) (length c.args.group.now) tree c.args.holds.now (c.args.idle ≡ true) c.args.call.now) c.reply_to_step.result c.reply_to_step.ensures tt

pub returns-in-Err-places_for-clause-put_off : goal.returns-in-Err-places_for-clause-put_off
returns-in-Err-places_for-clause-put_off g c = λ m tree lists told ready.
    that_err (reply_to_block c.in-Err-places_for.fault) (IsNoReply (geometry_of c.args.sup.now) c.args.bitmap.now (over c.args.group.now m) (length c.args.group.now) tree c.args.holds.now (c.args.idle ≡ true) c.args.call.now) c.reply_instead.result c.reply_instead.ensures tt

pub returns-in-Err-clause-replied : goal.returns-in-Err-clause-replied
returns-in-Err-clause-replied g c = λ m tree lists told ready.
    let s = geometry_of c.args.sup.now in
    that_ok (reply_to c.in-Err.fault) (IsReplied s c.args.bitmap.now c.look_call.new.bitmap m c.args.group.now c.look_call.new.group tree c.args.holds.now (c.args.idle ≡ true) c.args.stamp c.args.call.now) c.reply_to_step.result c.reply_to_step.ensures
    (λ r is. away s c.args.bitmap.now c.look_call.new.bitmap m c.args.group.now c.look_call.new.group tree c.args.holds.now (c.args.idle ≡ true) c.args.stamp c.args.call.now r c.in-Err.ensures.bitmap c.in-Err.ensures.group
    (step_outside s c.args.bitmap.now (over c.args.group.now m) tree c.args.holds.now (c.args.idle ≡ true) c.args.call.now c.in-Err.fault r is (c.in-Err.ensures.unanswered m tree lists told ready)))

pub returns-in-Err-clause-places : goal.returns-in-Err-clause-places
returns-in-Err-clause-places g c =
    that_ok (reply_to c.in-Err.fault) (λ r. r ≡ replies.Done → (length c.args.places.now.items ≡ piece_blocks c.args.sup.now.block_size c.args.piece.at c.args.piece.length) × All (IsData (layout_of c.args.sup.now)) c.args.places.now.items) c.reply_to_step.result c.reply_to_step.ensures
    (λ r is done. absurd (step_undone c.in-Err.fault r is done))

pub returns-in-Err-clause-piece : goal.returns-in-Err-clause-piece
returns-in-Err-clause-piece g c = λ m tree lists told ready.
    that_ok (reply_to c.in-Err.fault) (λ r. r ≡ replies.Done → c.args.places.now.items ≡ piece_of c.args.sup.now.block_size c.args.piece.at c.args.piece.length (stream_blocks (volume_in (geometry_of c.args.sup.now) (over c.args.group.now m)) c.args.piece.id)) c.reply_to_step.result c.reply_to_step.ensures
    (λ r is done. absurd (step_undone c.in-Err.fault r is done))

pub returns-in-Err-places_for-clause-replied : goal.returns-in-Err-places_for-clause-replied
returns-in-Err-places_for-clause-replied g c = λ m tree lists told ready.
    let s = geometry_of c.args.sup.now in
    let there : IsReady s c.args.bitmap.now (over c.look_call.new.group m) tree lists = subst (λ (ps : List (ℕ × List ℕ)). IsReady s c.args.bitmap.now (over ps m) tree lists) (sym c.in-Ok.ensures.group) ready in
    let held : is_to_do c.in-Ok.looked ≡ true → IsHeldIn tree c.args.piece.id c.args.piece.at c.args.piece.length =
    looked_in s (over c.args.group.now m) tree c.args.holds.now c.args.call.now c.in-Ok.looked c.args.piece.id c.args.piece.at c.args.piece.length c.args.piece.write c.requires.call (c.in-Ok.ensures.looked m tree lists told ready) in
    that_ok (reply_to_block c.in-Err-places_for.fault) (IsReplied s c.args.bitmap.now c.look_call.new.bitmap m c.args.group.now c.places_for.new.group tree c.args.holds.now (c.args.idle ≡ true) c.args.stamp c.args.call.now) c.reply_instead.result c.reply_instead.ensures
    (λ r is. away s c.args.bitmap.now c.look_call.new.bitmap m c.args.group.now c.places_for.new.group tree c.args.holds.now (c.args.idle ≡ true) c.args.stamp c.args.call.now r c.in-Ok.ensures.bitmap (c.in-Err-places_for.ensures.group ∙ c.in-Ok.ensures.group)
    (block_outside s c.args.bitmap.now (over c.args.group.now m) tree c.args.holds.now (c.args.idle ≡ true) c.args.call.now c.in-Err-places_for.fault r is
    (c.in-Err-places_for.ensures.found m c.args.bitmap.now tree lists (c.in-Ok.ensures.told ∙ told) there held)))

pub returns-in-Err-places_for-clause-places : goal.returns-in-Err-places_for-clause-places
returns-in-Err-places_for-clause-places g c =
    that_ok (reply_to_block c.in-Err-places_for.fault) (λ r. r ≡ replies.Done → (length c.places_for.new.places.items ≡ piece_blocks c.args.sup.now.block_size c.args.piece.at c.args.piece.length) × All (IsData (layout_of c.args.sup.now)) c.places_for.new.places.items) c.reply_instead.result c.reply_instead.ensures
    (λ r is done. absurd (block_undone c.in-Err-places_for.fault r is done))

pub returns-in-Err-places_for-clause-piece : goal.returns-in-Err-places_for-clause-piece
returns-in-Err-places_for-clause-piece g c = λ m tree lists told ready.
    that_ok (reply_to_block c.in-Err-places_for.fault) (λ r. r ≡ replies.Done → c.places_for.new.places.items ≡ piece_of c.args.sup.now.block_size c.args.piece.at c.args.piece.length (stream_blocks (volume_in (geometry_of c.args.sup.now) (over c.args.group.now m)) c.args.piece.id)) c.reply_instead.result c.reply_instead.ensures
    (λ r is done. absurd (block_undone c.in-Err-places_for.fault r is done))

pub returns-in-Err-places_for-clause-cause : goal.returns-in-Err-places_for-clause-cause
returns-in-Err-places_for-clause-cause g c = λ stop.
    let a = g.B.Blocks.counts c.args.under.now in
    let b = g.B.Blocks.counts c.look_call.new.under in
    let d = g.B.Blocks.counts c.places_for.new.under in
    that_ok (reply_to_block c.in-Err-places_for.fault) (HasReplyCause a d stop) c.reply_instead.result c.reply_instead.ensures
    (λ r is. reply_earlier a b d stop r c.in-Ok.ensures.later (block_caused b d stop c.in-Err-places_for.fault r is c.in-Err-places_for.ensures.cause))

pub returns-in-Err-clause-cause : goal.returns-in-Err-clause-cause
returns-in-Err-clause-cause g c = λ stop.
    let a = g.B.Blocks.counts c.args.under.now in
    let b = g.B.Blocks.counts c.look_call.new.under in
    that_ok (reply_to c.in-Err.fault) (HasReplyCause a b stop) c.reply_to_step.result c.reply_to_step.ensures (λ r is. step_answered a b stop c.in-Err.fault r is c.in-Err.ensures.cause)

pub reply_looked-requires-clause-ready : goal.reply_looked-requires-clause-ready
reply_looked-requires-clause-ready g c = λ m told.
    subst (λ (x : Room). HasReady (geometry_of c.args.sup.now) x (over c.places_for.new.group m)) (sym c.in-Ok.ensures.bitmap)
    (subst (λ (ps : List (ℕ × List ℕ)). HasReady (geometry_of c.args.sup.now) c.args.bitmap.now (over ps m)) (sym (c.in-Ok-places_for.ensures.group ∙ c.in-Ok.ensures.group)) (c.requires.ready m (sym (c.in-Ok-places_for.ensures.told ∙ c.in-Ok.ensures.told) ∙ told)))

pub reply_looked-requires-clause-looked : goal.reply_looked-requires-clause-looked
reply_looked-requires-clause-looked g c = λ m tree lists told ready.
    let s = geometry_of c.args.sup.now in
    let same = c.in-Ok-places_for.ensures.group ∙ c.in-Ok.ensures.group in
    let here : IsReady s c.args.bitmap.now (over c.args.group.now m) tree lists =
    subst (λ (ps : List (ℕ × List ℕ)). IsReady s c.args.bitmap.now (over ps m) tree lists) same (subst (λ (x : Room). IsReady s x (over c.places_for.new.group m) tree lists) c.in-Ok.ensures.bitmap ready) in
    subst (λ (ps : List (ℕ × List ℕ)). IsLooked s (over ps m) tree c.args.holds.now c.args.call.now c.in-Ok.looked) (sym same) (c.in-Ok.ensures.looked m tree lists (sym (c.in-Ok-places_for.ensures.told ∙ c.in-Ok.ensures.told) ∙ told) here)

pub returns-clause-replied : goal.returns-clause-replied
returns-clause-replied g c = λ m tree lists told ready.
    let s = geometry_of c.args.sup.now in
    let equal : to_z w64 (of_z w64 c.args.stamp) ≡ c.args.stamp = search rules in
    let same = c.in-Ok-places_for.ensures.group ∙ c.in-Ok.ensures.group in
    let there : IsReady s c.look_call.new.bitmap (over c.places_for.new.group m) tree lists =
    subst (λ (x : Room). IsReady s x (over c.places_for.new.group m) tree lists) (sym c.in-Ok.ensures.bitmap) (subst (λ (ps : List (ℕ × List ℕ)). IsReady s c.args.bitmap.now (over ps m) tree lists) (sym same) ready) in
    subst (λ (z : ℤ). IfOk c.reply_looked.result (IsReplied s c.args.bitmap.now c.reply_looked.new.bitmap m c.args.group.now c.reply_looked.new.group tree c.args.holds.now (c.args.idle ≡ true) z c.args.call.now)) equal
    (subst (λ (ps : List (ℕ × List ℕ)). IfOk c.reply_looked.result (IsReplied s c.args.bitmap.now c.reply_looked.new.bitmap m ps c.reply_looked.new.group tree c.args.holds.now (c.args.idle ≡ true) (to_z w64 (of_z w64 c.args.stamp)) c.args.call.now)) same
    (subst (λ (x : Room). IfOk c.reply_looked.result (IsReplied s x c.reply_looked.new.bitmap m c.places_for.new.group c.reply_looked.new.group tree c.args.holds.now (c.args.idle ≡ true) (to_z w64 (of_z w64 c.args.stamp)) c.args.call.now)) c.in-Ok.ensures.bitmap
    (c.reply_looked.ensures.replied m tree lists (c.in-Ok-places_for.ensures.told ∙ c.in-Ok.ensures.told ∙ told) there)))

pub returns-clause-put_off : goal.returns-clause-put_off
returns-clause-put_off g c = λ m tree lists told ready.
    let s = geometry_of c.args.sup.now in
    let same = c.in-Ok-places_for.ensures.group ∙ c.in-Ok.ensures.group in
    let there : IsReady s c.look_call.new.bitmap (over c.places_for.new.group m) tree lists =
    subst (λ (x : Room). IsReady s x (over c.places_for.new.group m) tree lists) (sym c.in-Ok.ensures.bitmap) (subst (λ (ps : List (ℕ × List ℕ)). IsReady s c.args.bitmap.now (over ps m) tree lists) (sym same) ready) in
    subst (λ (ps : List (ℕ × List ℕ)). IfErr c.reply_looked.result (IsNoReply s c.args.bitmap.now (over ps m) (length ps) tree c.args.holds.now (c.args.idle ≡ true) c.args.call.now)) same
    (subst (λ (x : Room). IfErr c.reply_looked.result (IsNoReply s x (over c.places_for.new.group m) (length c.places_for.new.group) tree c.args.holds.now (c.args.idle ≡ true) c.args.call.now)) c.in-Ok.ensures.bitmap
    (c.reply_looked.ensures.put_off m tree lists (c.in-Ok-places_for.ensures.told ∙ c.in-Ok.ensures.told ∙ told) there))

pub returns-clause-places : goal.returns-clause-places
returns-clause-places g c =
    IfOk-weaker c.reply_looked.result (λ (r : Reply). is_done r ≡ true → is_to_do c.in-Ok.looked ≡ true)
    (λ (r : Reply). r ≡ replies.Done → (length c.places_for.new.places.items ≡ piece_blocks c.args.sup.now.block_size c.args.piece.at c.args.piece.length) × All (IsData (layout_of c.args.sup.now)) c.places_for.new.places.items)
    (λ r taken done. c.in-Ok-places_for.ensures.places (taken (ap is_done done))) c.reply_looked.ensures.taken

pub returns-clause-piece : goal.returns-clause-piece
returns-clause-piece g c = λ m tree lists told ready.
    let s = geometry_of c.args.sup.now in
    let there : IsReady s c.args.bitmap.now (over c.look_call.new.group m) tree lists = subst (λ (ps : List (ℕ × List ℕ)). IsReady s c.args.bitmap.now (over ps m) tree lists) (sym c.in-Ok.ensures.group) ready in
    let held : is_to_do c.in-Ok.looked ≡ true → IsHeldIn tree c.args.piece.id c.args.piece.at c.args.piece.length =
    looked_in s (over c.args.group.now m) tree c.args.holds.now c.args.call.now c.in-Ok.looked c.args.piece.id c.args.piece.at c.args.piece.length c.args.piece.write c.requires.call (c.in-Ok.ensures.looked m tree lists told ready) in
    IfOk-weaker c.reply_looked.result (λ (r : Reply). is_done r ≡ true → is_to_do c.in-Ok.looked ≡ true)
    (λ (r : Reply). r ≡ replies.Done → c.places_for.new.places.items ≡ piece_of c.args.sup.now.block_size c.args.piece.at c.args.piece.length (stream_blocks (volume_in s (over c.args.group.now m)) c.args.piece.id))
    (λ r taken done. subst (λ (ps : List (ℕ × List ℕ)). c.places_for.new.places.items ≡ piece_of c.args.sup.now.block_size c.args.piece.at c.args.piece.length (stream_blocks (volume_in s (over ps m)) c.args.piece.id)) c.in-Ok.ensures.group
    (c.in-Ok-places_for.ensures.found m c.args.bitmap.now tree lists (c.in-Ok.ensures.told ∙ told) there held (taken (ap is_done done)))) c.reply_looked.ensures.taken

pub returns-clause-cause : goal.returns-clause-cause
returns-clause-cause g c = λ stop.
    let a = g.B.Blocks.counts c.args.under.now in
    let b = g.B.Blocks.counts c.look_call.new.under in
    let d = g.B.Blocks.counts c.places_for.new.under in
    let e = g.B.Blocks.counts c.reply_looked.new.under in
    IfOk-weaker c.reply_looked.result (HasReplyCause d e stop) (HasReplyCause a e stop)
    (λ r cause. reply_earlier a b e stop r c.in-Ok.ensures.later (reply_earlier b d e stop r c.in-Ok-places_for.ensures.later cause)) (c.reply_looked.ensures.cause stop)
