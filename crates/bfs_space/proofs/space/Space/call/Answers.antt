use Rattle.std.proofs.Common.{rules, inl, ◌≡◌, ◌∙◌, ◌+◌, ◌++◌, ◌∷◌, [], ℤ, Bool, true, false, List, Option, Some, None, length, refl, sym, ap, subst, arith, length-append, w64, to_z, of_z}
use Rattle.std.specs.Prelude.{is_some}
use Rattle.std.specs.List.{list_any}
use Rattle.bfs_super.specs.Geometry.{geometry_of}
use Rattle.bfs_txn.specs.Changed.{over}
use Rattle.bfs_tree.specs.declared.reply.Entry.{Entry}
use Rattle.bfs_tree.specs.declared.state.Hold.{Hold}
use Rattle.bfs_tree.specs.Histories.{after, drawn, is_stop, is_stopped, last_stamp}
use Rattle.bfs_device.specs.declared.journal.Stop.{Stop}
use Rattle.bfs_core.specs.Spaces.{face}
use Rattle.bfs_shift.specs.Laws.{lists_of}
use Rattle.bfs_shift.proofs.Basics.{some_bytes}
use Rattle.bfs_replies.specs.declared.replying.NoReply.{NoReply}
use Rattle.bfs_replies.specs.Books.{SpaceBooks, IsIdle, IsLastStamp, KnowsStop, entry_noted}
use Rattle.bfs_space.specs.Faces.{IsFaceOf, MayFace, HasEntered, HasReplied}
use Rattle.bfs_space.specs.Holds.{holds_after}
use Rattle.bfs_replies.specs.Resting.{SaysFound}
use Rattle.bfs_replies.specs.Looks.{RestsOn}
use Rattle.bfs_replies.proofs.Sees.{over_told}
use Rattle.bfs_space.proofs.Facing.{face_sees}
use Rattle.bfs_replies.specs.Replies.{IsNoReply, IsPutOff, IsReplied}
use Rattle.bfs_count.specs.Counts.{counted, nodes_of}
use Rattle.bfs_space.proofs.Counting.{counted_on, last_same}
use Rattle.bfs_replies.specs.Replaced.{FindsPlace}
use Rattle.bfs_tree.specs.declared.reply.Reply.{Reply}
use Rattle.bfs_tree.specs.Steps.{is_done}
use Rattle.bfs_space.proofs.Entering.{ready, replied_with}
use Rattle.bfs_space.proofs.Groups.{parts_kept}
use Rattle.bfs_space.proofs.Held.{held_is_after, kept_promises, still_held}
use Rattle.bfs_space.proofs.Stamps.{last_noted}
use Rattle.bfs_space.proofs.Stops.{caused_no_stop, stop_kept}
use Rattle.bfs_replies.proofs.Turned.{put_off_for}
use Rattle.bfs_space.proofs.space.Space.call.Goals as goal

some_stop : (o : Option Stop) → is_some o ≡ true → (s : Stop) × (o ≡ Some s)
some_stop None is = absurd (let bad : false ≡ true = is in cc)
some_stop (Some s) is = (s, refl)

true_of : (b : Bool) → (b ≡ false → ⊥) → b ≡ true
true_of true apart = refl
true_of false apart = absurd (apart refl)

pub reply_or_stopped-requires-clause-ready : goal.reply_or_stopped-requires-clause-ready
reply_or_stopped-requires-clause-ready g c = λ m told.
    let i = c.self.inside in
    let inside : SpaceBooks = record { view = record { sup = i.sup; used = i.bitmap.tally.used; group = i.group; history = i.history.items; sealed = i.sealed; sealed_used = i.sealed_used; given = i.bitmap.given }; room = i.bitmap; promised = i.promised.items; stop = i.stop; left = i.left; nodes = i.nodes } in
    let faced = subst (λ (b : SpaceBooks). MayFace b m c.args.call) (sym c.self.view_is) (c.requires.faced m told) in
    let size : g.B.Blocks.size c.args.under.now ≡ i.sup.block_size = subst (λ (b : SpaceBooks). g.B.Blocks.size c.args.under.now ≡ b.view.sup.block_size) (sym c.self.view_is) c.requires.size in
    let sized = over_told i.sup (g.B.Blocks.size c.args.under.now) (g.B.Blocks.told c.args.under.now) i.group m c.self.invariant.0.group size (g.met.B.Blocks.sized c.args.under.now) told in
    face_sees inside m c.self.invariant.0.volume (some_bytes i.sup c.self.invariant.0.valid) refl refl sized c.args.call faced

pub invariant_of-self-in-Ok-reply_or_stopped : goal.invariant_of-self-in-Ok-reply_or_stopped
invariant_of-self-in-Ok-reply_or_stopped g c =
    let i = c.self.inside in
    let last : to_z w64 (of_z w64 i.last) ≡ i.last = search rules in
    let kept : to_z w64 (of_z w64 c.draw-stamp.result) ≡ c.draw-stamp.result = search rules in
    let stamp : to_z w64 (of_z w64 c.draw-stamp.result) ≡ drawn i.last c.args.now = kept ∙ c.draw-stamp.ensures ∙ ap (λ (z : ℤ). drawn z c.args.now) last in
    let entry : Entry = record { session = c.args.session; tag = c.args.tag; stamp = to_z w64 (of_z w64 c.draw-stamp.result); call = c.args.call; reply = c.in-Ok-reply_or_stopped.reply } in
    let items : c.append.new.history.items ≡ i.history.items ++ entry ∷ [] = c.append.ensures.items ∙ ap (λ (l : List Entry). l ++ entry ∷ []) c.reserve.ensures.items in
    let long : length c.append.new.history.items ≡ length i.history.items + 1 = ap length items ∙ length-append i.history.items (entry ∷ []) in
    let capacity = c.append.ensures.room in
    let few = c.if-len.false in
    let one = c.len.ensures in
    let two = c.len-2.ensures in
    let room = c.in-Ok.ensures.ok in
    let three = c.len-3.ensures in
    let same = c.reserve.ensures.items in
    let as_long = ap length same in
    let silent = caused_no_stop (g.B.Blocks.counts c.args.under.now) (g.B.Blocks.counts c.reply_or_stopped.new.under) i.stop c.in-Ok-reply_or_stopped.reply c.in-Ok-reply_or_stopped.ensures.cause in (
      parts_kept i.sup i.bitmap c.reply_or_stopped.new.bitmap i.group c.reply_or_stopped.new.group i.sealed (length i.history.items) (length c.append.new.history.items) c.self.invariant.0
          c.reply_or_stopped.ensures.volume c.reply_or_stopped.ensures.settled c.reply_or_stopped.ensures.last c.reply_or_stopped.ensures.group (omega (arith, long)),
      subst (λ (z : ℤ). IsLastStamp c.append.new.history.items z) (sym stamp) (subst (λ (l : List Entry). IsLastStamp l (drawn i.last c.args.now)) (sym items) (last_noted i.history.items i.last c.args.now entry c.self.invariant.1 c.requires.now stamp)),
      omega (arith, long, capacity, room, three, as_long),
      omega (arith, long, few, one, two),
      subst (λ (l : List Entry). KnowsStop l i.stop) (sym items) (stop_kept i.history.items entry i.stop silent c.self.invariant.4),
      still_held i.holds.items i.history.items c.append.new.history.items entry items (inl c.requires.stays) c.self.invariant.5,
      c.self.invariant.6,
    )

pub returns-in-Ok-reply_or_stopped-clause-entered : goal.returns-in-Ok-reply_or_stopped-clause-entered
returns-in-Ok-reply_or_stopped-clause-entered g c = λ t0 m told face_of.
    let i = c.self.inside in
    let inside : SpaceBooks = record { view = record { sup = i.sup; used = i.bitmap.tally.used; group = i.group; history = i.history.items; sealed = i.sealed; sealed_used = i.sealed_used; given = i.bitmap.given }; room = i.bitmap; promised = i.promised.items; stop = i.stop; left = i.left; nodes = i.nodes } in
    let since : SpaceBooks = record { view = record { sup = i.sup; used = c.reply_or_stopped.new.bitmap.tally.used; group = c.reply_or_stopped.new.group; history = c.append.new.history.items; sealed = i.sealed; sealed_used = i.sealed_used; given = c.reply_or_stopped.new.bitmap.given }; room = c.reply_or_stopped.new.bitmap; promised = i.promised.items; stop = i.stop; left = i.left; nodes = c.counted-self-inside.result } in
    let f = subst (λ (b : SpaceBooks). IsFaceOf t0 b m) (sym c.self.view_is) face_of in
    let some = some_bytes i.sup c.self.invariant.0.valid in
    let volume = c.self.invariant.0.volume in
    let last : to_z w64 (of_z w64 i.last) ≡ i.last = search rules in
    let twice : to_z w64 (of_z w64 c.draw-stamp.result) ≡ c.draw-stamp.result = search rules in
    let stamp : to_z w64 (of_z w64 c.draw-stamp.result) ≡ drawn (last_stamp i.history.items) c.args.now = twice ∙ c.draw-stamp.ensures ∙ ap (λ (z : ℤ). drawn z c.args.now) (last ∙ c.self.invariant.1.last_is) in
    let items : c.append.new.history.items ≡ i.history.items ++ entry_noted inside c.args.session c.args.tag c.args.now c.args.call c.in-Ok-reply_or_stopped.reply ∷ [] =
    c.append.ensures.items ∙ (λ j. c.reserve.ensures.items j ++ (record { session = c.args.session; tag = c.args.tag; stamp = stamp j; call = c.args.call; reply = c.in-Ok-reply_or_stopped.reply }) ∷ []) in
    let tree = after t0 i.history.items in
    let lists = lists_of (face inside.view m) tree in
    let given : c.as_slice.result.now ≡ i.holds.items = search rules in
    let held : c.as_slice.result.now ≡ holds_after t0 i.history.items = given ∙ c.self.invariant.5 ∙ sym (held_is_after t0 i.history.items) in
    let replied : IsReplied (geometry_of i.sup) i.bitmap c.reply_or_stopped.new.bitmap m i.group c.reply_or_stopped.new.group tree (holds_after t0 i.history.items) (c.is_idle-idle.result ≡ true) (drawn (last_stamp i.history.items) c.args.now) c.args.call c.in-Ok-reply_or_stopped.reply =
    subst (λ (z : ℤ). IsReplied (geometry_of i.sup) i.bitmap c.reply_or_stopped.new.bitmap m i.group c.reply_or_stopped.new.group tree (holds_after t0 i.history.items) (c.is_idle-idle.result ≡ true) z c.args.call c.in-Ok-reply_or_stopped.reply) stamp
    (subst (λ (hs : List Hold). IsReplied (geometry_of i.sup) i.bitmap c.reply_or_stopped.new.bitmap m i.group c.reply_or_stopped.new.group tree hs (c.is_idle-idle.result ≡ true) (to_z w64 (of_z w64 c.draw-stamp.result)) c.args.call c.in-Ok-reply_or_stopped.reply) held
    (c.in-Ok-reply_or_stopped.ensures.replied m tree lists told (ready t0 inside m f volume some refl refl))) in
    let idle : c.is_idle-idle.result ≡ true → IsIdle inside = λ e. subst (λ (h : List Entry). IsIdle (record { view = record { sup = i.sup; used = i.bitmap.tally.used; group = i.group; history = h; sealed = i.sealed; sealed_used = i.sealed_used; given = i.bitmap.given }; room = i.bitmap; promised = i.promised.items; stop = i.stop; left = i.left; nodes = i.nodes })) c.reserve.ensures.items (c.is_idle-idle.ensures.idle e) in
    let quiet : list_any (λ (e : Entry). is_stop e.reply) i.history.items ≡ true → is_stopped c.in-Ok-reply_or_stopped.reply ≡ true = λ any. let s = some_stop i.stop (sym c.self.invariant.4 ∙ any) in c.in-Ok-reply_or_stopped.ensures.stopped s.0 s.1 in
    subst (λ (b : SpaceBooks). HasEntered t0 b since m c.args.session c.args.tag c.args.now c.args.call) c.self.view_is
    (replied_with t0 inside m f volume some refl refl c.args.session c.args.tag c.args.now c.args.call c.in-Ok-reply_or_stopped.reply c.requires.session c.requires.call quiet (c.is_idle-idle.result ≡ true) c.reply_or_stopped.new.bitmap c.reply_or_stopped.new.group
    c.append.new.history.items i.promised.items i.stop i.left c.counted-self-inside.result c.reply_or_stopped.ensures.group.sized idle replied items)

pub returns-in-Ok-reply_or_stopped-clause-rests : goal.returns-in-Ok-reply_or_stopped-clause-rests
returns-in-Ok-reply_or_stopped-clause-rests g c = λ t0 m w name low high told is face_of says.
    let i = c.self.inside in
    let inside : SpaceBooks = record { view = record { sup = i.sup; used = i.bitmap.tally.used; group = i.group; history = i.history.items; sealed = i.sealed; sealed_used = i.sealed_used; given = i.bitmap.given }; room = i.bitmap; promised = i.promised.items; stop = i.stop; left = i.left; nodes = i.nodes } in
    let since : SpaceBooks = record { view = record { sup = i.sup; used = c.reply_or_stopped.new.bitmap.tally.used; group = c.reply_or_stopped.new.group; history = c.append.new.history.items; sealed = i.sealed; sealed_used = i.sealed_used; given = c.reply_or_stopped.new.bitmap.given }; room = c.reply_or_stopped.new.bitmap; promised = i.promised.items; stop = i.stop; left = i.left; nodes = c.counted-self-inside.result } in
    let f = subst (λ (b : SpaceBooks). IsFaceOf t0 b w) (sym c.self.view_is) face_of in
    let rests : RestsOn (geometry_of i.sup) (over i.group w) (over i.group m) (after t0 i.history.items) c.args.call =
    subst (RestsOn (geometry_of i.sup) (over i.group w) (over i.group m) (after t0 i.history.items)) (sym is) (subst (λ (b : SpaceBooks). SaysFound (geometry_of b.view.sup) (over b.view.group w) (over b.view.group m) (after t0 b.view.history) name low high) (sym c.self.view_is) says) in
    let some = some_bytes i.sup c.self.invariant.0.valid in
    let volume = c.self.invariant.0.volume in
    let last : to_z w64 (of_z w64 i.last) ≡ i.last = search rules in
    let twice : to_z w64 (of_z w64 c.draw-stamp.result) ≡ c.draw-stamp.result = search rules in
    let stamp : to_z w64 (of_z w64 c.draw-stamp.result) ≡ drawn (last_stamp i.history.items) c.args.now = twice ∙ c.draw-stamp.ensures ∙ ap (λ (z : ℤ). drawn z c.args.now) (last ∙ c.self.invariant.1.last_is) in
    let items : c.append.new.history.items ≡ i.history.items ++ entry_noted inside c.args.session c.args.tag c.args.now c.args.call c.in-Ok-reply_or_stopped.reply ∷ [] =
    c.append.ensures.items ∙ (λ j. c.reserve.ensures.items j ++ (record { session = c.args.session; tag = c.args.tag; stamp = stamp j; call = c.args.call; reply = c.in-Ok-reply_or_stopped.reply }) ∷ []) in
    let tree = after t0 i.history.items in
    let lists = lists_of (face inside.view w) tree in
    let given : c.as_slice.result.now ≡ i.holds.items = search rules in
    let held : c.as_slice.result.now ≡ holds_after t0 i.history.items = given ∙ c.self.invariant.5 ∙ sym (held_is_after t0 i.history.items) in
    let replied : IsReplied (geometry_of i.sup) i.bitmap c.reply_or_stopped.new.bitmap w i.group c.reply_or_stopped.new.group tree (holds_after t0 i.history.items) (c.is_idle-idle.result ≡ true) (drawn (last_stamp i.history.items) c.args.now) c.args.call c.in-Ok-reply_or_stopped.reply =
    subst (λ (z : ℤ). IsReplied (geometry_of i.sup) i.bitmap c.reply_or_stopped.new.bitmap w i.group c.reply_or_stopped.new.group tree (holds_after t0 i.history.items) (c.is_idle-idle.result ≡ true) z c.args.call c.in-Ok-reply_or_stopped.reply) stamp
    (subst (λ (hs : List Hold). IsReplied (geometry_of i.sup) i.bitmap c.reply_or_stopped.new.bitmap w i.group c.reply_or_stopped.new.group tree hs (c.is_idle-idle.result ≡ true) (to_z w64 (of_z w64 c.draw-stamp.result)) c.args.call c.in-Ok-reply_or_stopped.reply) held
    (c.in-Ok-reply_or_stopped.ensures.rests_replied m w tree lists told (ready t0 inside w f volume some refl refl) rests)) in
    let idle : c.is_idle-idle.result ≡ true → IsIdle inside = λ e. subst (λ (h : List Entry). IsIdle (record { view = record { sup = i.sup; used = i.bitmap.tally.used; group = i.group; history = h; sealed = i.sealed; sealed_used = i.sealed_used; given = i.bitmap.given }; room = i.bitmap; promised = i.promised.items; stop = i.stop; left = i.left; nodes = i.nodes })) c.reserve.ensures.items (c.is_idle-idle.ensures.idle e) in
    let quiet : list_any (λ (e : Entry). is_stop e.reply) i.history.items ≡ true → is_stopped c.in-Ok-reply_or_stopped.reply ≡ true = λ any. let s = some_stop i.stop (sym c.self.invariant.4 ∙ any) in c.in-Ok-reply_or_stopped.ensures.stopped s.0 s.1 in
    subst (λ (b : SpaceBooks). HasEntered t0 b since w c.args.session c.args.tag c.args.now c.args.call) c.self.view_is
    (replied_with t0 inside w f volume some refl refl c.args.session c.args.tag c.args.now c.args.call c.in-Ok-reply_or_stopped.reply c.requires.session c.requires.call quiet (c.is_idle-idle.result ≡ true) c.reply_or_stopped.new.bitmap c.reply_or_stopped.new.group
    c.append.new.history.items i.promised.items i.stop i.left c.counted-self-inside.result c.reply_or_stopped.ensures.group.sized idle replied items)

pub returns-in-Ok-reply_or_stopped-clause-counted : goal.returns-in-Ok-reply_or_stopped-clause-counted
returns-in-Ok-reply_or_stopped-clause-counted g c = λ t0 m told face_of counts.
    let i = c.self.inside in
    let inside : SpaceBooks = record { view = record { sup = i.sup; used = i.bitmap.tally.used; group = i.group; history = i.history.items; sealed = i.sealed; sealed_used = i.sealed_used; given = i.bitmap.given }; room = i.bitmap; promised = i.promised.items; stop = i.stop; left = i.left; nodes = i.nodes } in
    let since : SpaceBooks = record { view = record { sup = i.sup; used = c.reply_or_stopped.new.bitmap.tally.used; group = c.reply_or_stopped.new.group; history = c.append.new.history.items; sealed = i.sealed; sealed_used = i.sealed_used; given = c.reply_or_stopped.new.bitmap.given }; room = c.reply_or_stopped.new.bitmap; promised = i.promised.items; stop = i.stop; left = i.left; nodes = c.counted-self-inside.result } in
    let f = subst (λ (b : SpaceBooks). IsFaceOf t0 b m) (sym c.self.view_is) face_of in
    let e : HasEntered t0 inside since m c.args.session c.args.tag c.args.now c.args.call =
    subst (λ (b : SpaceBooks). HasEntered t0 b since m c.args.session c.args.tag c.args.now c.args.call) (sym c.self.view_is) (returns-in-Ok-reply_or_stopped-clause-entered g c t0 m told face_of) in
    let counts_inside : i.nodes ≡ nodes_of (after t0 i.history.items) = subst (λ (b : SpaceBooks). b.nodes ≡ nodes_of (after t0 b.view.history)) (sym c.self.view_is) counts in
    let tree = after t0 i.history.items in
    let lists = lists_of (face inside.view m) tree in
    let entry : Entry = record { session = c.args.session; tag = c.args.tag; stamp = to_z w64 (of_z w64 c.draw-stamp.result); call = c.args.call; reply = c.in-Ok-reply_or_stopped.reply } in
    let reply : e.reply ≡ c.in-Ok-reply_or_stopped.reply = ap (λ (x : Entry). x.reply)
    (last_same i.history.items c.reserve.new.self.items (entry_noted inside c.args.session c.args.tag c.args.now c.args.call e.reply) entry (sym e.entered.history ∙ c.append.ensures.items)) in
    let found : is_done e.reply ≡ true → FindsPlace tree c.args.call c.reply_or_stopped.new.replaced = λ done.
    c.in-Ok-reply_or_stopped.ensures.found m tree lists told (ready t0 inside m f c.self.invariant.0.volume (some_bytes i.sup c.self.invariant.0.valid) refl refl) (ap is_done (sym reply) ∙ done) in
    c.counted-self-inside.ensures.value ∙ ap (λ (r : Reply). counted i.nodes c.args.call r c.reply_or_stopped.new.replaced) (sym reply)
    ∙ counted_on t0 i.history.items c.append.new.history.items (entry_noted inside c.args.session c.args.tag c.args.now c.args.call e.reply) i.nodes c.reply_or_stopped.new.replaced e.entered.history e.entered.follows counts_inside found

pub returns-in-Ok-reply_or_stopped-clause-noted : goal.returns-in-Ok-reply_or_stopped-clause-noted
returns-in-Ok-reply_or_stopped-clause-noted g c =
    let i = c.self.inside in
    let inside : SpaceBooks = record { view = record { sup = i.sup; used = i.bitmap.tally.used; group = i.group; history = i.history.items; sealed = i.sealed; sealed_used = i.sealed_used; given = i.bitmap.given }; room = i.bitmap; promised = i.promised.items; stop = i.stop; left = i.left; nodes = i.nodes } in
    let since : SpaceBooks = record { view = record { sup = i.sup; used = c.reply_or_stopped.new.bitmap.tally.used; group = c.reply_or_stopped.new.group; history = c.append.new.history.items; sealed = i.sealed; sealed_used = i.sealed_used; given = c.reply_or_stopped.new.bitmap.given }; room = c.reply_or_stopped.new.bitmap; promised = i.promised.items; stop = i.stop; left = i.left; nodes = c.counted-self-inside.result } in
    let last : to_z w64 (of_z w64 i.last) ≡ i.last = search rules in
    let twice : to_z w64 (of_z w64 c.draw-stamp.result) ≡ c.draw-stamp.result = search rules in
    let stamp : to_z w64 (of_z w64 c.draw-stamp.result) ≡ drawn (last_stamp i.history.items) c.args.now = twice ∙ c.draw-stamp.ensures ∙ ap (λ (z : ℤ). drawn z c.args.now) (last ∙ c.self.invariant.1.last_is) in
    let items : c.append.new.history.items ≡ i.history.items ++ entry_noted inside c.args.session c.args.tag c.args.now c.args.call c.in-Ok-reply_or_stopped.reply ∷ [] =
    c.append.ensures.items ∙ (λ j. c.reserve.ensures.items j ++ (record { session = c.args.session; tag = c.args.tag; stamp = stamp j; call = c.args.call; reply = c.in-Ok-reply_or_stopped.reply }) ∷ []) in
    let replied : HasReplied (g.B.Blocks.counts c.args.under.now) (g.B.Blocks.counts c.reply_or_stopped.new.under) inside since c.args.session c.args.tag c.args.now c.args.call = record {
      reply = c.in-Ok-reply_or_stopped.reply;
      history = items;
      cause = c.in-Ok-reply_or_stopped.ensures.cause;
      same = record { sup = refl; sealed = refl; sealed_used = refl };
      idle = c.reply_or_stopped.ensures.idle;
      promised = sym (kept_promises c.args.session c.args.call c.in-Ok-reply_or_stopped.reply i.promised.items c.requires.stays);
      stop = refl;
      left = refl;
    } in
    subst (λ (b : SpaceBooks). HasReplied (g.B.Blocks.counts c.args.under.now) (g.B.Blocks.counts c.reply_or_stopped.new.under) b since c.args.session c.args.tag c.args.now c.args.call) c.self.view_is replied

pub returns-in-Err-Drain-clause-entered : goal.returns-in-Err-Drain-clause-entered
returns-in-Err-Drain-clause-entered g c = λ t0 m told face_of.
    let i = c.self.inside in
    let inside : SpaceBooks = record { view = record { sup = i.sup; used = i.bitmap.tally.used; group = i.group; history = i.history.items; sealed = i.sealed; sealed_used = i.sealed_used; given = i.bitmap.given }; room = i.bitmap; promised = i.promised.items; stop = i.stop; left = i.left; nodes = i.nodes } in
    let f = subst (λ (b : SpaceBooks). IsFaceOf t0 b m) (sym c.self.view_is) face_of in
    let tree = after t0 i.history.items in
    let lists = lists_of (face inside.view m) tree in
    let given : c.as_slice.result.now ≡ i.holds.items = search rules in
    let held : c.as_slice.result.now ≡ holds_after t0 i.history.items = given ∙ c.self.invariant.5 ∙ sym (held_is_after t0 i.history.items) in
    let why : IsNoReply (geometry_of i.sup) i.bitmap (over i.group m) (length i.group) tree (holds_after t0 i.history.items) (c.is_idle-idle.result ≡ true) c.args.call c.in-Err-Drain.field-0 =
    subst (λ (hs : List Hold). IsNoReply (geometry_of i.sup) i.bitmap (over i.group m) (length i.group) tree hs (c.is_idle-idle.result ≡ true) c.args.call c.in-Err-Drain.field-0) held
    (c.in-Err-Drain.ensures.put_off m tree lists told (ready t0 inside m f c.self.invariant.0.volume (some_bytes i.sup c.self.invariant.0.valid) refl refl)) in
    let off = subst (λ (e : NoReply). IsNoReply (geometry_of i.sup) i.bitmap (over i.group m) (length i.group) tree (holds_after t0 i.history.items) (c.is_idle-idle.result ≡ true) c.args.call e) c.in-Err-Drain.field-0-is why in
    let idle : IsIdle inside → c.is_idle-idle.result ≡ true = λ q. true_of c.is_idle-idle.result (λ none. c.is_idle-idle.ensures.busy none (subst (λ (h : List Entry). IsIdle (record { view = record { sup = i.sup; used = i.bitmap.tally.used; group = i.group; history = h; sealed = i.sealed; sealed_used = i.sealed_used; given = i.bitmap.given }; room = i.bitmap; promised = i.promised.items; stop = i.stop; left = i.left; nodes = i.nodes })) (sym c.reserve.ensures.items) q)) in
    subst (λ (b : SpaceBooks). IsPutOff (geometry_of b.view.sup) b.room (over b.view.group m) (length b.view.group) (after t0 b.view.history) (holds_after t0 b.view.history) (IsIdle b) c.args.call) c.self.view_is
    (put_off_for (geometry_of i.sup) i.bitmap (over i.group m) (length i.group) tree (holds_after t0 i.history.items) (c.is_idle-idle.result ≡ true) (IsIdle inside) c.args.call idle off)

pub returns-in-Err-Drain-clause-rests : goal.returns-in-Err-Drain-clause-rests
returns-in-Err-Drain-clause-rests g c = λ t0 m w name low high told is face_of says.
    let i = c.self.inside in
    let inside : SpaceBooks = record { view = record { sup = i.sup; used = i.bitmap.tally.used; group = i.group; history = i.history.items; sealed = i.sealed; sealed_used = i.sealed_used; given = i.bitmap.given }; room = i.bitmap; promised = i.promised.items; stop = i.stop; left = i.left; nodes = i.nodes } in
    let f = subst (λ (b : SpaceBooks). IsFaceOf t0 b w) (sym c.self.view_is) face_of in
    let rests : RestsOn (geometry_of i.sup) (over i.group w) (over i.group m) (after t0 i.history.items) c.args.call =
    subst (RestsOn (geometry_of i.sup) (over i.group w) (over i.group m) (after t0 i.history.items)) (sym is) (subst (λ (b : SpaceBooks). SaysFound (geometry_of b.view.sup) (over b.view.group w) (over b.view.group m) (after t0 b.view.history) name low high) (sym c.self.view_is) says) in
    let tree = after t0 i.history.items in
    let lists = lists_of (face inside.view w) tree in
    let given : c.as_slice.result.now ≡ i.holds.items = search rules in
    let held : c.as_slice.result.now ≡ holds_after t0 i.history.items = given ∙ c.self.invariant.5 ∙ sym (held_is_after t0 i.history.items) in
    let why : IsNoReply (geometry_of i.sup) i.bitmap (over i.group w) (length i.group) tree (holds_after t0 i.history.items) (c.is_idle-idle.result ≡ true) c.args.call c.in-Err-Drain.field-0 =
    subst (λ (hs : List Hold). IsNoReply (geometry_of i.sup) i.bitmap (over i.group w) (length i.group) tree hs (c.is_idle-idle.result ≡ true) c.args.call c.in-Err-Drain.field-0) held
    (c.in-Err-Drain.ensures.rests_put_off m w tree lists told (ready t0 inside w f c.self.invariant.0.volume (some_bytes i.sup c.self.invariant.0.valid) refl refl) rests) in
    let off = subst (λ (e : NoReply). IsNoReply (geometry_of i.sup) i.bitmap (over i.group w) (length i.group) tree (holds_after t0 i.history.items) (c.is_idle-idle.result ≡ true) c.args.call e) c.in-Err-Drain.field-0-is why in
    let idle : IsIdle inside → c.is_idle-idle.result ≡ true = λ q. true_of c.is_idle-idle.result (λ none. c.is_idle-idle.ensures.busy none (subst (λ (h : List Entry). IsIdle (record { view = record { sup = i.sup; used = i.bitmap.tally.used; group = i.group; history = h; sealed = i.sealed; sealed_used = i.sealed_used; given = i.bitmap.given }; room = i.bitmap; promised = i.promised.items; stop = i.stop; left = i.left; nodes = i.nodes })) (sym c.reserve.ensures.items) q)) in
    subst (λ (b : SpaceBooks). IsPutOff (geometry_of b.view.sup) b.room (over b.view.group w) (length b.view.group) (after t0 b.view.history) (holds_after t0 b.view.history) (IsIdle b) c.args.call) c.self.view_is
    (put_off_for (geometry_of i.sup) i.bitmap (over i.group w) (length i.group) tree (holds_after t0 i.history.items) (c.is_idle-idle.result ≡ true) (IsIdle inside) c.args.call idle off)
