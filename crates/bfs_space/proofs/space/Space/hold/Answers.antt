use Rattle.std.proofs.Common.{rules, ℕ, ◌≡◌, ◌∙◌, ◌+◌, ◌++◌, ◌∷◌, [], ℤ, Bool, true, false, List, Option, Some, None, length, refl, sym, ap, subst, arith, length-append, w64, to_z, of_z}
use Rattle.std.specs.Prelude.{is_some}
use Rattle.std.specs.List.{All, list_any}
use Rattle.bfs_super.specs.Geometry.{geometry_of}
use Rattle.bfs_txn.specs.Changed.{over}
use Rattle.bfs_tree.specs.declared.call.Call.{Call}
use Rattle.bfs_tree.specs.declared.call.Call.TheVariants as calls
use Rattle.bfs_tree.specs.declared.reply.Entry.{Entry}
use Rattle.bfs_tree.specs.declared.state.Hold.{Hold}
use Rattle.bfs_tree.specs.Steps.{is_done}
use Rattle.bfs_tree.specs.Histories.{after, drawn, is_stop, is_stopped, last_stamp}
use Rattle.bfs_device.specs.declared.journal.Stop.{Stop}
use Rattle.bfs_device.specs.Layouts.{IsData, layout_of}
use Rattle.bfs_core.specs.Spaces.{face}
use Rattle.bfs_shift.specs.Laws.{lists_of}
use Rattle.bfs_shift.proofs.Basics.{some_bytes}
use Rattle.bfs_sound.specs.Inodes.{stream_blocks}
use Rattle.bfs_replies.specs.Places.{piece_blocks, piece_of}
use Rattle.bfs_replies.specs.declared.replying.NoReply.{NoReply}
use Rattle.bfs_replies.specs.Books.{SpaceBooks, IsIdle, IsLastStamp, KnowsStop, entry_noted}
use Rattle.bfs_space.specs.Faces.{IsFaceOf, HasFace, HasEntered, HasReplied, promised_after}
use Rattle.bfs_space.specs.Holds.{held_next, holds_after}
use Rattle.bfs_replies.specs.Replies.{IsNoReply, IsPutOff, IsReplied}
use Rattle.bfs_count.specs.Counts.{nodes_of}
use Rattle.bfs_space.proofs.Counting.{counted_on}
use Rattle.bfs_space.proofs.Entering.{ready, replied_with}
use Rattle.bfs_space.proofs.Groups.{parts_kept}
use Rattle.bfs_space.proofs.Held.{held_is_after, now_held}
use Rattle.bfs_space.proofs.Sited.{done_taken, last_is, no_more, piece_same}
use Rattle.bfs_space.proofs.Stamps.{last_noted}
use Rattle.bfs_space.proofs.Stops.{caused_no_stop, stop_kept}
use Rattle.bfs_replies.proofs.Turned.{put_off_for}
use Rattle.bfs_space.proofs.space.Space.hold.Goals as goal

some_stop : (o : Option Stop) → is_some o ≡ true → (s : Stop) × (o ≡ Some s)
some_stop None is = absurd (let bad : false ≡ true = is in cc)
some_stop (Some s) is = (s, refl)

true_of : (b : Bool) → (b ≡ false → ⊥) → b ≡ true
true_of true apart = refl
true_of false apart = absurd (apart refl)

pub hold_or_stopped-requires-clause-ready : goal.hold_or_stopped-requires-clause-ready
hold_or_stopped-requires-clause-ready g c = λ m told.
    let i = c.self.inside in
    let inside : SpaceBooks = record { view = record { sup = i.sup; used = i.bitmap.tally.used; group = i.group; history = i.history.items; sealed = i.sealed; sealed_used = i.sealed_used; given = i.bitmap.given }; room = i.bitmap; promised = i.promised.items; stop = i.stop; left = i.left; nodes = i.nodes } in
    let h = subst (λ (b : SpaceBooks). HasFace b m) (sym c.self.view_is) (c.requires.faced m told) in
    record {
      tree = after h.t0 i.history.items;
      lists = lists_of (face inside.view m) (after h.t0 i.history.items);
      ready = ready h.t0 inside m h.face c.self.invariant.0.volume (some_bytes i.sup c.self.invariant.0.valid) refl refl;
    }

pub make_room-requires : goal.make_room-requires
make_room-requires g c = let few = c.if-len.false in let one = c.len.ensures in let two = c.len-2.ensures in omega (arith, few, one, two)

pub hold_or_stopped-requires-clause-call : goal.hold_or_stopped-requires-clause-call
hold_or_stopped-requires-clause-call g c = c.hold_of-call.ensures

pub take_entry-requires-clause-entries : goal.take_entry-requires-clause-entries
take_entry-requires-clause-entries g c = let room = c.in-Ok.ensures.entries in let same = ap length c.make_room.ensures.history in omega (arith, room, same)

pub take_entry-requires-clause-promise : goal.take_entry-requires-clause-promise
take_entry-requires-clause-promise g c = let room = c.in-Ok.ensures.promise in let same = ap length c.make_room.ensures.promised in omega (arith, room, same)

pub take_entry-requires-clause-hold : goal.take_entry-requires-clause-hold
take_entry-requires-clause-hold g c = let room = c.in-Ok.ensures.hold in let same = ap length c.make_room.ensures.holds in omega (arith, room, same)

pub returns-in-Err-clause-no_memory : goal.returns-in-Err-clause-no_memory
returns-in-Err-clause-no_memory g c =
    let i = c.self.inside in
    let history = c.make_room.ensures.history in
    let promised = c.make_room.ensures.promised in
    (λ j. record { view = record { sup = i.sup; used = i.bitmap.tally.used; group = i.group; history = history j; sealed = i.sealed; sealed_used = i.sealed_used; given = i.bitmap.given }; room = i.bitmap; promised = promised j; stop = i.stop; left = i.left; nodes = i.nodes })
    ∙ c.self.view_is

pub returns-in-Err-NoMemory-clause-no_memory : goal.returns-in-Err-NoMemory-clause-no_memory
returns-in-Err-NoMemory-clause-no_memory g c =
    let i = c.self.inside in
    let history = c.make_room.ensures.history in
    let promised = c.make_room.ensures.promised in
    let group = c.in-Err-NoMemory.ensures.left.0 in
    let room = c.in-Err-NoMemory.ensures.left.1 in
    (λ j. record { view = record { sup = i.sup; used = (room j).tally.used; group = group j; history = history j; sealed = i.sealed; sealed_used = i.sealed_used; given = (room j).given }; room = room j; promised = promised j; stop = i.stop; left = i.left; nodes = i.nodes })
    ∙ c.self.view_is

pub returns-in-Err-Drain-clause-noted : goal.returns-in-Err-Drain-clause-noted
returns-in-Err-Drain-clause-noted g c =
    let i = c.self.inside in
    let history = c.make_room.ensures.history in
    let promised = c.make_room.ensures.promised in
    let group = c.in-Err-Drain.ensures.left.0 in
    let room = c.in-Err-Drain.ensures.left.1 in (
      c.hold_of-call.ensures,
      (λ j. record { view = record { sup = i.sup; used = (room j).tally.used; group = group j; history = history j; sealed = i.sealed; sealed_used = i.sealed_used; given = (room j).given }; room = room j; promised = promised j; stop = i.stop; left = i.left; nodes = i.nodes })
          ∙ c.self.view_is,
    )

pub invariant_of-self-in-Ok-hold_or_stopped : goal.invariant_of-self-in-Ok-hold_or_stopped
invariant_of-self-in-Ok-hold_or_stopped g c =
    let i = c.self.inside in
    let last : to_z w64 (of_z w64 i.last) ≡ i.last = search rules in
    let kept : to_z w64 (of_z w64 c.draw-stamp.result) ≡ c.draw-stamp.result = search rules in
    let stamp : to_z w64 (of_z w64 c.draw-stamp.result) ≡ drawn i.last c.args.now = kept ∙ c.draw-stamp.ensures ∙ ap (λ (z : ℤ). drawn z c.args.now) last in
    let entry : Entry = record { session = c.args.session; tag = c.args.tag; stamp = to_z w64 (of_z w64 c.draw-stamp.result); call = c.hold_of-call.result; reply = c.in-Ok-hold_or_stopped.reply } in
    let items : c.take_entry.new.history.items ≡ i.history.items ++ entry ∷ [] = c.take_entry.ensures.history ∙ ap (λ (l : List Entry). l ++ entry ∷ []) c.make_room.ensures.history in
    let long : length c.take_entry.new.history.items ≡ length i.history.items + 1 = ap length items ∙ length-append i.history.items (entry ∷ []) in
    let capacity = c.take_entry.ensures.entry_room in
    let room = c.in-Ok.ensures.entries in
    let few = c.if-len.false in
    let one = c.len.ensures in
    let two = c.len-2.ensures in
    let promises = c.take_entry.ensures.few in
    let kept_promises = ap length c.make_room.ensures.promised in
    let held_room = c.in-Ok.ensures.hold in
    let held_capacity = c.take_entry.ensures.hold_room in
    let more_holds = c.take_entry.ensures.fewer in
    let kept_holds = ap length c.make_room.ensures.holds in
    let held = c.take_entry.ensures.holds ∙ ap (λ (hs : List Hold). held_next hs entry) c.make_room.ensures.holds in
    let silent = caused_no_stop (g.B.Blocks.counts c.args.under.now) (g.B.Blocks.counts c.hold_or_stopped.new.under) i.stop c.in-Ok-hold_or_stopped.reply c.in-Ok-hold_or_stopped.ensures.cause in (
      parts_kept i.sup i.bitmap c.hold_or_stopped.new.bitmap i.group c.hold_or_stopped.new.group i.sealed (length i.history.items) (length c.take_entry.new.history.items) c.self.invariant.0
          c.hold_or_stopped.ensures.volume c.hold_or_stopped.ensures.settled c.hold_or_stopped.ensures.last c.hold_or_stopped.ensures.group (omega (arith, long)),
      subst (λ (z : ℤ). IsLastStamp c.take_entry.new.history.items z) (sym stamp) (subst (λ (l : List Entry). IsLastStamp l (drawn i.last c.args.now)) (sym items) (last_noted i.history.items i.last c.args.now entry c.self.invariant.1 c.requires.now stamp)),
      omega (arith, long, capacity, room, promises, kept_promises),
      omega (arith, long, few, one, two, promises, kept_promises),
      subst (λ (l : List Entry). KnowsStop l i.stop) (sym items) (stop_kept i.history.items entry i.stop silent c.self.invariant.4),
      now_held i.holds.items c.take_entry.new.holds.items i.history.items c.take_entry.new.history.items entry items held c.self.invariant.5,
      omega (arith, held_room, held_capacity, more_holds, kept_holds, promises, kept_promises),
    )

pub returns-in-Ok-hold_or_stopped-clause-entered : goal.returns-in-Ok-hold_or_stopped-clause-entered
returns-in-Ok-hold_or_stopped-clause-entered g c = λ t0 m told face_of.
    let i = c.self.inside in
    let call : Call = calls.Hold c.args.id c.args.at c.args.length c.args.write in
    let inside : SpaceBooks = record { view = record { sup = i.sup; used = i.bitmap.tally.used; group = i.group; history = i.history.items; sealed = i.sealed; sealed_used = i.sealed_used; given = i.bitmap.given }; room = i.bitmap; promised = i.promised.items; stop = i.stop; left = i.left; nodes = i.nodes } in
    let since : SpaceBooks = record { view = record { sup = i.sup; used = c.hold_or_stopped.new.bitmap.tally.used; group = c.hold_or_stopped.new.group; history = c.take_entry.new.history.items; sealed = i.sealed; sealed_used = i.sealed_used; given = c.hold_or_stopped.new.bitmap.given }; room = c.hold_or_stopped.new.bitmap; promised = c.take_entry.new.promised.items; stop = i.stop; left = i.left; nodes = i.nodes } in
    let f = subst (λ (b : SpaceBooks). IsFaceOf t0 b m) (sym c.self.view_is) face_of in
    let some = some_bytes i.sup c.self.invariant.0.valid in
    let volume = c.self.invariant.0.volume in
    let last : to_z w64 (of_z w64 i.last) ≡ i.last = search rules in
    let twice : to_z w64 (of_z w64 c.draw-stamp.result) ≡ c.draw-stamp.result = search rules in
    let stamp : to_z w64 (of_z w64 c.draw-stamp.result) ≡ drawn (last_stamp i.history.items) c.args.now = twice ∙ c.draw-stamp.ensures ∙ ap (λ (z : ℤ). drawn z c.args.now) (last ∙ c.self.invariant.1.last_is) in
    let items : c.take_entry.new.history.items ≡ i.history.items ++ entry_noted inside c.args.session c.args.tag c.args.now call c.in-Ok-hold_or_stopped.reply ∷ [] =
    c.take_entry.ensures.history ∙ (λ j. c.make_room.ensures.history j ++ (record { session = c.args.session; tag = c.args.tag; stamp = stamp j; call = c.hold_of-call.ensures j; reply = c.in-Ok-hold_or_stopped.reply }) ∷ []) in
    let tree = after t0 i.history.items in
    let lists = lists_of (face inside.view m) tree in
    let given : c.as_slice.result.now ≡ c.make_room.new.holds.items = search rules in
    let held : c.as_slice.result.now ≡ holds_after t0 i.history.items = given ∙ c.make_room.ensures.holds ∙ c.self.invariant.5 ∙ sym (held_is_after t0 i.history.items) in
    let replied : IsReplied (geometry_of i.sup) i.bitmap c.hold_or_stopped.new.bitmap m i.group c.hold_or_stopped.new.group tree (holds_after t0 i.history.items) (c.is_idle-idle.result ≡ true) (drawn (last_stamp i.history.items) c.args.now) call c.in-Ok-hold_or_stopped.reply =
    subst (λ (x : Call). IsReplied (geometry_of i.sup) i.bitmap c.hold_or_stopped.new.bitmap m i.group c.hold_or_stopped.new.group tree (holds_after t0 i.history.items) (c.is_idle-idle.result ≡ true) (drawn (last_stamp i.history.items) c.args.now) x c.in-Ok-hold_or_stopped.reply) c.hold_of-call.ensures
    (subst (λ (z : ℤ). IsReplied (geometry_of i.sup) i.bitmap c.hold_or_stopped.new.bitmap m i.group c.hold_or_stopped.new.group tree (holds_after t0 i.history.items) (c.is_idle-idle.result ≡ true) z c.hold_of-call.result c.in-Ok-hold_or_stopped.reply) stamp
    (subst (λ (hs : List Hold). IsReplied (geometry_of i.sup) i.bitmap c.hold_or_stopped.new.bitmap m i.group c.hold_or_stopped.new.group tree hs (c.is_idle-idle.result ≡ true) (to_z w64 (of_z w64 c.draw-stamp.result)) c.hold_of-call.result c.in-Ok-hold_or_stopped.reply) held
    (c.in-Ok-hold_or_stopped.ensures.replied m tree lists told (ready t0 inside m f volume some refl refl)))) in
    let idle : c.is_idle-idle.result ≡ true → IsIdle inside = λ e. subst (λ (h : List Entry). IsIdle (record { view = record { sup = i.sup; used = i.bitmap.tally.used; group = i.group; history = h; sealed = i.sealed; sealed_used = i.sealed_used; given = i.bitmap.given }; room = i.bitmap; promised = i.promised.items; stop = i.stop; left = i.left; nodes = i.nodes })) c.make_room.ensures.history
    (subst (λ (ps : List ℕ). IsIdle (record { view = record { sup = i.sup; used = i.bitmap.tally.used; group = i.group; history = c.make_room.new.history.items; sealed = i.sealed; sealed_used = i.sealed_used; given = i.bitmap.given }; room = i.bitmap; promised = ps; stop = i.stop; left = i.left; nodes = i.nodes })) c.make_room.ensures.promised (c.is_idle-idle.ensures.idle e)) in
    let quiet : list_any (λ (e : Entry). is_stop e.reply) i.history.items ≡ true → is_stopped c.in-Ok-hold_or_stopped.reply ≡ true = λ any. let s = some_stop i.stop (sym c.self.invariant.4 ∙ any) in c.in-Ok-hold_or_stopped.ensures.stopped s.0 s.1 in
    subst (λ (b : SpaceBooks). HasEntered t0 b since m c.args.session c.args.tag c.args.now call) c.self.view_is
    (replied_with t0 inside m f volume some refl refl c.args.session c.args.tag c.args.now call c.in-Ok-hold_or_stopped.reply c.requires.session (λ e. cc) quiet (c.is_idle-idle.result ≡ true) c.hold_or_stopped.new.bitmap c.hold_or_stopped.new.group
    c.take_entry.new.history.items c.take_entry.new.promised.items i.stop i.left i.nodes c.hold_or_stopped.ensures.group.sized idle replied items)

pub returns-in-Ok-hold_or_stopped-clause-counted : goal.returns-in-Ok-hold_or_stopped-clause-counted
returns-in-Ok-hold_or_stopped-clause-counted g c = λ t0 m told face_of counts.
    let i = c.self.inside in
    let call : Call = calls.Hold c.args.id c.args.at c.args.length c.args.write in
    let inside : SpaceBooks = record { view = record { sup = i.sup; used = i.bitmap.tally.used; group = i.group; history = i.history.items; sealed = i.sealed; sealed_used = i.sealed_used; given = i.bitmap.given }; room = i.bitmap; promised = i.promised.items; stop = i.stop; left = i.left; nodes = i.nodes } in
    let since : SpaceBooks = record { view = record { sup = i.sup; used = c.hold_or_stopped.new.bitmap.tally.used; group = c.hold_or_stopped.new.group; history = c.take_entry.new.history.items; sealed = i.sealed; sealed_used = i.sealed_used; given = c.hold_or_stopped.new.bitmap.given }; room = c.hold_or_stopped.new.bitmap; promised = c.take_entry.new.promised.items; stop = i.stop; left = i.left; nodes = i.nodes } in
    let e : HasEntered t0 inside since m c.args.session c.args.tag c.args.now call =
    subst (λ (b : SpaceBooks). HasEntered t0 b since m c.args.session c.args.tag c.args.now call) (sym c.self.view_is) (returns-in-Ok-hold_or_stopped-clause-entered g c t0 m told face_of) in
    let counts_inside : i.nodes ≡ nodes_of (after t0 i.history.items) = subst (λ (b : SpaceBooks). b.nodes ≡ nodes_of (after t0 b.view.history)) (sym c.self.view_is) counts in
    counted_on t0 i.history.items c.take_entry.new.history.items (entry_noted inside c.args.session c.args.tag c.args.now call e.reply) i.nodes false e.entered.history e.entered.follows counts_inside (λ done s same fine. refl)

pub returns-in-Ok-hold_or_stopped-clause-noted : goal.returns-in-Ok-hold_or_stopped-clause-noted
returns-in-Ok-hold_or_stopped-clause-noted g c =
    let i = c.self.inside in
    let call : Call = calls.Hold c.args.id c.args.at c.args.length c.args.write in
    let inside : SpaceBooks = record { view = record { sup = i.sup; used = i.bitmap.tally.used; group = i.group; history = i.history.items; sealed = i.sealed; sealed_used = i.sealed_used; given = i.bitmap.given }; room = i.bitmap; promised = i.promised.items; stop = i.stop; left = i.left; nodes = i.nodes } in
    let since : SpaceBooks = record { view = record { sup = i.sup; used = c.hold_or_stopped.new.bitmap.tally.used; group = c.hold_or_stopped.new.group; history = c.take_entry.new.history.items; sealed = i.sealed; sealed_used = i.sealed_used; given = c.hold_or_stopped.new.bitmap.given }; room = c.hold_or_stopped.new.bitmap; promised = c.take_entry.new.promised.items; stop = i.stop; left = i.left; nodes = i.nodes } in
    let last : to_z w64 (of_z w64 i.last) ≡ i.last = search rules in
    let twice : to_z w64 (of_z w64 c.draw-stamp.result) ≡ c.draw-stamp.result = search rules in
    let stamp : to_z w64 (of_z w64 c.draw-stamp.result) ≡ drawn (last_stamp i.history.items) c.args.now = twice ∙ c.draw-stamp.ensures ∙ ap (λ (z : ℤ). drawn z c.args.now) (last ∙ c.self.invariant.1.last_is) in
    let items : c.take_entry.new.history.items ≡ i.history.items ++ entry_noted inside c.args.session c.args.tag c.args.now call c.in-Ok-hold_or_stopped.reply ∷ [] =
    c.take_entry.ensures.history ∙ (λ j. c.make_room.ensures.history j ++ (record { session = c.args.session; tag = c.args.tag; stamp = stamp j; call = c.hold_of-call.ensures j; reply = c.in-Ok-hold_or_stopped.reply }) ∷ []) in
    let replied : HasReplied (g.B.Blocks.counts c.args.under.now) (g.B.Blocks.counts c.hold_or_stopped.new.under) inside since c.args.session c.args.tag c.args.now call = record {
      reply = c.in-Ok-hold_or_stopped.reply;
      history = items;
      cause = c.in-Ok-hold_or_stopped.ensures.cause;
      same = record { sup = refl; sealed = refl; sealed_used = refl };
      idle = c.hold_or_stopped.ensures.idle;
      promised = c.take_entry.ensures.promised ∙ (λ j. promised_after c.args.session (c.hold_of-call.ensures j) c.in-Ok-hold_or_stopped.reply (c.make_room.ensures.promised j));
      stop = refl;
      left = refl;
    } in
    subst (λ (b : SpaceBooks). HasReplied (g.B.Blocks.counts c.args.under.now) (g.B.Blocks.counts c.hold_or_stopped.new.under) b since c.args.session c.args.tag c.args.now call) c.self.view_is replied

pub returns-in-Ok-hold_or_stopped-clause-places : goal.returns-in-Ok-hold_or_stopped-clause-places
returns-in-Ok-hold_or_stopped-clause-places g c = λ taken.
    let i = c.self.inside in
    let entry : Entry = record { session = c.args.session; tag = c.args.tag; stamp = to_z w64 (of_z w64 c.draw-stamp.result); call = c.hold_of-call.result; reply = c.in-Ok-hold_or_stopped.reply } in
    let items : c.take_entry.new.history.items ≡ i.history.items ++ entry ∷ [] = c.take_entry.ensures.history ∙ ap (λ (l : List Entry). l ++ entry ∷ []) c.make_room.ensures.history in
    let came : c.take_entry.new.history.items ≡ i.history.items ++ taken.0 ∷ [] = subst (λ (b : SpaceBooks). c.take_entry.new.history.items ≡ b.view.history ++ taken.0 ∷ []) (sym c.self.view_is) taken.1 in
    subst (λ (b : SpaceBooks). (length c.hold_or_stopped.new.places.items ≡ piece_blocks b.view.sup.block_size c.args.at c.args.length) × All (IsData (layout_of b.view.sup)) c.hold_or_stopped.new.places.items) c.self.view_is
    (c.in-Ok-hold_or_stopped.ensures.places (done_taken i.history.items c.take_entry.new.history.items entry taken.0 items came taken.2))

pub returns-in-Ok-hold_or_stopped-clause-piece : goal.returns-in-Ok-hold_or_stopped-clause-piece
returns-in-Ok-hold_or_stopped-clause-piece g c = λ t0 m told face_of taken.
    let i = c.self.inside in
    let inside : SpaceBooks = record { view = record { sup = i.sup; used = i.bitmap.tally.used; group = i.group; history = i.history.items; sealed = i.sealed; sealed_used = i.sealed_used; given = i.bitmap.given }; room = i.bitmap; promised = i.promised.items; stop = i.stop; left = i.left; nodes = i.nodes } in
    let f = subst (λ (b : SpaceBooks). IsFaceOf t0 b m) (sym c.self.view_is) face_of in
    let entry : Entry = record { session = c.args.session; tag = c.args.tag; stamp = to_z w64 (of_z w64 c.draw-stamp.result); call = c.hold_of-call.result; reply = c.in-Ok-hold_or_stopped.reply } in
    let items : c.take_entry.new.history.items ≡ i.history.items ++ entry ∷ [] = c.take_entry.ensures.history ∙ ap (λ (l : List Entry). l ++ entry ∷ []) c.make_room.ensures.history in
    let came : c.take_entry.new.history.items ≡ i.history.items ++ taken.0 ∷ [] = subst (λ (b : SpaceBooks). c.take_entry.new.history.items ≡ b.view.history ++ taken.0 ∷ []) (sym c.self.view_is) taken.1 in
    let tree = after t0 i.history.items in
    let found = c.in-Ok-hold_or_stopped.ensures.piece m tree (lists_of (face inside.view m) tree) told (ready t0 inside m f c.self.invariant.0.volume (some_bytes i.sup c.self.invariant.0.valid) refl refl)
    (done_taken i.history.items c.take_entry.new.history.items entry taken.0 items came taken.2) in
    piece_same t0 _ _ m c.args.session c.args.tag c.args.now c.args.id c.args.at c.args.length c.args.write (returns-in-Ok-hold_or_stopped-clause-entered g c t0 m told face_of) taken c.hold_or_stopped.new.places.items
    (subst (λ (b : SpaceBooks). c.hold_or_stopped.new.places.items ≡ piece_of b.view.sup.block_size c.args.at c.args.length (stream_blocks (face b.view m) c.args.id)) c.self.view_is found)

pub returns-in-Ok-hold_or_stopped-clause-done : goal.returns-in-Ok-hold_or_stopped-clause-done
returns-in-Ok-hold_or_stopped-clause-done g c = λ e appended done.
    let i = c.self.inside in
    let entry : Entry = record { session = c.args.session; tag = c.args.tag; stamp = to_z w64 (of_z w64 c.draw-stamp.result); call = c.hold_of-call.result; reply = c.in-Ok-hold_or_stopped.reply } in
    let items : c.take_entry.new.history.items ≡ i.history.items ++ entry ∷ [] = c.take_entry.ensures.history ∙ ap (λ (l : List Entry). l ++ entry ∷ []) c.make_room.ensures.history in
    let came : c.take_entry.new.history.items ≡ i.history.items ++ e ∷ [] = subst (λ (b : SpaceBooks). c.take_entry.new.history.items ≡ b.view.history ++ e ∷ []) (sym c.self.view_is) appended in
    let same : entry ≡ e = last_is i.history.items entry e (sym items ∙ came) in
    ap (λ (x : Entry). x.reply) (sym same) ∙ c.in-Ok-hold_or_stopped.ensures.plain (ap (λ (x : Entry). is_done x.reply) same ∙ done)

pub returns-in-Err-Drain-clause-done : goal.returns-in-Err-Drain-clause-done
returns-in-Err-Drain-clause-done g c = λ e appended done.
    let i = c.self.inside in
    let came : c.make_room.new.history.items ≡ i.history.items ++ e ∷ [] = subst (λ (b : SpaceBooks). c.make_room.new.history.items ≡ b.view.history ++ e ∷ []) (sym c.self.view_is) appended in
    absurd (no_more i.history.items e (sym c.make_room.ensures.history ∙ came))

pub returns-in-Err-Drain-clause-places : goal.returns-in-Err-Drain-clause-places
returns-in-Err-Drain-clause-places g c = λ taken.
    let i = c.self.inside in
    let came : c.make_room.new.history.items ≡ i.history.items ++ taken.0 ∷ [] = subst (λ (b : SpaceBooks). c.make_room.new.history.items ≡ b.view.history ++ taken.0 ∷ []) (sym c.self.view_is) taken.1 in
    absurd (no_more i.history.items taken.0 (sym c.make_room.ensures.history ∙ came))

pub returns-in-Err-Drain-clause-piece : goal.returns-in-Err-Drain-clause-piece
returns-in-Err-Drain-clause-piece g c = λ t0 m told face_of taken.
    let i = c.self.inside in
    let came : c.make_room.new.history.items ≡ i.history.items ++ taken.0 ∷ [] = subst (λ (b : SpaceBooks). c.make_room.new.history.items ≡ b.view.history ++ taken.0 ∷ []) (sym c.self.view_is) taken.1 in
    absurd (no_more i.history.items taken.0 (sym c.make_room.ensures.history ∙ came))

pub returns-in-Err-Drain-clause-entered : goal.returns-in-Err-Drain-clause-entered
returns-in-Err-Drain-clause-entered g c = λ t0 m told face_of.
    let i = c.self.inside in
    let call : Call = calls.Hold c.args.id c.args.at c.args.length c.args.write in
    let inside : SpaceBooks = record { view = record { sup = i.sup; used = i.bitmap.tally.used; group = i.group; history = i.history.items; sealed = i.sealed; sealed_used = i.sealed_used; given = i.bitmap.given }; room = i.bitmap; promised = i.promised.items; stop = i.stop; left = i.left; nodes = i.nodes } in
    let f = subst (λ (b : SpaceBooks). IsFaceOf t0 b m) (sym c.self.view_is) face_of in
    let tree = after t0 i.history.items in
    let lists = lists_of (face inside.view m) tree in
    let given : c.as_slice.result.now ≡ c.make_room.new.holds.items = search rules in
    let held : c.as_slice.result.now ≡ holds_after t0 i.history.items = given ∙ c.make_room.ensures.holds ∙ c.self.invariant.5 ∙ sym (held_is_after t0 i.history.items) in
    let why : IsNoReply (geometry_of i.sup) i.bitmap (over i.group m) (length i.group) tree (holds_after t0 i.history.items) (c.is_idle-idle.result ≡ true) call c.in-Err-Drain.field-0 =
    subst (λ (x : Call). IsNoReply (geometry_of i.sup) i.bitmap (over i.group m) (length i.group) tree (holds_after t0 i.history.items) (c.is_idle-idle.result ≡ true) x c.in-Err-Drain.field-0) c.hold_of-call.ensures
    (subst (λ (hs : List Hold). IsNoReply (geometry_of i.sup) i.bitmap (over i.group m) (length i.group) tree hs (c.is_idle-idle.result ≡ true) c.hold_of-call.result c.in-Err-Drain.field-0) held
    (c.in-Err-Drain.ensures.put_off m tree lists told (ready t0 inside m f c.self.invariant.0.volume (some_bytes i.sup c.self.invariant.0.valid) refl refl))) in
    let off = subst (λ (e : NoReply). IsNoReply (geometry_of i.sup) i.bitmap (over i.group m) (length i.group) tree (holds_after t0 i.history.items) (c.is_idle-idle.result ≡ true) call e) c.in-Err-Drain.field-0-is why in
    let idle : IsIdle inside → c.is_idle-idle.result ≡ true = λ q. true_of c.is_idle-idle.result (λ none. c.is_idle-idle.ensures.busy none
    (subst (λ (ps : List ℕ). IsIdle (record { view = record { sup = i.sup; used = i.bitmap.tally.used; group = i.group; history = c.make_room.new.history.items; sealed = i.sealed; sealed_used = i.sealed_used; given = i.bitmap.given }; room = i.bitmap; promised = ps; stop = i.stop; left = i.left; nodes = i.nodes })) (sym c.make_room.ensures.promised)
    (subst (λ (h : List Entry). IsIdle (record { view = record { sup = i.sup; used = i.bitmap.tally.used; group = i.group; history = h; sealed = i.sealed; sealed_used = i.sealed_used; given = i.bitmap.given }; room = i.bitmap; promised = i.promised.items; stop = i.stop; left = i.left; nodes = i.nodes })) (sym c.make_room.ensures.history) q))) in
    subst (λ (b : SpaceBooks). IsPutOff (geometry_of b.view.sup) b.room (over b.view.group m) (length b.view.group) (after t0 b.view.history) (holds_after t0 b.view.history) (IsIdle b) call) c.self.view_is
    (put_off_for (geometry_of i.sup) i.bitmap (over i.group m) (length i.group) tree (holds_after t0 i.history.items) (c.is_idle-idle.result ≡ true) (IsIdle inside) call idle off)
