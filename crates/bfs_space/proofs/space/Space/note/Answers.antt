use mir.Syntax.{w64}
use mir.Val.{to_z, of_z}
use Rattle.std.proofs.Common.{rules, ◌≡◌, ◌+◌, ◌∙◌, ◌++◌, ◌∷◌, [], ℤ, List, length, ap, sym, subst, arith, length-append}
use Rattle.bfs_base.specs.Lists.{Has}
use Rattle.bfs_tree.specs.declared.reply.Entry.{Entry}
use Rattle.bfs_tree.specs.Histories.{drawn, last_stamp}
use Rattle.bfs_replies.specs.Books.{SpaceBooks, IsLastStamp, KnowsStop, with_note, entry_noted}
use Rattle.bfs_space.proofs.Held.{now_held}
use Rattle.bfs_space.proofs.Stops.{stop_known}
use Rattle.bfs_space.proofs.Stamps.{last_noted, promise_ends}
use Rattle.bfs_space.proofs.Groups.{parts_longer}
use Rattle.bfs_space.proofs.space.Space.note.Goals as goal

pub note_holds-requires : goal.note_holds-requires
note_holds-requires c =
    let i = c.self.inside in
    let fewer = promise_ends c.args.session i.promised.items (subst (λ (b : SpaceBooks). Has b.promised c.args.session) (sym c.self.view_is) c.requires.promised) in
    let places = c.self.invariant.6 in
    omega (arith, fewer, places)

pub invariant_of-self : goal.invariant_of-self
invariant_of-self c =
    let i = c.self.inside in
    let last : to_z w64 (of_z w64 i.last) ≡ i.last = search rules in
    let kept : to_z w64 (of_z w64 c.draw-stamp.result) ≡ c.draw-stamp.result = search rules in
    let stamp : to_z w64 (of_z w64 c.draw-stamp.result) ≡ drawn i.last c.args.now = kept ∙ c.draw-stamp.ensures ∙ ap (λ (z : ℤ). drawn z c.args.now) last in
    let entry : Entry = record { session = c.args.session; tag = c.args.tag; stamp = to_z w64 (of_z w64 c.draw-stamp.result); call = c.args.call; reply = c.args.reply } in
    let items : c.append.new.history.items ≡ i.history.items ++ entry ∷ [] = c.append.ensures.items in
    let long : length c.append.new.history.items ≡ length i.history.items + 1 = ap length items ∙ length-append i.history.items (entry ∷ []) in
    let fewer = promise_ends c.args.session i.promised.items (subst (λ (b : SpaceBooks). Has b.promised c.args.session) (sym c.self.view_is) c.requires.promised) in
    let ends = ap length c.drop_promise.ensures in
    let capacity = c.append.ensures.room in
    let room = c.self.invariant.2 in
    let few = c.self.invariant.3 in
    let more = c.note_holds.ensures.few in
    let there = c.note_holds.ensures.room in
    let places = c.self.invariant.6 in (
      parts_longer i.sup i.bitmap i.group i.sealed (length i.history.items) (length c.append.new.history.items) c.self.invariant.0 (omega (arith, long)),
      subst (λ (z : ℤ). IsLastStamp c.append.new.history.items z) (sym stamp) (subst (λ (l : List Entry). IsLastStamp l (drawn i.last c.args.now)) (sym items) (last_noted i.history.items i.last c.args.now entry c.self.invariant.1 c.requires.now stamp)),
      omega (arith, long, fewer, ends, capacity, room),
      omega (arith, long, fewer, ends, few),
      subst (λ (l : List Entry). KnowsStop l c.stop_with-self-inside.result) (sym items) (subst (KnowsStop (i.history.items ++ entry ∷ [])) (sym c.stop_with-self-inside.ensures) (stop_known i.history.items entry i.stop c.args.durable c.self.invariant.4)),
      now_held i.holds.items c.note_holds.new.holds.items i.history.items c.append.new.history.items entry items c.note_holds.ensures.items c.self.invariant.5,
      omega (arith, more, there, fewer, ends, places),
    )

pub returns : goal.returns
returns c =
    let i = c.self.inside in
    let last : to_z w64 (of_z w64 i.last) ≡ i.last = search rules in
    let kept : to_z w64 (of_z w64 c.draw-stamp.result) ≡ c.draw-stamp.result = search rules in
    let stamp : to_z w64 (of_z w64 c.draw-stamp.result) ≡ drawn (last_stamp i.history.items) c.args.now = kept ∙ c.draw-stamp.ensures ∙ ap (λ (z : ℤ). drawn z c.args.now) (last ∙ c.self.invariant.1.last_is) in
    let inside : SpaceBooks = record { view = record { sup = i.sup; used = i.bitmap.tally.used; group = i.group; history = i.history.items; sealed = i.sealed; sealed_used = i.sealed_used; given = i.bitmap.given }; room = i.bitmap; promised = i.promised.items; stop = i.stop; left = i.left; nodes = i.nodes } in
    let items : c.append.new.history.items ≡ i.history.items ++ entry_noted inside c.args.session c.args.tag c.args.now c.args.call c.args.reply ∷ [] =
    c.append.ensures.items ∙ ap (λ (z : ℤ). i.history.items ++ (record { session = c.args.session; tag = c.args.tag; stamp = z; call = c.args.call; reply = c.args.reply }) ∷ []) stamp in
    let promised = c.drop_promise.ensures in
    let stop = c.stop_with-self-inside.ensures in
    (λ j. record { view = record { sup = i.sup; used = i.bitmap.tally.used; group = i.group; history = items j; sealed = i.sealed; sealed_used = i.sealed_used; given = i.bitmap.given }; room = i.bitmap; promised = promised j; stop = stop j; left = i.left; nodes = i.nodes })
    ∙ ap (λ (b : SpaceBooks). with_note b c.args.session (entry_noted b c.args.session c.args.tag c.args.now c.args.call c.args.reply) c.args.durable) c.self.view_is
