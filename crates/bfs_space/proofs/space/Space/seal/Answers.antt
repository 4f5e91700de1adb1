use Rattle.std.proofs.Common.{rules, ◌≡◌, ◌≤◌, ◌∙◌, arith, ◌+◌, ap, sym, subst, refl, length, map}
use Rattle.bfs_bitmap.specs.Givens.{numbered}
use Rattle.bfs_bitmap.specs.Runs.{Room, Fits}
use Rattle.bfs_txn.specs.declared.group.Group.{Group}
use Rattle.bfs_core.specs.Spaces.{IsGroupFor, sealed_space}
use Rattle.bfs_replies.specs.Books.{SpaceBooks, sealed_room}
use Rattle.bfs_space.proofs.Groups.{group_for}
use Rattle.bfs_space.proofs.space.Space.seal.Goals as goal

pub returns : goal.returns
returns c =
    let i = c.self.inside in
    let last : c.len-last.result ≡ length i.history.items = search rules in
    let is = c.close_group.ensures.given in
    let used = ap (λ (v : Room). v.tally.used) is in
    let given = ap (λ (v : Room). v.given) is ∙ ap (λ n. map (numbered n) i.bitmap.given) last in
    let room = is ∙ ap (λ n. sealed_room n i.bitmap) last in
    let count : c.used-used.result ≡ i.bitmap.tally.used = c.used-used.ensures.value in
    let most = c.used-used.ensures.few in
    let few : i.bitmap.tally.used ≤ i.bitmap.blocks = omega (arith, count, most) in
    let empty = c.replace-blocks.ensures.after ∙ c.new.ensures in
    let g : Group = record { first = i.sealed + 1; last = c.len-last.result; used = c.used-used.result; blocks = c.replace-blocks.result } in
    let inside : SpaceBooks = record { view = record { sup = i.sup; used = i.bitmap.tally.used; group = i.group; history = i.history.items; sealed = i.sealed; sealed_used = i.sealed_used; given = i.bitmap.given }; room = i.bitmap; promised = i.promised.items; stop = i.stop; left = i.left; nodes = i.nodes } in record {
      fits = λ m fits. c.close_group.ensures.fits m (subst (λ (b : SpaceBooks). Fits b.room m) (sym c.self.view_is) fits);
      sealed = (
        subst (λ (b : SpaceBooks). IsGroupFor b.view g) c.self.view_is
            (group_for inside.view i.bitmap g c.self.invariant.0 few (λ e. c.if-last-self.false (last ∙ sym e)) refl refl last c.used-used.ensures.value c.replace-blocks.ensures.value),
        (λ j. record { view = record { sup = i.sup; used = used j; group = empty j; history = i.history.items; sealed = last j; sealed_used = c.used-used.ensures.value j; given = given j }; room = room j; promised = i.promised.items; stop = i.stop; left = i.left; nodes = i.nodes })
            ∙ ap (λ (b : SpaceBooks). record b { view = sealed_space b.view; room = sealed_room (length b.view.history) b.room }) c.self.view_is,
      );
    }
