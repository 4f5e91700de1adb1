use Rattle.std.proofs.Common.{◌≤◌, ◌∙◌, max, ap, sym, subst}
use Rattle.bfs_bitmap.specs.Runs.{Room, Fits}
use Rattle.bfs_stream.specs.Sizes.{sizes_of}
use Rattle.bfs_stream.specs.Grown.{IsOfVolume}
use Rattle.bfs_core.specs.Spaces.{released_space}
use Rattle.bfs_replies.specs.Books.{SpaceBooks, released_room}
use Rattle.bfs_space.proofs.Groups.{parts_with, released_used}
use Rattle.bfs_space.proofs.space.Space.released.Goals as goal

pub invariant_of-self : goal.invariant_of-self
invariant_of-self c =
    let i = c.self.inside in
    let p = c.self.invariant.0 in
    let now = c.release.new.self in
    let is = c.release.ensures.given in
    let one = is in (
      parts_with i.sup i.bitmap now i.group i.sealed _ p
          (subst (λ (v : Room). IsOfVolume (sizes_of i.sup) v) (sym is) (record { block_size = p.volume.block_size; blocks = p.volume.blocks; group_blocks = p.volume.group_blocks }))
          (c.release.ensures.settled p.settled)
          (subst (λ (v : Room). v.last ≤ i.sealed) (sym is) p.closed),
      c.self.invariant.1,
      c.self.invariant.2,
      c.self.invariant.3,
      c.self.invariant.4,
      c.self.invariant.5,
      c.self.invariant.6,
    )

pub returns-clause-released : goal.returns-clause-released
returns-clause-released c =
    let i = c.self.inside in
    let is = c.release.ensures.given in
    let used = ap (λ (v : Room). v.tally.used) is ∙ released_used c.args.group i.bitmap.given i.bitmap.tally in
    let given = ap (λ (v : Room). v.given) is in
    (λ j. record { view = record { sup = i.sup; used = used j; group = i.group; history = i.history.items; sealed = i.sealed; sealed_used = i.sealed_used; given = given j }; room = is j; promised = i.promised.items; stop = i.stop; left = c.max-self-inside.ensures j; nodes = i.nodes })
    ∙ ap (λ (b : SpaceBooks). record b { view = released_space c.args.group b.view; room = released_room c.args.group b.room; left = max b.left c.args.group }) c.self.view_is

pub returns-clause-fits : goal.returns-clause-fits
returns-clause-fits c m fits = c.release.ensures.fits m (subst (λ (b : SpaceBooks). Fits b.room m) (sym c.self.view_is) fits)
