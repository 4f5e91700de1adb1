use Rattle.std.proofs.Common.{◌≤◌, ◌*◌, length, sym, subst}
use Rattle.bfs_stream.specs.Places.{places_at}
use Rattle.bfs_stream.specs.Sizes.{Origin}
use Rattle.bfs_stream.specs.Told.{contents}
use Rattle.bfs_stream_pages.specs.Held.{Held}
use Rattle.bfs_stream_pages.specs.Steps.{HasSize}
use Rattle.bfs_make.proofs.storing.put_length.Goals as goal

pub returns-in-Ok-put_size-clause-written : goal.returns-in-Ok-put_size-clause-written
returns-in-Ok-put_size-clause-written g c v long m is held fits =
    subst (λ (x : Origin). HasSize x v c.args.len m (g.E.Blocks.told c.put_size.new.edits) (g.E.Blocks.changed c.args.edits.now) (g.E.Blocks.changed c.put_size.new.edits)) c.at-backing.ensures
    (c.in-Ok-put_size.ensures.written v long m is (subst (λ (x : Origin). Held x v long m) (sym c.at-backing.ensures) held)
    (subst (λ (x : Origin). c.args.len ≤ x.sizes.block_size * length (places_at x.sizes (contents m) x.id)) (sym c.at-backing.ensures) fits))

pub returns-clause-sound : goal.returns-clause-sound
returns-clause-sound g c v long m is held = c.in-Err-put_size.ensures.sound m is
