use Rattle.std.proofs.Common.{◌≡◌, ◌-◌, sym, subst}
use Rattle.std.specs.Prelude.{slice_get, Some, IfOk, IfErr}
use Rattle.bfs_stream.specs.Faults.{HasNoBlock}
use Rattle.bfs_stream.specs.Places.{places_at}
use Rattle.bfs_stream.specs.Sizes.{Origin, sizes_of}
use Rattle.bfs_stream.specs.Told.{contents, Stands}
use Rattle.bfs_set_size.proofs.Matched.{both_ways}
use Rattle.bfs_set_size.proofs.growing.lacking.Goals as goal

pub returns-clause-count : goal.returns-clause-count
returns-clause-count g c m told stands =
    let o : Origin = record { id = c.args.id; sizes = sizes_of c.args.sup.now } in
    let at = c.at-stream.ensures in
    let here = subst (λ (x : Origin). Stands x m) (sym at) stands in
    let found = subst (λ (x : Origin). IfOk c.block-found.result (λ block. slice_get (places_at x.sizes (contents m) x.id) (c.args.blocks - 1) ≡ Some block)) at (c.block-found.ensures.found m told here) in
    let none = subst (λ (x : Origin). IfErr c.block-found.result (HasNoBlock (places_at x.sizes (contents m) x.id) (c.args.blocks - 1))) at (c.block-found.ensures.none m told here) in
    c.lacked.ensures.count (places_at o.sizes (contents m) o.id) (both_ways (λ block. slice_get (places_at o.sizes (contents m) o.id) (c.args.blocks - 1) ≡ Some block) (HasNoBlock (places_at o.sizes (contents m) o.id) (c.args.blocks - 1)) c.block-found.result found none)

pub returns-clause-sound : goal.returns-clause-sound
returns-clause-sound g c m told stands =
    let o : Origin = record { id = c.args.id; sizes = sizes_of c.args.sup.now } in
    let at = c.at-stream.ensures in
    c.lacked.ensures.sound (places_at o.sizes (contents m) o.id)
    (subst (λ (x : Origin). IfErr c.block-found.result (HasNoBlock (places_at x.sizes (contents m) x.id) (c.args.blocks - 1))) at (c.block-found.ensures.none m told (subst (λ (x : Origin). Stands x m) (sym at) stands)))

pub returns-clause-cause : goal.returns-clause-cause
returns-clause-cause g c = c.lacked.ensures.cause (g.E.Blocks.counts c.args.edits.now) (g.E.Blocks.counts c.block-found.new.under) c.block-found.ensures.cause
