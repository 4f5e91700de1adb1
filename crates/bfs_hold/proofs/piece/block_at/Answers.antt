use Rattle.std.proofs.Common.{◌≡◌, Some, slice_get, sym, subst}
use Rattle.bfs_stream.specs.Faults.{HasNoBlock}
use Rattle.bfs_stream.specs.Places.{places_at}
use Rattle.bfs_stream.specs.Sizes.{Origin, sizes_of}
use Rattle.bfs_stream.specs.Told.{Stands, contents}
use Rattle.bfs_stream.proofs.Doubles.{all_at}
use Rattle.bfs_hold.specs.Places.{IsDataOf}
use Rattle.bfs_hold.proofs.piece.block_at.Goals as goal

pub returns-in-Err-clause-found : goal.returns-in-Err-clause-found
returns-in-Err-clause-found g c m told stands all low =
    let at : c.at-stream.result ≡ record { id = c.args.id; sizes = sizes_of c.args.sup.now } = c.at-stream.ensures in
    c.not_there.ensures.found (places_at (sizes_of c.args.sup.now) (contents m) c.args.id) c.args.index
    (subst (λ (o : Origin). HasNoBlock (places_at o.sizes (contents m) o.id) c.args.index c.in-Err.fault) at (c.in-Err.ensures.none m told (subst (λ (o : Origin). Stands o m) (sym at) stands))) low

pub returns-in-Err-clause-cause : goal.returns-in-Err-clause-cause
returns-in-Err-clause-cause g c = c.not_there.ensures.cause (g.B.Blocks.counts c.args.under.now) (g.B.Blocks.counts c.block.new.under) c.in-Err.ensures.cause

pub returns-clause-found : goal.returns-clause-found
returns-clause-found g c m told stands all low =
    let at : c.at-stream.result ≡ record { id = c.args.id; sizes = sizes_of c.args.sup.now } = c.at-stream.ensures in
    subst (λ (o : Origin). slice_get (places_at o.sizes (contents m) o.id) c.args.index ≡ Some c.in-Ok.block) at (c.in-Ok.ensures.found m told (subst (λ (o : Origin). Stands o m) (sym at) stands))

pub returns-then-not-is_data-clause-found : goal.returns-then-not-is_data-clause-found
returns-then-not-is_data-clause-found g c m told stands all low bad =
    let at : c.at-stream.result ≡ record { id = c.args.id; sizes = sizes_of c.args.sup.now } = c.at-stream.ensures in
    let there : slice_get (places_at (sizes_of c.args.sup.now) (contents m) c.args.id) c.args.index ≡ Some c.in-Ok.block =
    subst (λ (o : Origin). slice_get (places_at o.sizes (contents m) o.id) c.args.index ≡ Some c.in-Ok.block) at (c.in-Ok.ensures.found m told (subst (λ (o : Origin). Stands o m) (sym at) stands)) in
    c.is_data.ensures.other c.if-not-is_data.true (all_at (IsDataOf c.args.sup.now) (places_at (sizes_of c.args.sup.now) (contents m) c.args.id) c.args.index c.in-Ok.block all there)
