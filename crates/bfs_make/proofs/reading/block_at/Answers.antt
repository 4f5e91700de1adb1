use Rattle.std.proofs.Common.{◌≡◌, ◌∙◌, Some, sym, subst}
use Rattle.std.specs.Prelude.{slice_get}
use Rattle.bfs_stream.specs.Sizes.{Origin, sizes_of}
use Rattle.bfs_stream.specs.Places.{places_at}
use Rattle.bfs_stream.specs.Told.{contents, Stands}
use Rattle.bfs_make.proofs.Pieces.{counted_at}
use Rattle.bfs_make.proofs.reading.block_at.Goals as goal

pub returns-in-Ok-read_block-clause-found : goal.returns-in-Ok-read_block-clause-found
returns-in-Ok-read_block-clause-found g c m is stands told =
    let places = places_at (sizes_of c.args.site.sup) (contents m) c.args.id in
    let there : Stands c.at-stream.result m = subst (λ (x : Origin). Stands x m) (sym c.at-stream.ensures) stands in
    let found : slice_get places c.args.index ≡ Some c.in-Ok.number =
    subst (λ (x : Origin). slice_get (places_at x.sizes (contents m) x.id) c.args.index ≡ Some c.in-Ok.number) c.at-stream.ensures (c.in-Ok.ensures.found m is there) in
    (c.in-Ok.number, found, c.in-Ok-read_block.ensures.read m (c.in-Ok.ensures.told ∙ is) (told c.in-Ok.number (counted_at places c.args.index c.in-Ok.number found)))
