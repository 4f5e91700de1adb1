use Rattle.std.proofs.Common.{◌≡◌, ℕ, Some, sym, subst}
use Rattle.std.specs.Prelude.{IfOk, IfErr, IsSome, slice_get}
use Rattle.bfs_stream.specs.Faults.{IsDamagedAt, IsBlamedAt}
use Rattle.bfs_stream.specs.Places.{places_at}
use Rattle.bfs_stream.specs.Sizes.{Origin}
use Rattle.bfs_stream.specs.Told.{Stands, contents}
use Rattle.bfs_stream_pages.proofs.block.block_of_page.Goals as goal

pub returns-clause-found : goal.returns-clause-found
returns-clause-found g c m told stands =
    subst (λ (x : Origin × ℕ). IfOk c.block.result (λ block. slice_get (places_at x.0.sizes (contents m) x.0.id) x.1 ≡ Some block)) (λ i. (c.at-stream.ensures i, c.place_of_byte-place.ensures i))
    (c.block.ensures.found m told (subst (λ (o : Origin). Stands o m) (sym c.at-stream.ensures) stands))

pub returns-clause-damaged : goal.returns-clause-damaged
returns-clause-damaged g c m told some =
    subst (λ (x : Origin × ℕ). IfErr c.block.result (IsDamagedAt x.0 m x.1)) (λ i. (c.at-stream.ensures i, c.place_of_byte-place.ensures i))
    (c.block.ensures.damaged m told (subst (λ (o : Origin). IsSome (m o.id)) (sym c.at-stream.ensures) some))

pub returns-clause-blamed : goal.returns-clause-blamed
returns-clause-blamed g c =
    subst (λ (x : Origin × ℕ). IfErr c.block.result (IsBlamedAt x.0 (g.B.Blocks.last c.block.new.under) x.1)) (λ i. (c.at-stream.ensures i, c.place_of_byte-place.ensures i)) c.block.ensures.blamed
