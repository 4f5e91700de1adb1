use Rattle.std.proofs.Common.{◌≡◌, ◌∙◌, ℕ, List, Bool, Some, sym, ap, subst}
use Rattle.std.specs.Prelude.{slice_get}
use Rattle.std.specs.Option.{option_map}
use Rattle.bfs_stream.specs.Sizes.{Origin, sizes_of}
use Rattle.bfs_stream.specs.Places.{places_at}
use Rattle.bfs_stream.specs.Told.{contents, Stands}
use Rattle.bfs_stream.specs.Faults.{HasNoBlock}
use Rattle.bfs_stream.specs.declared.fault.StreamFault.{StreamFault}
use Rattle.bfs_txn.specs.Told.{with_block, with_number}
use Rattle.bfs_make.specs.Filled.{padded}
use Rattle.bfs_make.proofs.filling.fill_block.Goals as goal

pub returns-in-Err-Block-clause-sound : goal.returns-in-Err-Block-clause-sound
returns-in-Err-Block-clause-sound g c m is stands =
    subst (λ (f : StreamFault). HasNoBlock (places_at c.at-stream.result.sizes (contents m) c.at-stream.result.id) c.args.at f) c.in-Err-Block.field-0-is
    (c.in-Err-Block.ensures.none m is (subst (λ (x : Origin). Stands x m) (sym c.at-stream.ensures) stands))

pub returns-in-Ok-set-clause-filled : goal.returns-in-Ok-set-clause-filled
returns-in-Ok-set-clause-filled g c m is stands =
    let there : Stands c.at-stream.result m = subst (λ (x : Origin). Stands x m) (sym c.at-stream.ensures) stands in
    let found : slice_get (places_at (sizes_of c.args.site.sup) (contents m) c.args.id) c.args.at ≡ Some c.in-Ok-block.number =
    subst (λ (x : Origin). slice_get (places_at x.sizes (contents m) x.id) c.args.at ≡ Some c.in-Ok-block.number) c.at-stream.ensures (c.in-Ok-block.ensures.found m is there) in (
      c.in-Ok-block.number,
      found,
      c.in-Ok-set.ensures.told ∙ ap (option_map (with_block c.in-Ok-block.number c.deref.result.now)) (c.in-Ok-block.ensures.told ∙ is)
          ∙ ap (λ (b : List ℕ). Some (with_block c.in-Ok-block.number b m)) (c.deref.ensures.value ∙ c.in-Ok.ensures ∙ ap (padded c.args.site.sup.block_size) c.chunk_at-part.ensures),
      λ k. c.in-Ok-set.ensures.changed k ∙ ap (λ (f : ℕ → Bool). with_number c.in-Ok-block.number f k) c.in-Ok-block.ensures.changed,
    )
