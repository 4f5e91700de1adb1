-- A stream that was cut to nothing has no arrays.
use Rattle.std.proofs.Common.{◌≡◌, ◌≤◌, ◌<◌, ◌+◌, ◌*◌, ◌∙◌, ◌⊎◌, inl, inr, ℕ, zero, suc, Bool, List, [], ◌∷◌, ◌++◌, length, Option, ap, arith}
use Rattle.bfs_base.specs.Lists.{counted_from}
use Rattle.bfs_bytes.specs.declared.Run.{Run}
use Rattle.bfs_bitmap.specs.Runs.{Room}
use Rattle.bfs_stream.specs.Sizes.{Sizes, Origin, array_length, first_block}
use Rattle.bfs_stream.specs.Places.{run_blocks, blocks_of, used_runs, arrays_of, fields, level_blocks, levels_at, second_arrays, places_at, frame_at}
use Rattle.bfs_stream.specs.Told.{contents}
use Rattle.bfs_stream.specs.Grown.{UsesDouble}
use Rattle.bfs_stream.specs.Trimmed.{HasNoEmpty, HasTrimmedTo}
use Rattle.bfs_stream.proofs.Listed.{double_long}
use Rattle.bfs_stream.proofs.Placed.{length-places}
use Rattle.bfs_stream.proofs.Seconds.{no_second, nothing_second}

no_run : (s : Sizes) (r : Run) → r.len ≡ 0 → run_blocks s r ≡ []
no_run s r e = ap (counted_from (first_block s r)) e

module _ (o : Origin) (m : ℕ → Option (List ℕ)) (named : HasNoEmpty o m) (empty : length (places_at o.sizes (contents m) o.id) ≡ 0) where
  no_indirect : (fields o.sizes (contents m) o.id).indirect.len ≡ 0
  no_indirect = by_side named.indirect
    where
      by_side : ((fields o.sizes (contents m) o.id).indirect.len ≡ 0) ⊎ (0 < length (level_blocks o.sizes (levels_at o.sizes (contents m) o.id).table)) → (fields o.sizes (contents m) o.id).indirect.len ≡ 0
      by_side (inl none) = none
      by_side (inr some) = let sum = length-places o.sizes (contents m) o.id in absurd (omega (arith, sum, some, empty))

  no_double : (fields o.sizes (contents m) o.id).double_indirect.len ≡ 0
  no_double = by_side named.double
    where
      by_side : ((fields o.sizes (contents m) o.id).double_indirect.len ≡ 0) ⊎ UsesDouble o m → (fields o.sizes (contents m) o.id).double_indirect.len ≡ 0
      by_side (inl none) = none
      by_side (inr some) = let more : 0 < length (level_blocks o.sizes (levels_at o.sizes (contents m) o.id).runs) = some in let sum = length-places o.sizes (contents m) o.id in absurd (omega (arith, sum, more, empty))

  pub inode_alone : frame_at o.sizes (contents m) o.id ≡ o.id ∷ []
  unfolding arrays_of
  inode_alone =
      ap (λ (x : List ℕ). o.id ∷ (x ++ (run_blocks o.sizes (fields o.sizes (contents m) o.id).double_indirect ++ blocks_of o.sizes (second_arrays o.sizes (contents m) o.id)))) (no_run o.sizes (fields o.sizes (contents m) o.id).indirect no_indirect)
      ∙ ap (λ (x : List ℕ). o.id ∷ (x ++ blocks_of o.sizes (second_arrays o.sizes (contents m) o.id))) (no_run o.sizes (fields o.sizes (contents m) o.id).double_indirect no_double)
      ∙ ap (λ (x : List Run). o.id ∷ blocks_of o.sizes x) (no_second o m no_double)

-- a stream that was cut to nothing
pub emptied : (o : Origin) (v now : Room) (m : ℕ → Option (List ℕ)) (told : Option (ℕ → Option (List ℕ))) (old new : ℕ → Bool) (to : HasTrimmedTo o v now m 0 told old new) → 0 < length (places_at o.sizes (contents m) o.id) → frame_at o.sizes (contents to.trimmed.map) o.id ≡ o.id ∷ []
emptied o v now m told old new to some = inode_alone o to.trimmed.map (to.empty some) (by_side (to.empty some).double)
  where
    whole : (a u x : ℕ) → x ≡ a * u → 0 < x → a ≤ x
    whole a zero x e h = let z : a * zero ≡ 0 = grind arith in absurd (omega (arith, e, z, h))
    whole a (suc u) x e h = let z : a * suc u ≡ a + a * u = grind arith in omega (arith, e, z)

    by_side : ((fields o.sizes (contents to.trimmed.map) o.id).double_indirect.len ≡ 0) ⊎ UsesDouble o to.trimmed.map → length (places_at o.sizes (contents to.trimmed.map) o.id) ≡ 0
    by_side (inl none) =
        let x : length (level_blocks o.sizes (levels_at o.sizes (contents to.trimmed.map) o.id).runs) ≡ 0 = ap length (nothing_second o to.trimmed.map none) in
        to.exact (omega (arith, some)) (λ uses. let more : 0 < length (level_blocks o.sizes (levels_at o.sizes (contents to.trimmed.map) o.id).runs) = uses in omega (arith, more, x))
    by_side (inr uses) =
        let few = to.most (omega (arith, some)) in
        let own = double_long o to.trimmed.map to.trimmed.owns.stands in
        let least = whole (array_length o.sizes) (length (used_runs (levels_at o.sizes (contents to.trimmed.map) o.id).runs)) (length (level_blocks o.sizes (levels_at o.sizes (contents to.trimmed.map) o.id).runs)) own uses in
        let sum = length-places o.sizes (contents to.trimmed.map) o.id in
        absurd (omega (arith, few, least, sum))
