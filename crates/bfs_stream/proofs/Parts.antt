-- The blocks of a stream's frame are its inode and those of three kinds of arrays.
use Rattle.std.proofs.Common.{◌≡◌, ◌+◌, ◌∙◌, ℕ, List, [], ◌∷◌, ◌++◌, Option, ap}
use Rattle.bfs_base.specs.Lists.{times}
use Rattle.bfs_stream.specs.Sizes.{Origin}
use Rattle.bfs_stream.specs.Places.{run_blocks, blocks_of, arrays_of, fields, second_arrays, arrays_at, places_at, frame_at, whole_at}
use Rattle.bfs_stream.specs.Told.{contents}
use Rattle.bfs_stream.proofs.Doubles.{times-append}

-- the blocks of the indirect array, of the double indirect array and of those that it lists
module _ (o : Origin) (m : ℕ → Option (List ℕ)) where
  abbrev pub table_blocks : List ℕ
  table_blocks = run_blocks o.sizes (fields o.sizes (contents m) o.id).indirect

  abbrev pub double_blocks : List ℕ
  double_blocks = run_blocks o.sizes (fields o.sizes (contents m) o.id).double_indirect

  abbrev pub listed_blocks : List ℕ
  listed_blocks = blocks_of o.sizes (second_arrays o.sizes (contents m) o.id)

  pub arrays_sum : (k : ℕ) → times k (arrays_at o.sizes (contents m) o.id) ≡ times k table_blocks + (times k double_blocks + times k listed_blocks)
  unfolding arrays_of
  arrays_sum k = times-append k table_blocks (double_blocks ++ listed_blocks) ∙ ap (λ (n : ℕ). times k table_blocks + n) (times-append k double_blocks listed_blocks)

  pub frame_parts : (k : ℕ) → times k (frame_at o.sizes (contents m) o.id) ≡ times k (o.id ∷ []) + (times k table_blocks + (times k double_blocks + times k listed_blocks))
  frame_parts k = times-append k (o.id ∷ []) (arrays_at o.sizes (contents m) o.id) ∙ ap (λ (n : ℕ). times k (o.id ∷ []) + n) (arrays_sum k)

  pub whole_parts : (k : ℕ) → times k (whole_at o.sizes (contents m) o.id) ≡ times k (o.id ∷ []) + (times k table_blocks + (times k double_blocks + times k listed_blocks)) + times k (places_at o.sizes (contents m) o.id)
  whole_parts k = times-append k (frame_at o.sizes (contents m) o.id) (places_at o.sizes (contents m) o.id) ∙ ap (λ (n : ℕ). n + times k (places_at o.sizes (contents m) o.id)) (frame_parts k)
