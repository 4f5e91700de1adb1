-- A stream whose double indirect level has no array.
use Rattle.std.proofs.Common.{◌≡◌, ◌+◌, ◌∙◌, ℕ, List, [], ◌∷◌, ◌++◌, length, Option, ap, arith, length-append}
use Rattle.std.specs.List.{flat_map}
use Rattle.bfs_bytes.specs.declared.Run.{Run}
use Rattle.bfs_stream.specs.Sizes.{Origin, first_block}
use Rattle.bfs_stream.specs.Places.{run_blocks, blocks_of, used_runs, array_runs, level_blocks, fields, second_arrays, levels_at, places_at}
use Rattle.bfs_stream.specs.Told.{contents}
use Rattle.bfs_stream.proofs.Levels.{length-counted}
use Rattle.bfs_stream.proofs.Placed.{length-places}
use Rattle.bfs_stream.proofs.Appends.{appended_blocks}
use Rattle.bfs_stream.proofs.Equal.{no_runs_in}

module _ (o : Origin) (m : ℕ → Option (List ℕ)) (none : (fields o.sizes (contents m) o.id).double_indirect.len ≡ 0) where
  abbrev pub table : List Run
  table = array_runs o.sizes (contents m) (fields o.sizes (contents m) o.id).indirect

  pub no_second : second_arrays o.sizes (contents m) o.id ≡ []
  no_second = ap used_runs (no_runs_in o.sizes (contents m) (fields o.sizes (contents m) o.id).double_indirect none)

  pub nothing_second : level_blocks o.sizes (levels_at o.sizes (contents m) o.id).runs ≡ []
  unfolding level_blocks
  nothing_second = ap (λ (x : List Run). blocks_of o.sizes (used_runs (flat_map (array_runs o.sizes (contents m)) x))) no_second

  pub table_whole_long : (front : List Run) (last : Run) → used_runs (array_runs o.sizes (contents m) (fields o.sizes (contents m) o.id).indirect) ≡ front ++ last ∷ []
      → length (places_at o.sizes (contents m) o.id) ≡ length (level_blocks o.sizes (fields o.sizes (contents m) o.id).direct) + (length (blocks_of o.sizes front) + last.len)
  unfolding level_blocks
  table_whole_long front last is =
      let a : length (level_blocks o.sizes (array_runs o.sizes (contents m) (fields o.sizes (contents m) o.id).indirect)) ≡ length (blocks_of o.sizes front) + last.len =
      ap (λ (x : List Run). length (blocks_of o.sizes x)) is ∙ ap length (appended_blocks o.sizes front last) ∙ length-append (blocks_of o.sizes front) (run_blocks o.sizes last)
      ∙ ap (λ (n : ℕ). length (blocks_of o.sizes front) + n) (length-counted (first_block o.sizes last) last.len) in
      let b : length (level_blocks o.sizes (levels_at o.sizes (contents m) o.id).runs) ≡ 0 = ap length nothing_second in
      omega (arith, length-places o.sizes (contents m) o.id, a, b)
