-- A stream without blocks.
use Rattle.std.proofs.Common.{◌≡◌, ◌*◌, inl, ℕ, pos, List, [], ◌∷◌, ◌++◌, refl, sym, ap, ◌∙◌, subst, arith}
use Rattle.std.specs.List.{flat_map}
use Rattle.std.proofs.lemmas.Int.{ints}
use Rattle.std.proofs.lemmas.List.Elements.{All-nil}
use Rattle.bfs_bytes.specs.declared.Run.{Run}
use Rattle.bfs_inode.specs.Inode.{Stream, stream_at}
use Rattle.bfs_stream.specs.Sizes.{Sizes, IsInVolume, IsWhole}
use Rattle.bfs_stream.specs.Places.{Levels, used_runs, array_runs, fields, levels_at, level_blocks, arrays_of, places_of, places_at, whole_at, HasLevels}
use Rattle.bfs_stream.proofs.Arrays.{array_is}
use Rattle.bfs_fresh.specs.Fresh.{zero_run, no_stream}

abbrev no_levels : Levels
no_levels = record { stream = no_stream; table = []; arrays = []; runs = [] }

module _ (s : Sizes) (blocks : ℕ → List ℕ) (id : ℕ) (stream : stream_at (blocks id) ≡ no_stream) where
  no_array : array_runs s blocks zero_run ≡ []
  no_array = array_is s blocks zero_run

  levels_are : levels_at s blocks id ≡ no_levels
  levels_are =
      let table : array_runs s blocks (fields s blocks id).indirect ≡ [] = ap (λ (t : Stream). array_runs s blocks t.indirect) stream ∙ no_array in
      let arrays : array_runs s blocks (fields s blocks id).double_indirect ≡ [] = ap (λ (t : Stream). array_runs s blocks t.double_indirect) stream ∙ no_array in
      let runs : flat_map (array_runs s blocks) (used_runs (array_runs s blocks (fields s blocks id).double_indirect)) ≡ [] = ap (λ (l : List Run). flat_map (array_runs s blocks) (used_runs l)) arrays in
      λ i. record { stream = stream i; table = table i; arrays = arrays i; runs = runs i }

  pub whole_empty : whole_at s blocks id ≡ id ∷ []
  unfolding level_blocks arrays_of
  whole_empty = ap (λ (l : Levels). (id ∷ arrays_of s l) ++ places_of s l) levels_are

  pub places_empty : places_at s blocks id ≡ []
  unfolding level_blocks
  places_empty = ap (places_of s) levels_are

  no_end : pos 0 ≡ pos (s.block_size * 0)
  no_end = ap pos (let z : 0 ≡ s.block_size * 0 = grind arith in z)

  sound_empty : HasLevels s no_levels
  unfolding level_blocks
  sound_empty = record {
    direct = All-nil (IsInVolume s);
    indirect = inl refl;
    in_indirect = All-nil (IsInVolume s);
    double = inl refl;
    arrays = All-nil (IsWhole s);
    in_double = All-nil (IsWhole s);
    direct_range = no_end;
    indirect_range = no_end;
    double_range = no_end;
    size_low = omega (arith, ints);
    size_high = omega arith;
  }

  pub levels_sound : HasLevels s (levels_at s blocks id)
  levels_sound = subst (HasLevels s) (sym levels_are) sound_empty
