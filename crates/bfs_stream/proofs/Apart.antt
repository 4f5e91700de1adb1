-- The inode and the arrays of a stream that owns its blocks have no block in common.
use Rattle.std.proofs.Common.{◌≡◌, ◌≤◌, ◌<◌, ◌+◌, ◌⊎◌, inl, inr, ℕ, zero, suc, List, [], ◌∷◌, ◌++◌, length, Option, refl, ap, arith}
use Rattle.std.specs.List.{flat_map}
use Rattle.bfs_base.specs.Lists.{times, Has}
use Rattle.bfs_bytes.specs.declared.Run.{Run}
use Rattle.bfs_bitmap.specs.Runs.{Room}
use Rattle.bfs_stream.specs.Sizes.{Origin, IsWhole}
use Rattle.bfs_stream.specs.Places.{run_blocks, blocks_of, used_runs, array_runs, arrays_of, fields, second_arrays, arrays_at, places_at, frame_at, whole_at}
use Rattle.bfs_stream.specs.Told.{contents}
use Rattle.bfs_stream.specs.Grown.{Owns}
use Rattle.bfs_stream.proofs.Doubles.{times-append}
use Rattle.bfs_stream.proofs.Frames.{has_first, has_rest, has_left, has_right}
use Rattle.bfs_stream.proofs.Equal.{no_runs_in}

module _ (o : Origin) (v : Room) (m : ℕ → Option (List ℕ)) (owns : Owns o v [] m) where
  -- the inode is none of the arrays
  pub inode_apart : (k : ℕ) → Has (arrays_at o.sizes (contents m) o.id) k → times k (o.id ∷ []) ≡ 0
  inode_apart k has = by_count (times k (o.id ∷ [])) refl
    where
      by_count : (n : ℕ) → times k (o.id ∷ []) ≡ n → times k (o.id ∷ []) ≡ 0
      by_count zero e = e
      by_count (suc n) e =
          let has' : 0 < times k (arrays_at o.sizes (contents m) o.id) = has in
          let sum : times k (whole_at o.sizes (contents m) o.id) ≡ times k ((o.id ∷ []) ++ arrays_at o.sizes (contents m) o.id) + times k (places_at o.sizes (contents m) o.id) = times-append k (frame_at o.sizes (contents m) o.id) (places_at o.sizes (contents m) o.id) in
          let parts = times-append k (o.id ∷ []) (arrays_at o.sizes (contents m) o.id) in
          let le : times k (whole_at o.sizes (contents m) o.id) ≤ 1 = owns.once k in
          absurd (omega (arith, le, sum, parts, has', e))

  pub in_whole : (k : ℕ) → Has (arrays_at o.sizes (contents m) o.id) k → Has (whole_at o.sizes (contents m) o.id) k
  in_whole k has = has_left (frame_at o.sizes (contents m) o.id) (places_at o.sizes (contents m) o.id) k (has_rest o.id (arrays_at o.sizes (contents m) o.id) k has)

  array_of : Run
  array_of = (fields o.sizes (contents m) o.id).indirect

  behind : List ℕ
  behind = run_blocks o.sizes (fields o.sizes (contents m) o.id).double_indirect ++ blocks_of o.sizes (second_arrays o.sizes (contents m) o.id)

  pub in_arrays : (k : ℕ) → Has (run_blocks o.sizes (fields o.sizes (contents m) o.id).indirect) k → Has (arrays_at o.sizes (contents m) o.id) k
  unfolding arrays_of
  in_arrays k has = has_left (run_blocks o.sizes (fields o.sizes (contents m) o.id).indirect) (run_blocks o.sizes (fields o.sizes (contents m) o.id).double_indirect ++ blocks_of o.sizes (second_arrays o.sizes (contents m) o.id)) k has

  pub behind_in : (k : ℕ) → Has (run_blocks o.sizes (fields o.sizes (contents m) o.id).double_indirect ++ blocks_of o.sizes (second_arrays o.sizes (contents m) o.id)) k → Has (arrays_at o.sizes (contents m) o.id) k
  unfolding arrays_of
  behind_in k has = has_right (run_blocks o.sizes (fields o.sizes (contents m) o.id).indirect) (run_blocks o.sizes (fields o.sizes (contents m) o.id).double_indirect ++ blocks_of o.sizes (second_arrays o.sizes (contents m) o.id)) k has

  arrays_sum : (k : ℕ) → times k (arrays_at o.sizes (contents m) o.id) ≡ times k (run_blocks o.sizes (fields o.sizes (contents m) o.id).indirect) + times k (run_blocks o.sizes (fields o.sizes (contents m) o.id).double_indirect ++ blocks_of o.sizes (second_arrays o.sizes (contents m) o.id))
  unfolding arrays_of
  arrays_sum k = times-append k (run_blocks o.sizes (fields o.sizes (contents m) o.id).indirect) (run_blocks o.sizes (fields o.sizes (contents m) o.id).double_indirect ++ blocks_of o.sizes (second_arrays o.sizes (contents m) o.id))

  -- no block of the indirect array is one of the arrays behind it
  pub behind_apart : (k : ℕ) → Has (run_blocks o.sizes (fields o.sizes (contents m) o.id).double_indirect ++ blocks_of o.sizes (second_arrays o.sizes (contents m) o.id)) k → times k (run_blocks o.sizes (fields o.sizes (contents m) o.id).indirect) ≡ 0
  behind_apart k has =
      let has' : 0 < times k (run_blocks o.sizes (fields o.sizes (contents m) o.id).double_indirect ++ blocks_of o.sizes (second_arrays o.sizes (contents m) o.id)) = has in
      let sum : times k (whole_at o.sizes (contents m) o.id) ≡ times k ((o.id ∷ []) ++ arrays_at o.sizes (contents m) o.id) + times k (places_at o.sizes (contents m) o.id) = times-append k (frame_at o.sizes (contents m) o.id) (places_at o.sizes (contents m) o.id) in
      let parts = times-append k (o.id ∷ []) (arrays_at o.sizes (contents m) o.id) in
      let le : times k (whole_at o.sizes (contents m) o.id) ≤ 1 = owns.once k in
      let inner = arrays_sum k in
      omega (arith, le, sum, parts, has', inner)

  -- nor is the inode
  pub inode_not_in : times o.id (run_blocks o.sizes (fields o.sizes (contents m) o.id).indirect) ≡ 0
  inode_not_in = by_count (times o.id (run_blocks o.sizes (fields o.sizes (contents m) o.id).indirect)) refl
    where
      by_count : (n : ℕ) → times o.id (run_blocks o.sizes (fields o.sizes (contents m) o.id).indirect) ≡ n → times o.id (run_blocks o.sizes (fields o.sizes (contents m) o.id).indirect) ≡ 0
      by_count zero e = e
      by_count (suc n) e =
          let none = inode_apart o.id (in_arrays o.id (let h : 0 < times o.id (run_blocks o.sizes (fields o.sizes (contents m) o.id).indirect) = omega (arith, e) in h)) in
          let some : 0 < times o.id (o.id ∷ []) = has_first o.id [] in
          absurd (omega (arith, none, some))

  -- with room in the table there is no level behind it
  pub nothing_behind : length (used_runs (array_runs o.sizes (contents m) (fields o.sizes (contents m) o.id).indirect)) < length (array_runs o.sizes (contents m) (fields o.sizes (contents m) o.id).indirect)
      → flat_map (array_runs o.sizes (contents m)) (second_arrays o.sizes (contents m) o.id) ≡ []
  nothing_behind room = by_cases owns.stands.sound.double
    where
      by_cases : ((fields o.sizes (contents m) o.id).double_indirect.len ≡ 0)
          ⊎ (IsWhole o.sizes (fields o.sizes (contents m) o.id).double_indirect × (0 < length (used_runs (array_runs o.sizes (contents m) (fields o.sizes (contents m) o.id).indirect)))
          × (length (used_runs (array_runs o.sizes (contents m) (fields o.sizes (contents m) o.id).indirect)) ≡ length (array_runs o.sizes (contents m) (fields o.sizes (contents m) o.id).indirect)))
          → flat_map (array_runs o.sizes (contents m)) (second_arrays o.sizes (contents m) o.id) ≡ []
      by_cases (inl none) = ap (λ (l : List Run). flat_map (array_runs o.sizes (contents m)) (used_runs l)) (no_runs_in o.sizes (contents m) (fields o.sizes (contents m) o.id).double_indirect none)
      by_cases (inr full) = absurd (omega (arith, full.2, room))
