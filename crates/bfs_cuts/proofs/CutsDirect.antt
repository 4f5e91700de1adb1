-- The last direct run was shortened or ended, and what is gone of it given back.
use Rattle.std.proofs.Common.{◌≡◌, ◌≤◌, ◌<◌, ◌+◌, ◌-◌, ◌*◌, ◌∙◌, ◌⊎◌, inl, inr, ℕ, zero, suc, pos, List, [], ◌∷◌, ◌++◌, length, take, set, get_or, Bool, true, cond, Option, Some, unwrap_or, refl, sym, ap, subst, arith, length-append}
use Rattle.std.specs.Prelude.{◌==◌, IsSome, All, slice_get}
use Rattle.std.specs.List.{flat_map}
use Rattle.std.proofs.lemmas.Option.{get_or_from_slice_get}
use Rattle.bfs_base.specs.Lists.{times, Has, Agree}
use Rattle.bfs_bytes.specs.declared.Run.{Run}
use Rattle.bfs_super.specs.Conditions.{natural}
use Rattle.bfs_inode.specs.Inode.{Stream, stream_at}
use Rattle.bfs_txn.specs.Told.{with_block}
use Rattle.bfs_bitmap.specs.Runs.{Room, Fits}
use Rattle.bfs_stream.specs.Sizes.{Origin, IsInVolume, first_block}
use Rattle.bfs_stream.specs.Places.{Levels, run_blocks, blocks_of, used_runs, array_runs, level_blocks, arrays_of, places_of, fields, second_arrays, levels_at, arrays_at, places_at, frame_at, HasLevels}
use Rattle.bfs_stream.specs.Told.{contents}
use Rattle.bfs_stream.specs.Grown.{Owns, HasWritten, KeepsRest}
use Rattle.bfs_stream.specs.Trimmed.{Gave, Trimmed, KeepsLevels, HasNoArrays}
use Rattle.bfs_stream.proofs.Levels.{length-counted}
use Rattle.bfs_stream.proofs.Placed.{length-places}
use Rattle.bfs_stream.proofs.Appends.{appended_blocks}
use Rattle.bfs_stream.proofs.Doubles.{used_at, all_at}
use Rattle.bfs_stream.proofs.Frames.{has_left, levels_but}
use Rattle.bfs_stream.proofs.Equal.{apart_test, same_test, is_test, no_runs_in}
use Rattle.bfs_stream.proofs.Apart.{inode_apart}
use Rattle.bfs_cuts.proofs.Cutting.{fits_before, blocks_cut}
use Rattle.bfs_cuts.proofs.Shorter.{split_last, used_some, cut_direct, cut_places, cut_arrays, cut_sound}
use Rattle.bfs_stream.proofs.Writes.{IsBitBlockOf}

-- a stream without arrays has the blocks of its direct runs alone
module _ (o : Origin) (m : ℕ → Option (List ℕ)) (none : HasNoArrays o m) where
  pub no_table : level_blocks o.sizes (array_runs o.sizes (contents m) (fields o.sizes (contents m) o.id).indirect) ≡ []
  unfolding level_blocks
  no_table = ap (λ (x : List Run). blocks_of o.sizes (used_runs x)) (no_runs_in o.sizes (contents m) (fields o.sizes (contents m) o.id).indirect none.0)

  pub no_runs : level_blocks o.sizes (flat_map (array_runs o.sizes (contents m)) (second_arrays o.sizes (contents m) o.id)) ≡ []
  unfolding level_blocks
  no_runs = ap (λ (x : List Run). blocks_of o.sizes (used_runs (flat_map (array_runs o.sizes (contents m)) (used_runs x)))) (no_runs_in o.sizes (contents m) (fields o.sizes (contents m) o.id).double_indirect none.1)

  pub direct_long : (front : List Run) (last : Run) → used_runs (fields o.sizes (contents m) o.id).direct ≡ front ++ last ∷ [] → length (level_blocks o.sizes (fields o.sizes (contents m) o.id).direct) ≡ length (blocks_of o.sizes front) + last.len
  unfolding level_blocks
  direct_long front last is =
      ap (λ (x : List Run). length (blocks_of o.sizes x)) is ∙ ap length (appended_blocks o.sizes front last) ∙ length-append (blocks_of o.sizes front) (run_blocks o.sizes last)
      ∙ ap (λ (n : ℕ). length (blocks_of o.sizes front) + n) (length-counted (first_block o.sizes last) last.len)

  pub places_long : (front : List Run) (last : Run) → used_runs (fields o.sizes (contents m) o.id).direct ≡ front ++ last ∷ [] → length (places_at o.sizes (contents m) o.id) ≡ length (blocks_of o.sizes front) + last.len
  places_long front last is =
      let a = direct_long front last is in
      let b : length (level_blocks o.sizes (array_runs o.sizes (contents m) (fields o.sizes (contents m) o.id).indirect)) ≡ 0 = ap length no_table in
      let c : length (level_blocks o.sizes (flat_map (array_runs o.sizes (contents m)) (second_arrays o.sizes (contents m) o.id))) ≡ 0 = ap length no_runs in
      omega (arith, length-places o.sizes (contents m) o.id, a, b, c)

pub larger : (size b x y : ℕ) → size ≤ b * x → x ≤ y → size ≤ b * y
larger size b x y h g = grind (arith, h, g)

module _ (o : Origin) (v now : Room) (last r gone : Run) (front : List Run) (m : ℕ → Option (List ℕ)) (told2 : Option (ℕ → Option (List ℕ))) (bytes2 : List ℕ) (owns : Owns o v [] m)
    (is : used_runs (fields o.sizes (contents m) o.id).direct ≡ front ++ last ∷ []) (parts : run_blocks o.sizes last ≡ run_blocks o.sizes r ++ run_blocks o.sizes gone) (inside : 0 < r.len → IsInVolume o.sizes r) (none : HasNoArrays o m)
    (size : natural (fields o.sizes (contents m) o.id).size ≤ o.sizes.block_size * (length (blocks_of o.sizes front) + r.len))
    (put : stream_at bytes2 ≡ record (fields o.sizes (contents m) o.id) { direct = set (fields o.sizes (contents m) o.id).direct (length front) r; max_direct_range = pos (o.sizes.block_size * (length (blocks_of o.sizes front) + r.len)) }) (kept : KeepsRest (contents m o.id) bytes2) where
  abbrev m1 : ℕ → Option (List ℕ)
  m1 = with_block o.id bytes2 m

  abbrev l : Levels
  l = levels_at o.sizes (contents m) o.id

  abbrev next : Levels
  next = cut_direct o.sizes (levels_at o.sizes (contents m) o.id) front r

  here : contents m1 o.id ≡ bytes2
  here = let e : (o.id == o.id) ≡ true = same_test o.id in ap (λ (b : Bool). unwrap_or (cond b (Some bytes2) (m o.id)) []) e

  written : (k : ℕ) → times k (o.id ∷ []) ≡ 0 → m1 k ≡ m k
  written k e = ap (λ (b : Bool). cond b (Some bytes2) (m k)) (apart_test k o.id e)

  inside_frame : (k : ℕ) → Has (o.id ∷ []) k → Has (frame_at o.sizes (contents m) o.id) k
  inside_frame k has = has_left (o.id ∷ []) (arrays_at o.sizes (contents m) o.id) k has

  agree : Agree (contents m) (contents m1) (arrays_at o.sizes (contents m) o.id)
  agree k has = ap (λ (x : Option (List ℕ)). unwrap_or x []) (written k (inode_apart o v m owns k has))

  new_stream : stream_at (contents m1 o.id) ≡ next.stream
  new_stream = ap stream_at here ∙ put

  levels_are : levels_at o.sizes (contents m1) o.id ≡ next
  levels_are =
      levels_but (contents m) (contents m1) o.sizes o.id agree (ap (λ (t : Stream). t.indirect) new_stream) (ap (λ (t : Stream). t.double_indirect) new_stream)
      ∙ ap (λ (t : Stream). record (levels_at o.sizes (contents m) o.id) { stream = t }) new_stream

  next_sound : HasLevels o.sizes next
  next_sound = cut_sound o.sizes l front last r gone owns.stands.sound is parts inside (no_table o m none) (no_runs o m none) none.0 none.1 size

  next_places : places_at o.sizes (contents m) o.id ≡ places_of o.sizes next ++ run_blocks o.sizes gone
  next_places = cut_places o.sizes l front last r gone owns.stands.sound is parts inside (no_table o m none) (no_runs o m none) none.0 none.1 size

  next_arrays : arrays_of o.sizes next ≡ arrays_at o.sizes (contents m) o.id
  next_arrays = cut_arrays o.sizes l front last r gone owns.stands.sound is parts inside (no_table o m none) (no_runs o m none) none.0 none.1 size

  told_ws : (k : ℕ) → Has (o.id ∷ []) k → IsSome (m1 k)
  told_ws k has = by_count (times k (o.id ∷ [])) refl
    where
      by_count : (n : ℕ) → times k (o.id ∷ []) ≡ n → IsSome (m1 k)
      by_count zero e = let some : 0 < times k (o.id ∷ []) = has in absurd (omega (arith, some, e))
      by_count (suc n) e = subst (λ (x : Option (List ℕ)). IsSome x) (sym (ap (λ (b : Bool). cond b (Some bytes2) (m k)) (is_test k o.id n e))) refl

  no_array : (0 < (fields o.sizes (contents m) o.id).indirect.len) ⊎ (0 < (fields o.sizes (contents m) o.id).double_indirect.len) → ⊥
  no_array (inl some) = let e : (fields o.sizes (contents m) o.id).indirect.len ≡ 0 = none.0 in omega (arith, some, e)
  no_array (inr some) = let e : (fields o.sizes (contents m) o.id).double_indirect.len ≡ 0 = none.1 in omega (arith, some, e)

  next_keeps : KeepsLevels (levels_at o.sizes (contents m) o.id) next
  next_keeps = record { indirect = refl; double = refl; arrays = refl; direct = λ some. absurd (no_array some); table = λ some. absurd (no_array (inr some)) }

  -- the bitmap fits when the run is given back
  pub fits_now : Fits v (with_block o.id bytes2 m)
  fits_now = fits_before o v now (run_blocks o.sizes gone) m m1 told2 (o.id ∷ []) next owns written inside_frame

  pub cut : (old new : ℕ → Bool) → Gave v now (run_blocks o.sizes gone) (with_block o.id bytes2 m) told2 → now ≡ record v { given = now.given; tally = now.tally } → HasWritten (IsBitBlockOf v (run_blocks o.sizes gone)) old new (o.id ∷ [])
      → (t : Trimmed o v now m (run_blocks o.sizes gone) told2 old new) × KeepsLevels (levels_at o.sizes (contents m) o.id) (levels_at o.sizes (contents t.map) o.id)
  cut old new gave rest changes =
      blocks_cut o v now (run_blocks o.sizes gone) m m1 told2 (o.id ∷ []) next owns written inside_frame levels_are next_sound told_ws (subst (λ (b : List ℕ). KeepsRest (contents m o.id) b) (sym here) kept)
      next_places next_arrays next_keeps old new gave rest changes

-- the last direct run as it was read
module _ (o : Origin) (m : ℕ → Option (List ℕ)) (bytes : List ℕ) (used : ℕ) (last : Run) (read : bytes ≡ contents m o.id) (used_is : used ≡ length (used_runs (stream_at bytes).direct)) (one : 1 ≤ used) (is : last ≡ get_or (stream_at bytes).direct (used - 1) last) where
  abbrev runs : List Run
  runs = used_runs (fields o.sizes (contents m) o.id).direct

  used_now : used ≡ length runs
  used_now = used_is ∙ ap (λ (b : List ℕ). length (used_runs (stream_at b).direct)) read

  split : (last : Run) × (runs ≡ take (used - 1) runs ++ last ∷ []) × (slice_get runs (used - 1) ≡ Some last)
  split = split_last runs (used - 1) (let e = used_now in omega (arith, e, one))

  abbrev pub front : List Run
  front = take (used - 1) runs

  last_is : last ≡ split.0
  last_is =
      is ∙ ap (λ (b : List ℕ). get_or (stream_at b).direct (used - 1) last) read
      ∙ get_or_from_slice_get (fields o.sizes (contents m) o.id).direct (used - 1) split.0 last (used_at (fields o.sizes (contents m) o.id).direct (used - 1) split.0 split.2)

  pub runs_are : used_runs (fields o.sizes (contents m) o.id).direct ≡ front ++ last ∷ []
  runs_are = split.1 ∙ ap (λ (r : Run). front ++ r ∷ []) (sym last_is)

  pub front_long : length front ≡ used - 1
  front_long = let a : length runs ≡ length front + 1 = ap length runs_are ∙ length-append front (last ∷ []) in let b = used_now in omega (arith, a, b)

  pub last_some : 0 < last.len
  last_some = subst (λ (r : Run). 0 < r.len) (sym last_is) (used_some (fields o.sizes (contents m) o.id).direct (used - 1) split.0 split.2)

  pub last_inside : All (IsInVolume o.sizes) (used_runs (fields o.sizes (contents m) o.id).direct) → IsInVolume o.sizes last
  last_inside all = subst (IsInVolume o.sizes) (sym last_is) (all_at (IsInVolume o.sizes) runs (used - 1) split.0 all split.2)
