-- A run was taken and written behind the direct runs.
use Rattle.std.proofs.Common.{◌≡◌, ◌≤◌, ◌<◌, ◌+◌, ◌*◌, ◌∙◌, ◌⊎◌, inl, inr, ℕ, zero, suc, pos, List, [], ◌∷◌, ◌++◌, length, set, Bool, true, cond, Option, Some, unwrap_or, refl, sym, ap, subst, arith}
use Rattle.std.specs.Prelude.{◌==◌, IsSome}
use Rattle.std.specs.List.{flat_map}
use Rattle.std.specs.Option.{option_map}
use Rattle.bfs_base.specs.Lists.{times, Has, Agree, AreSame}
use Rattle.bfs_bytes.specs.declared.Run.{Run}
use Rattle.bfs_inode.specs.Inode.{Stream, stream_at}
use Rattle.bfs_inode.proofs.Runs.{length-runs_in}
use Rattle.bfs_txn.specs.Told.{StaysChanged, with_block}
use Rattle.bfs_bitmap.specs.Runs.{Room, Fits, IsCounted, is_free}
use Rattle.bfs_stream.specs.Sizes.{Sizes, HasSizes, Origin, IsInVolume, IsWhole}
use Rattle.bfs_stream.specs.Places.{Levels, run_blocks, used_runs, array_runs, level_blocks, arrays_of, places_of, fields, levels_at, arrays_at, places_at, frame_at, whole_at, HasLevels}
use Rattle.bfs_stream.specs.Told.{contents, AreTold}
use Rattle.bfs_stream.specs.Scans.{ends_of}
use Rattle.bfs_stream.specs.Grown.{Owns, Took, Grown, HasWritten, KeepsRest}
use Rattle.bfs_stream.proofs.Doubles.{times-append}
use Rattle.bfs_stream.proofs.Frames.{has_rest, has_left, levels_but}
use Rattle.bfs_stream.proofs.Placed.{direct_end}
use Rattle.bfs_growth.proofs.Directs.{with_direct, places_more, arrays_stay, direct_sound}
use Rattle.bfs_growth.proofs.Finish.{none_entered, grown_is, few_more}
use Rattle.bfs_stream.proofs.Writes.{IsBitBlockOf}
use Rattle.bfs_stream.proofs.Equal.{apart_test, is_test, no_runs_in, same_test}

module _ (s : Sizes) (blocks : ℕ → List ℕ) (id : ℕ) (sound : HasLevels s (levels_at s blocks id)) (room : length (used_runs (fields s blocks id).direct) < 12) where
  pub no_table : array_runs s blocks (fields s blocks id).indirect ≡ []
  no_table = by_cases sound.indirect
    where
      by_cases : ((fields s blocks id).indirect.len ≡ 0) ⊎ (IsInVolume s (fields s blocks id).indirect × (length (used_runs (fields s blocks id).direct) ≡ 12)) → array_runs s blocks (fields s blocks id).indirect ≡ []
      by_cases (inl none) = no_runs_in s blocks (fields s blocks id).indirect none
      by_cases (inr full) = absurd (omega (arith, full.1, room))

  pub no_runs : flat_map (array_runs s blocks) (used_runs (array_runs s blocks (fields s blocks id).double_indirect)) ≡ []
  no_runs = by_cases sound.double
    where
      by_cases : ((fields s blocks id).double_indirect.len ≡ 0)
          ⊎ (IsWhole s (fields s blocks id).double_indirect × (0 < length (used_runs (array_runs s blocks (fields s blocks id).indirect))) × (length (used_runs (array_runs s blocks (fields s blocks id).indirect)) ≡ length (array_runs s blocks (fields s blocks id).indirect)))
          → flat_map (array_runs s blocks) (used_runs (array_runs s blocks (fields s blocks id).double_indirect)) ≡ []
      by_cases (inl none) = ap (λ (l : List Run). flat_map (array_runs s blocks) (used_runs l)) (no_runs_in s blocks (fields s blocks id).double_indirect none)
      by_cases (inr has) = let none : length (used_runs (array_runs s blocks (fields s blocks id).indirect)) ≡ 0 = ap (λ (l : List Run). length (used_runs l)) no_table in absurd (omega (arith, has.1, none))

module _ (o : Origin) (v now : Room) (run none : Run) (m : ℕ → Option (List ℕ)) (told1 told2 : Option (ℕ → Option (List ℕ))) (bytes0 bytes2 : List ℕ) (used blocks : ℕ)
    (owns : Owns o v [] m) (took : Took o.sizes v now run m told1) (rest : now ≡ record v { tally = now.tally }) (set_is : told2 ≡ option_map (with_block o.id bytes2) told1)
    (read : bytes0 ≡ contents m o.id) (used_is : used ≡ length (used_runs (stream_at bytes0).direct)) (room : used < 12) (end : blocks ≡ (ends_of o.sizes (stream_at bytes0)).direct) (sizes : HasSizes o.sizes)
    (inside : IsInVolume o.sizes run) (some : 0 < run.len) (zero_len : none.len ≡ 0)
    (put : stream_at bytes2 ≡ record (stream_at bytes0) { direct = set (set (stream_at bytes0).direct (used + 1) none) used run; max_direct_range = pos (o.sizes.block_size * (blocks + run.len)) }) (kept : KeepsRest bytes0 bytes2) where
  l : Levels
  l = levels_at o.sizes (contents m) o.id

  next : Levels
  unfolding l
  next = record l { stream = with_direct o.sizes l run none }

  m2 : ℕ → Option (List ℕ)
  m2 = with_block o.id bytes2 took.map

  used_now : used ≡ length (used_runs (fields o.sizes (contents m) o.id).direct)
  used_now = used_is ∙ ap (λ (b : List ℕ). length (used_runs (stream_at b).direct)) read

  blocks_now : blocks ≡ length (level_blocks o.sizes (fields o.sizes (contents m) o.id).direct)
  blocks_now = end ∙ ap (λ (b : List ℕ). (ends_of o.sizes (stream_at b)).direct) read ∙ direct_end o.sizes (contents m) o.id sizes owns.stands.sound

  made : List ℕ → ℕ → ℕ → ℕ → Stream
  made b u after n = record (stream_at b) { direct = set (set (stream_at b).direct after none) u run; max_direct_range = pos (o.sizes.block_size * (n + run.len)) }

  stream_is : stream_at bytes2 ≡ with_direct o.sizes (levels_at o.sizes (contents m) o.id) run none
  unfolding made
  stream_is =
      let u : ℕ = length (used_runs (fields o.sizes (contents m) o.id).direct) in
      let after : used + 1 ≡ suc u = let e = used_now in omega (arith, e) in
      put ∙ ap (λ b. made b used (used + 1) blocks) read ∙ ap (λ n. made (contents m o.id) used n blocks) after ∙ ap (λ n. made (contents m o.id) n (suc u) blocks) used_now ∙ ap (λ n. made (contents m o.id) u (suc u) n) blocks_now

  here : contents m2 o.id ≡ bytes2
  unfolding m2
  here = let e : (o.id == o.id) ≡ true = same_test o.id in ap (λ (b : Bool). unwrap_or (cond b (Some bytes2) (took.map o.id)) []) e

  written : (k : ℕ) → times k (o.id ∷ []) ≡ 0 → m2 k ≡ took.map k
  unfolding m2
  written k e = ap (λ (b : Bool). cond b (Some bytes2) (took.map k)) (apart_test k o.id e)

  -- the inode is none of the arrays
  not_inode : (k : ℕ) → Has (arrays_at o.sizes (contents m) o.id) k → times k (o.id ∷ []) ≡ 0
  not_inode k has = by_count (times k (o.id ∷ [])) refl
    where
      by_count : (n : ℕ) → times k (o.id ∷ []) ≡ n → times k (o.id ∷ []) ≡ 0
      by_count zero e = e
      by_count (suc n) e =
          let one = owns.once k in
          let has' : 0 < times k (arrays_at o.sizes (contents m) o.id) = has in
          let sum : times k (whole_at o.sizes (contents m) o.id) ≡ times k ((o.id ∷ []) ++ arrays_at o.sizes (contents m) o.id) + times k (places_at o.sizes (contents m) o.id) = times-append k (frame_at o.sizes (contents m) o.id) (places_at o.sizes (contents m) o.id) in
          let parts = times-append k (o.id ∷ []) (arrays_at o.sizes (contents m) o.id) in
          let le : times k (whole_at o.sizes (contents m) o.id) ≤ 1 = one in
          absurd (omega (arith, le, sum, parts, has', e))

  in_whole : (k : ℕ) → Has (arrays_at o.sizes (contents m) o.id) k → Has (whole_at o.sizes (contents m) o.id) k
  in_whole k has = has_left (frame_at o.sizes (contents m) o.id) (places_at o.sizes (contents m) o.id) k (has_rest o.id (arrays_at o.sizes (contents m) o.id) k has)

  array_stays : (k : ℕ) → Has (arrays_at o.sizes (contents m) o.id) k → m2 k ≡ m k
  array_stays k has = written k (not_inode k has) ∙ took.others k (owns.outside k (in_whole k has))

  agree : Agree (contents m) (contents m2) (arrays_at o.sizes (contents m) o.id)
  agree k has = ap (λ (x : Option (List ℕ)). unwrap_or x []) (array_stays k has)

  new_stream : stream_at (contents m2 o.id) ≡ with_direct o.sizes (levels_at o.sizes (contents m) o.id) run none
  new_stream = ap stream_at here ∙ stream_is

  levels_are : levels_at o.sizes (contents m2) o.id ≡ next
  unfolding next l
  levels_are =
      levels_but (contents m) (contents m2) o.sizes o.id agree (ap (λ (t : Stream). t.indirect) new_stream) (ap (λ (t : Stream). t.double_indirect) new_stream)
      ∙ ap (λ (t : Stream). record (levels_at o.sizes (contents m) o.id) { stream = t }) new_stream

  long : length (fields o.sizes (contents m) o.id).direct ≡ 12
  long = length-runs_in 12 (contents m o.id) 72

  few : length (used_runs (fields o.sizes (contents m) o.id).direct) < 12
  few = let e = used_now in omega (arith, e)

  table_none : array_runs o.sizes (contents m) (fields o.sizes (contents m) o.id).indirect ≡ []
  table_none = no_table o.sizes (contents m) o.id owns.stands.sound few

  runs_none : flat_map (array_runs o.sizes (contents m)) (used_runs (array_runs o.sizes (contents m) (fields o.sizes (contents m) o.id).double_indirect)) ≡ []
  runs_none = no_runs o.sizes (contents m) o.id owns.stands.sound few

  next_sound : HasLevels o.sizes next
  unfolding next l
  next_sound = direct_sound o.sizes (levels_at o.sizes (contents m) o.id) run none owns.stands.sound some zero_len inside long few table_none runs_none

  next_places : places_of o.sizes next ≡ places_at o.sizes (contents m) o.id ++ run_blocks o.sizes run
  unfolding next l
  next_places = places_more o.sizes (levels_at o.sizes (contents m) o.id) run none owns.stands.sound some zero_len inside long few table_none runs_none

  next_arrays : arrays_of o.sizes next ≡ arrays_at o.sizes (contents m) o.id
  unfolding next l
  next_arrays = arrays_stay o.sizes (levels_at o.sizes (contents m) o.id) run none owns.stands.sound some zero_len inside long few table_none runs_none

  same : AreSame ((o.id ∷ arrays_of o.sizes next) ++ places_of o.sizes next) (run_blocks o.sizes run ++ whole_at o.sizes (contents m) o.id)
  same k =
      let frame : List ℕ = frame_at o.sizes (contents m) o.id in
      let places : List ℕ = places_at o.sizes (contents m) o.id in
      let hand : List ℕ = run_blocks o.sizes run in
      let a : times k ((o.id ∷ arrays_of o.sizes next) ++ places_of o.sizes next) ≡ times k (o.id ∷ arrays_of o.sizes next) + times k (places_of o.sizes next) = times-append k (o.id ∷ arrays_of o.sizes next) (places_of o.sizes next) in
      let b : times k (o.id ∷ arrays_of o.sizes next) ≡ times k frame = ap (λ (x : List ℕ). times k (o.id ∷ x)) next_arrays in
      let c : times k (places_of o.sizes next) ≡ times k places + times k hand = ap (times k) next_places ∙ times-append k places hand in
      let d : times k (hand ++ (frame ++ places)) ≡ times k hand + (times k frame + times k places) = times-append k hand (frame ++ places) ∙ ap (λ (n : ℕ). times k hand + n) (times-append k frame places) in
      a ∙ (let e : times k (o.id ∷ arrays_of o.sizes next) + times k (places_of o.sizes next) ≡ times k hand + (times k frame + times k places) = omega (arith, b, c) in e) ∙ sym d

  told_now : AreTold m2 (o.id ∷ arrays_of o.sizes next)
  unfolding m2
  told_now k has = by_count (times k (o.id ∷ [])) refl
    where
      by_count : (n : ℕ) → times k (o.id ∷ []) ≡ n → IsSome (m2 k)
      by_count zero e =
          let all : Has (frame_at o.sizes (contents m) o.id) k = subst (λ (x : List ℕ). Has (o.id ∷ x) k) next_arrays has in
          let here : 0 < times k ((o.id ∷ []) ++ arrays_at o.sizes (contents m) o.id) = all in
          let parts = times-append k (o.id ∷ []) (arrays_at o.sizes (contents m) o.id) in
          let rest : Has (arrays_at o.sizes (contents m) o.id) k = let h : 0 < times k (arrays_at o.sizes (contents m) o.id) = omega (arith, here, parts, e) in h in
          subst (λ (x : Option (List ℕ)). IsSome x) (sym (array_stays k rest)) (owns.stands.told k all)
      by_count (suc n) e = subst (λ (x : Option (List ℕ)). IsSome x) (sym (is_it e)) refl
        where
          is_it : times k (o.id ∷ []) ≡ suc n → m2 k ≡ Some bytes2
          is_it h = let t : (k == o.id) ≡ true = is_test k o.id n h in ap (λ (b : Bool). cond b (Some bytes2) (took.map k)) t

  next_few : length (level_blocks o.sizes next.runs) ≤ length (level_blocks o.sizes (levels_at o.sizes (contents m) o.id).runs) + length (run_blocks o.sizes run)
  unfolding next l
  next_few = few_more (length (level_blocks o.sizes (levels_at o.sizes (contents m) o.id).runs)) (length (level_blocks o.sizes (levels_at o.sizes (contents m) o.id).runs)) (length (run_blocks o.sizes run)) refl

  rest_now : KeepsRest (contents m o.id) (contents m2 o.id)
  rest_now = subst (λ (b : List ℕ). KeepsRest b (contents m2 o.id)) read (subst (λ (b : List ℕ). KeepsRest bytes0 b) (sym here) kept)

  pub added : (old new : ℕ → Bool) → HasWritten (IsBitBlockOf v (run_blocks o.sizes run)) old new (o.id ∷ []) → StaysChanged old new → Grown o v now m (run_blocks o.sizes run) told2 old new
  unfolding m2
  added old new changes stays =
      let set_some : told2 ≡ Some (with_block o.id bytes2 took.map) = set_is ∙ ap (option_map (with_block o.id bytes2)) took.is in
      subst (λ (x : Room). Grown o v x m (run_blocks o.sizes run) told2 old new) (sym rest)
      (subst (λ (t : Option (ℕ → Option (List ℕ))). Grown o v (record v { tally = now.tally }) m (run_blocks o.sizes run) t old new) (sym set_some)
      (grown_is o v now.tally run m took.map (with_block o.id bytes2 took.map) told1 (o.id ∷ []) (run_blocks o.sizes run) next owns took.is
      (subst (λ (x : Room). Fits x took.map) rest took.fits) took.others took.first took.were_free
      (λ k. sym (ap (λ (x : Room). is_free x took.map k) rest) ∙ took.free k) took.marks (λ count. subst (λ (x : Room). IsCounted x took.map) rest (took.counted count))
      written levels_are next_sound next_places same
      (λ k has. subst (λ (x : List ℕ). Has (o.id ∷ x) k) (sym next_arrays) has)
      (λ k has. first_has k has) told_now next_few rest_now old new changes stays (none_entered o m (arrays_of o.sizes next) new next_arrays)))
    where
      first_has : (k : ℕ) → Has (o.id ∷ []) k → Has (o.id ∷ arrays_of o.sizes next) k
      first_has k has = has_left (o.id ∷ []) (arrays_of o.sizes next) k has
