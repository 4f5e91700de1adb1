-- A run was taken and written into the table of the indirect level.
use Rattle.std.proofs.Common.{◌≡◌, ◌≤◌, ◌<◌, ◌+◌, ◌*◌, ◌∙◌, ℕ, zero, suc, pos, List, [], ◌∷◌, ◌++◌, length, set, Bool, cond, Option, Some, unwrap_or, refl, sym, ap, subst, arith}
use Rattle.std.specs.Prelude.{IsSome}
use Rattle.std.specs.List.{flat_map}
use Rattle.std.proofs.Math.Nat.{mul_comm}
use Rattle.bfs_base.specs.Lists.{times, Has, Agree, AreSame}
use Rattle.bfs_bytes.specs.declared.Run.{Run}
use Rattle.bfs_inode.specs.Inode.{Stream, stream_at}
use Rattle.bfs_txn.specs.Told.{StaysChanged, with_block}
use Rattle.bfs_bitmap.specs.Runs.{Room, Fits, IsCounted, is_free}
use Rattle.bfs_stream.specs.Sizes.{Origin, IsInVolume, runs_per_block}
use Rattle.bfs_stream.specs.Places.{Levels, run_blocks, blocks_of, used_runs, array_runs, level_blocks, arrays_of, places_of, fields, second_arrays, levels_at, arrays_at, places_at, frame_at, whole_at, HasLevels}
use Rattle.bfs_stream.specs.Told.{contents, AreTold}
use Rattle.bfs_stream.specs.Grown.{Owns, Took, Grown, HasPut, HasFields, HasWritten, KeepsRest}
use Rattle.bfs_stream.proofs.Arrays.{length-array}
use Rattle.bfs_stream.proofs.Doubles.{times-append}
use Rattle.bfs_stream.proofs.Frames.{has_first, has_rest, has_left, array_same, levels_table}
use Rattle.bfs_stream.proofs.Placed.{length-places}
use Rattle.bfs_growth.proofs.Tables.{with_indirect, indirect_places, indirect_arrays, indirect_sound}
use Rattle.bfs_stream.proofs.Equal.{same_test, apart_test, is_test}
use Rattle.bfs_growth.proofs.Finish.{none_entered, grown_is, few_more}
use Rattle.bfs_stream.proofs.Writes.{IsBitBlockOf}
use Rattle.bfs_stream.proofs.Apart.{behind_apart, behind_in, in_arrays, in_whole, inode_apart, inode_not_in, nothing_behind}

module _ (o : Origin) (v now : Room) (run none array : Run) (m : ℕ → Option (List ℕ)) (told1 told2 told3 told4 : Option (ℕ → Option (List ℕ))) (used total : ℕ)
    (owns : Owns o v [] m) (took : Took o.sizes v now run m told1) (rest : now ≡ record v { tally = now.tally })
    (array_is : array ≡ (fields o.sizes (contents m) o.id).indirect) (used_is : used ≡ length (used_runs (array_runs o.sizes (contents m) array))) (total_is : total ≡ length (places_at o.sizes (contents m) o.id))
    (ended : HasPut o.sizes array (used + 1) none took.map told2) (put : HasPut o.sizes array used run ended.map told3)
    (wrote : HasFields o (record (stream_at (contents put.map o.id)) { max_indirect_range = pos (o.sizes.block_size * (total + run.len)) }) put.map told4)
    (room : used < array.len * runs_per_block o.sizes) (inside : IsInVolume o.sizes run) (some : 0 < run.len) (zero_len : none.len ≡ 0) where
  l : Levels
  l = levels_at o.sizes (contents m) o.id

  next : Levels
  unfolding l
  next = with_indirect o.sizes (levels_at o.sizes (contents m) o.id) run none

  m2 : ℕ → Option (List ℕ)
  m2 = with_block o.id wrote.bytes put.map

  own_array : List ℕ
  own_array = run_blocks o.sizes (fields o.sizes (contents m) o.id).indirect

  blocks_is : run_blocks o.sizes array ≡ run_blocks o.sizes (fields o.sizes (contents m) o.id).indirect
  blocks_is = ap (run_blocks o.sizes) array_is

  table : List Run
  table = array_runs o.sizes (contents m) (fields o.sizes (contents m) o.id).indirect

  runs_is : array_runs o.sizes (contents m) array ≡ table
  unfolding table
  runs_is = ap (array_runs o.sizes (contents m)) array_is

  used_now : used ≡ length (used_runs table)
  used_now = used_is ∙ ap (λ (x : List Run). length (used_runs x)) runs_is

  length_now : length table ≡ array.len * runs_per_block o.sizes
  unfolding table
  length_now = ap length (sym runs_is) ∙ length-array o.sizes (contents m) array ∙ mul_comm (runs_per_block o.sizes) array.len

  few : length (used_runs table) < length table
  few = let a = used_now in let b = length_now in omega (arith, a, b)

  runs_none : flat_map (array_runs o.sizes (contents m)) (second_arrays o.sizes (contents m) o.id) ≡ []
  unfolding table
  runs_none = nothing_behind o v m owns few

  total_now : total ≡ length (level_blocks o.sizes (fields o.sizes (contents m) o.id).direct) + length (level_blocks o.sizes (array_runs o.sizes (contents m) (fields o.sizes (contents m) o.id).indirect))
  unfolding level_blocks
  total_now =
      let none : length (level_blocks o.sizes (flat_map (array_runs o.sizes (contents m)) (second_arrays o.sizes (contents m) o.id))) ≡ 0 = ap (λ (x : List Run). length (level_blocks o.sizes x)) runs_none in
      let sum = length-places o.sizes (contents m) o.id in
      omega (arith, total_is, sum, none)

  -- what stays of a block that is neither the inode nor in the array
  stays : (k : ℕ) → times k (run_blocks o.sizes array) ≡ 0 → put.map k ≡ took.map k
  stays k out = put.others k out ∙ ended.others k out

  outside_array : (k : ℕ) → times k (run_blocks o.sizes (fields o.sizes (contents m) o.id).indirect) ≡ 0 → times k (run_blocks o.sizes array) ≡ 0
  outside_array k out = ap (times k) blocks_is ∙ out

  own_same : (k : ℕ) → Has (whole_at o.sizes (contents m) o.id) k → took.map k ≡ m k
  own_same k has = took.others k (owns.outside k has)

  inode_in : Has (whole_at o.sizes (contents m) o.id) o.id
  inode_in = has_left (frame_at o.sizes (contents m) o.id) (places_at o.sizes (contents m) o.id) o.id (has_first o.id (arrays_at o.sizes (contents m) o.id))

  inode_same : contents put.map o.id ≡ contents m o.id
  inode_same = ap (λ (x : Option (List ℕ)). unwrap_or x []) (stays o.id (outside_array o.id (inode_not_in o v m owns)) ∙ own_same o.id inode_in)

  here : contents m2 o.id ≡ wrote.bytes
  unfolding m2
  here = ap (λ (b : Bool). unwrap_or (cond b (Some wrote.bytes) (put.map o.id)) []) (same_test o.id)

  elsewhere : (k : ℕ) → times k (o.id ∷ []) ≡ 0 → m2 k ≡ put.map k
  unfolding m2
  elsewhere k e = ap (λ (b : Bool). cond b (Some wrote.bytes) (put.map k)) (apart_test k o.id e)

  made : List ℕ → ℕ → Stream
  made b n = record (stream_at b) { max_indirect_range = pos (o.sizes.block_size * (n + run.len)) }

  new_stream : stream_at (contents m2 o.id) ≡ (with_indirect o.sizes (levels_at o.sizes (contents m) o.id) run none).stream
  unfolding made
  new_stream = ap stream_at here ∙ wrote.fields ∙ ap (λ (b : List ℕ). made b total) inode_same ∙ ap (λ (n : ℕ). made (contents m o.id) n) total_now

  -- the array's blocks
  in_array : (k : ℕ) → Has (run_blocks o.sizes array) k → Has (arrays_at o.sizes (contents m) o.id) k
  in_array k has = in_arrays o v m owns k (subst (λ (x : List ℕ). Has x k) blocks_is has)

  last_agree : Agree (contents put.map) (contents m2) (run_blocks o.sizes array)
  last_agree k has = ap (λ (x : Option (List ℕ)). unwrap_or x []) (elsewhere k (inode_apart o v m owns k (in_array k has)))

  first_agree : Agree (contents m) (contents took.map) (run_blocks o.sizes array)
  first_agree k has = ap (λ (x : Option (List ℕ)). unwrap_or x []) (own_same k (in_whole o v m owns k (in_array k has)))

  table_now : array_runs o.sizes (contents m2) (fields o.sizes (contents m2) o.id).indirect ≡ (with_indirect o.sizes (levels_at o.sizes (contents m) o.id) run none).table
  unfolding table
  table_now =
      let after : used + 1 ≡ suc (length (used_runs table)) = let e = used_now in omega (arith, e) in
      ap (λ (t : Stream). array_runs o.sizes (contents m2) t.indirect) new_stream
      ∙ ap (array_runs o.sizes (contents m2)) (sym array_is)
      ∙ array_same (contents put.map) (contents m2) o.sizes array last_agree
      ∙ put.runs
      ∙ ap (λ (x : List Run). set x used run) (ended.runs ∙ ap (λ (x : List Run). set x (used + 1) none) (array_same (contents m) (contents took.map) o.sizes array first_agree ∙ runs_is))
      ∙ ap (λ (n : ℕ). set (set table n none) used run) after
      ∙ ap (λ (n : ℕ). set (set table (suc (length (used_runs table))) none) n run) used_now

  behind_same : (k : ℕ) → Has (run_blocks o.sizes (fields o.sizes (contents m) o.id).double_indirect ++ blocks_of o.sizes (second_arrays o.sizes (contents m) o.id)) k → m2 k ≡ m k
  behind_same k has =
      let mine = behind_in o v m owns k has in
      elsewhere k (inode_apart o v m owns k mine) ∙ stays k (outside_array k (behind_apart o v m owns k has)) ∙ own_same k (in_whole o v m owns k mine)

  levels_are : levels_at o.sizes (contents m2) o.id ≡ next
  unfolding next l
  levels_are =
      levels_table (contents m) (contents m2) o.sizes o.id (with_indirect o.sizes (levels_at o.sizes (contents m) o.id) run none).table (λ k has. ap (λ (x : Option (List ℕ)). unwrap_or x []) (behind_same k has))
      (ap (λ (t : Stream). t.double_indirect) new_stream) table_now
      ∙ ap (λ (t : Stream). record (levels_at o.sizes (contents m) o.id) { stream = t; table = (with_indirect o.sizes (levels_at o.sizes (contents m) o.id) run none).table }) new_stream

  next_sound : HasLevels o.sizes next
  unfolding next l table
  next_sound = indirect_sound o.sizes (levels_at o.sizes (contents m) o.id) run none owns.stands.sound some zero_len inside few runs_none

  next_places : places_of o.sizes next ≡ places_at o.sizes (contents m) o.id ++ run_blocks o.sizes run
  unfolding next l table
  next_places = indirect_places o.sizes (levels_at o.sizes (contents m) o.id) run none owns.stands.sound some zero_len inside few runs_none

  next_arrays : arrays_of o.sizes next ≡ arrays_at o.sizes (contents m) o.id
  unfolding next l table
  next_arrays = indirect_arrays o.sizes (levels_at o.sizes (contents m) o.id) run none owns.stands.sound some zero_len inside few runs_none

  same : AreSame ((o.id ∷ arrays_of o.sizes next) ++ places_of o.sizes next) (run_blocks o.sizes run ++ whole_at o.sizes (contents m) o.id)
  same k =
      let frame : List ℕ = frame_at o.sizes (contents m) o.id in
      let places : List ℕ = places_at o.sizes (contents m) o.id in
      let hand : List ℕ = run_blocks o.sizes run in
      let a : times k ((o.id ∷ arrays_of o.sizes next) ++ places_of o.sizes next) ≡ times k (o.id ∷ arrays_of o.sizes next) + times k (places_of o.sizes next) = times-append k (o.id ∷ arrays_of o.sizes next) (places_of o.sizes next) in
      let b : times k (o.id ∷ arrays_of o.sizes next) ≡ times k frame = ap (λ (x : List ℕ). times k (o.id ∷ x)) next_arrays in
      let c : times k (places_of o.sizes next) ≡ times k places + times k hand = ap (times k) next_places ∙ times-append k places hand in
      let d : times k (hand ++ (frame ++ places)) ≡ times k hand + (times k frame + times k places) = times-append k hand (frame ++ places) ∙ ap (λ (n : ℕ). times k hand + n) (times-append k frame places) in
      a ∙ (let e : times k (o.id ∷ arrays_of o.sizes next) + times k (places_of o.sizes next) ≡ times k hand + (times k frame + times k places) = omega (arith, b, c) in e) ∙ sym d

  written : (k : ℕ) → times k (o.id ∷ run_blocks o.sizes array) ≡ 0 → m2 k ≡ took.map k
  written k e =
      let parts : times k (o.id ∷ run_blocks o.sizes array) ≡ times k (o.id ∷ []) + times k (run_blocks o.sizes array) = times-append k (o.id ∷ []) (run_blocks o.sizes array) in
      let one : times k (o.id ∷ []) ≡ 0 = omega (arith, e, parts) in
      let two : times k (run_blocks o.sizes array) ≡ 0 = omega (arith, e, parts) in
      elsewhere k one ∙ stays k two

  inside_frame : (k : ℕ) → Has (o.id ∷ run_blocks o.sizes array) k → Has (o.id ∷ arrays_of o.sizes next) k
  inside_frame k has = by_count (times k (o.id ∷ [])) refl
    where
      parts : times k (o.id ∷ run_blocks o.sizes array) ≡ times k (o.id ∷ []) + times k (run_blocks o.sizes array)
      parts = times-append k (o.id ∷ []) (run_blocks o.sizes array)

      by_count : (n : ℕ) → times k (o.id ∷ []) ≡ n → Has (o.id ∷ arrays_of o.sizes next) k
      by_count zero e =
          let all : 0 < times k (o.id ∷ run_blocks o.sizes array) = has in
          let sum = parts in
          let own : 0 < times k (run_blocks o.sizes array) = omega (arith, all, sum, e) in
          has_rest o.id (arrays_of o.sizes next) k (subst (λ (x : List ℕ). Has x k) (sym next_arrays) (in_array k own))
      by_count (suc n) e = has_left (o.id ∷ []) (arrays_of o.sizes next) k (let some' : 0 < times k (o.id ∷ []) = omega (arith, e) in some')

  told_now : AreTold m2 (o.id ∷ arrays_of o.sizes next)
  unfolding m2
  told_now k has = by_inode (times k (o.id ∷ [])) refl
    where
      all : Has (frame_at o.sizes (contents m) o.id) k
      all = subst (λ (x : List ℕ). Has (o.id ∷ x) k) next_arrays has

      by_array : (n : ℕ) → times k (run_blocks o.sizes array) ≡ n → times k (o.id ∷ []) ≡ 0 → IsSome (m2 k)
      by_array zero e apart =
          let here' : 0 < times k ((o.id ∷ []) ++ arrays_at o.sizes (contents m) o.id) = all in
          let parts = times-append k (o.id ∷ []) (arrays_at o.sizes (contents m) o.id) in
          let mine : Has (arrays_at o.sizes (contents m) o.id) k = let h : 0 < times k (arrays_at o.sizes (contents m) o.id) = omega (arith, here', parts, apart) in h in
          subst (λ (x : Option (List ℕ)). IsSome x) (sym (elsewhere k apart ∙ stays k e ∙ own_same k (in_whole o v m owns k mine))) (owns.stands.told k all)
      by_array (suc n) e apart = subst (λ (x : Option (List ℕ)). IsSome x) (sym (elsewhere k apart)) (put.are_told k (let h : 0 < times k (run_blocks o.sizes array) = omega (arith, e) in h))

      by_inode : (n : ℕ) → times k (o.id ∷ []) ≡ n → IsSome (m2 k)
      by_inode zero e = by_array (times k (run_blocks o.sizes array)) refl e
      by_inode (suc n) e = subst (λ (x : Option (List ℕ)). IsSome x) (sym (ap (λ (b : Bool). cond b (Some wrote.bytes) (put.map k)) (is_test k o.id n e))) refl

  next_few : length (level_blocks o.sizes next.runs) ≤ length (level_blocks o.sizes (levels_at o.sizes (contents m) o.id).runs) + length (run_blocks o.sizes run)
  unfolding next
  next_few = few_more (length (level_blocks o.sizes (levels_at o.sizes (contents m) o.id).runs)) (length (level_blocks o.sizes (levels_at o.sizes (contents m) o.id).runs)) (length (run_blocks o.sizes run)) refl

  rest_now : KeepsRest (contents m o.id) (contents m2 o.id)
  rest_now = subst (λ (b : List ℕ). KeepsRest b (contents m2 o.id)) inode_same (subst (λ (b : List ℕ). KeepsRest (contents put.map o.id) b) (sym here) wrote.kept)

  pub added : (old new : ℕ → Bool) → HasWritten (IsBitBlockOf v (run_blocks o.sizes run)) old new (o.id ∷ run_blocks o.sizes array) → StaysChanged old new → Grown o v now m (run_blocks o.sizes run) told4 old new
  unfolding m2
  added old new changes stays =
      subst (λ (x : Room). Grown o v x m (run_blocks o.sizes run) told4 old new) (sym rest)
      (subst (λ (t : Option (ℕ → Option (List ℕ))). Grown o v (record v { tally = now.tally }) m (run_blocks o.sizes run) t old new) (sym wrote.is)
      (grown_is o v now.tally run m took.map (with_block o.id wrote.bytes put.map) told1 (o.id ∷ run_blocks o.sizes array) (run_blocks o.sizes run) next owns took.is
      (subst (λ (x : Room). Fits x took.map) rest took.fits) took.others took.first took.were_free
      (λ k. sym (ap (λ (x : Room). is_free x took.map k) rest) ∙ took.free k) took.marks (λ count. subst (λ (x : Room). IsCounted x took.map) rest (took.counted count))
      written levels_are next_sound next_places same
      (λ k has. subst (λ (x : List ℕ). Has (o.id ∷ x) k) (sym next_arrays) has)
      inside_frame told_now next_few rest_now old new changes stays (none_entered o m (arrays_of o.sizes next) new next_arrays)))

-- the array's blocks and the inode are told on the way
module _ (o : Origin) (v now : Room) (run none array : Run) (m : ℕ → Option (List ℕ)) (told1 : Option (ℕ → Option (List ℕ))) (owns : Owns o v [] m) (took : Took o.sizes v now run m told1)
    (array_is : array ≡ (fields o.sizes (contents m) o.id).indirect) where
  pub told_array : AreTold took.map (run_blocks o.sizes array)
  told_array k has =
      let mine = in_arrays o v m owns k (subst (λ (x : List ℕ). Has x k) (ap (run_blocks o.sizes) array_is) has) in
      subst (λ (x : Option (List ℕ)). IsSome x) (sym (took.others k (owns.outside k (in_whole o v m owns k mine)))) (owns.stands.told k (has_rest o.id (arrays_at o.sizes (contents m) o.id) k mine))

  pub told_inode_now : (told2 told3 : Option (ℕ → Option (List ℕ))) (used after : ℕ) (ended : HasPut o.sizes array after none took.map told2) (put : HasPut o.sizes array used run ended.map told3) → IsSome (put.map o.id)
  told_inode_now told2 told3 used after ended put =
      let out : times o.id (run_blocks o.sizes array) ≡ 0 = ap (λ (r : Run). times o.id (run_blocks o.sizes r)) array_is ∙ inode_not_in o v m owns in
      let mine : Has (whole_at o.sizes (contents m) o.id) o.id = has_left (frame_at o.sizes (contents m) o.id) (places_at o.sizes (contents m) o.id) o.id (has_first o.id (arrays_at o.sizes (contents m) o.id)) in
      subst (λ (x : Option (List ℕ)). IsSome x) (sym (put.others o.id out ∙ ended.others o.id out ∙ took.others o.id (owns.outside o.id mine))) (owns.stands.told o.id (has_first o.id (arrays_at o.sizes (contents m) o.id)))
