-- A run was taken and written into the tables of the double indirect level.
use Rattle.std.proofs.Common.{◌≡◌, ◌≤◌, ◌<◌, ◌+◌, ◌*◌, ◌∙◌, ℕ, zero, suc, pos, List, [], ◌∷◌, ◌++◌, length, set, Bool, cond, Option, Some, unwrap_or, refl, sym, ap, subst, arith}
use Rattle.std.specs.Prelude.{All, IsSome}
use Rattle.std.specs.List.{flat_map}
use Rattle.std.proofs.lemmas.List.{length-set}
use Rattle.bfs_base.specs.Lists.{times, Has, AreSame, IsOnce}
use Rattle.bfs_bytes.specs.declared.Run.{Run}
use Rattle.bfs_inode.specs.Inode.{Stream, stream_at}
use Rattle.bfs_txn.specs.Told.{StaysChanged, with_block}
use Rattle.bfs_bitmap.specs.Runs.{Room, Fits, IsCounted, is_free}
use Rattle.bfs_stream.specs.Sizes.{Origin, IsWhole, first_block}
use Rattle.bfs_stream.specs.Places.{Levels, run_blocks, blocks_of, used_runs, array_runs, level_blocks, arrays_of, places_of, fields, second_arrays, levels_at, arrays_at, places_at, frame_at, whole_at, HasLevels}
use Rattle.bfs_stream.specs.Told.{contents, AreTold}
use Rattle.bfs_stream.specs.Grown.{Owns, Took, Grown, HasFields, HasTables, HasPutBelow, table_runs, HasWritten, UsesDouble, KeepsRest}
use Rattle.bfs_stream.proofs.Doubles.{times-append}
use Rattle.bfs_stream.proofs.Frames.{has_first, has_left, array_same, arrays_same}
use Rattle.bfs_stream.proofs.Placed.{length-places}
use Rattle.bfs_stream.proofs.Levels.{length-counted}
use Rattle.bfs_stream.proofs.Equal.{same_map, same_test, apart_test, is_test}
use Rattle.bfs_growth.proofs.Opens.{with_double, run_places, run_sound, length_is}
use Rattle.bfs_stream.proofs.Parts.{table_blocks, double_blocks, listed_blocks, frame_parts, whole_parts}
use Rattle.bfs_growth.proofs.Finish.{none_entered, grown_is}
use Rattle.bfs_stream.proofs.Writes.{IsBitBlockOf}

module _ (o : Origin) (v now : Room) (run array : Run) (m : ℕ → Option (List ℕ)) (told1 : Option (ℕ → Option (List ℕ))) (owns : Owns o v [] m) (took : Took o.sizes v now run m told1)
    (array_is : array ≡ (fields o.sizes (contents m) o.id).double_indirect) where
  -- how often a number is among the inode and the blocks of the three kinds of arrays
  abbrev count : ℕ → ℕ
  count k = times k (o.id ∷ []) + (times k (table_blocks o m) + (times k (run_blocks o.sizes array) + times k (listed_blocks o m)))

  blocks_is : (k : ℕ) → times k (run_blocks o.sizes array) ≡ times k (double_blocks o m)
  blocks_is k = ap (λ (r : Run). times k (run_blocks o.sizes r)) array_is

  once : (k : ℕ) → times k (o.id ∷ []) + (times k (table_blocks o m) + (times k (run_blocks o.sizes array) + times k (listed_blocks o m))) ≤ 1
  once k = let parts = whole_parts o m k in let e = blocks_is k in let le : times k (whole_at o.sizes (contents m) o.id) ≤ 1 = owns.once k in omega (arith, parts, e, le)

  frame_has : (k : ℕ) → 0 < times k (o.id ∷ []) + (times k (table_blocks o m) + (times k (run_blocks o.sizes array) + times k (listed_blocks o m))) → Has (frame_at o.sizes (contents m) o.id) k
  frame_has k some = let parts = frame_parts o m k in let e = blocks_is k in let h : 0 < times k (frame_at o.sizes (contents m) o.id) = omega (arith, parts, e, some) in h

  own_same : (k : ℕ) → 0 < times k (o.id ∷ []) + (times k (table_blocks o m) + (times k (run_blocks o.sizes array) + times k (listed_blocks o m))) → took.map k ≡ m k
  own_same k some = took.others k (owns.outside k (has_left (frame_at o.sizes (contents m) o.id) (places_at o.sizes (contents m) o.id) k (frame_has k some)))

  own_told : (k : ℕ) → 0 < times k (o.id ∷ []) + (times k (table_blocks o m) + (times k (run_blocks o.sizes array) + times k (listed_blocks o m))) → IsSome (took.map k)
  own_told k some = subst (λ (x : Option (List ℕ)). IsSome x) (sym (own_same k some)) (owns.stands.told k (frame_has k some))

  pub took_arrays : array_runs o.sizes (contents took.map) array ≡ array_runs o.sizes (contents m) (fields o.sizes (contents m) o.id).double_indirect
  took_arrays =
      array_same (contents m) (contents took.map) o.sizes array (λ k has. let some : 0 < times k (run_blocks o.sizes array) = has in ap (λ (x : Option (List ℕ)). unwrap_or x []) (own_same k (omega (arith, some))))
      ∙ ap (array_runs o.sizes (contents m)) array_is

  took_runs : table_runs o.sizes (contents took.map) array ≡ flat_map (array_runs o.sizes (contents m)) (second_arrays o.sizes (contents m) o.id)
  took_runs =
      ap (λ (l : List Run). flat_map (array_runs o.sizes (contents took.map)) (used_runs l)) took_arrays
      ∙ arrays_same (contents m) (contents took.map) o.sizes (second_arrays o.sizes (contents m) o.id)
      (λ k has. let some : 0 < times k (listed_blocks o m) = has in ap (λ (x : Option (List ℕ)). unwrap_or x []) (own_same k (omega (arith, some))))

  runs_is : table_runs o.sizes (contents m) array ≡ flat_map (array_runs o.sizes (contents m)) (second_arrays o.sizes (contents m) o.id)
  runs_is = ap (λ (r : Run). table_runs o.sizes (contents m) r) array_is

  pub took_tables : HasTables o.sizes array took.map
  took_tables = record {
    first = λ k has. let some : 0 < times k (run_blocks o.sizes array) = has in own_told k (omega (arith, some));
    second = subst (λ (l : List Run). AreTold took.map (blocks_of o.sizes (used_runs l))) (sym took_arrays) (λ k has. let some : 0 < times k (listed_blocks o m) = has in own_told k (omega (arith, some)));
    arrays = subst (λ (l : List Run). All (IsWhole o.sizes) (used_runs l)) (sym took_arrays) owns.stands.sound.arrays;
    once = subst (λ (l : List Run). IsOnce (run_blocks o.sizes array ++ blocks_of o.sizes (used_runs l))) (sym took_arrays)
        (λ k. let le = once k in omega (arith, times-append k (run_blocks o.sizes array) (listed_blocks o m), le));
  }

  pub took_listed : (listed : ℕ) → listed ≡ length (second_arrays o.sizes (contents m) o.id) → listed ≡ length (used_runs (array_runs o.sizes (contents took.map) array))
  took_listed listed e = e ∙ ap (λ (l : List Run). length (used_runs l)) (sym took_arrays)

  module _ (none : Run) (told2 told3 told4 : Option (ℕ → Option (List ℕ))) (used total : ℕ) (rest : now ≡ record v { tally = now.tally }) (ended : HasPutBelow o.sizes array (used + 1) none took.map told2) where
    pub ended_length : length (table_runs o.sizes (contents ended.map) array) ≡ length (table_runs o.sizes (contents took.map) array)
    ended_length = ap length ended.runs ∙ length-set (table_runs o.sizes (contents took.map) array) (used + 1) none

    ended_arrays : array_runs o.sizes (contents ended.map) array ≡ array_runs o.sizes (contents m) (fields o.sizes (contents m) o.id).double_indirect
    ended_arrays = ended.listed ∙ took_arrays

    module _ (put : HasPutBelow o.sizes array used run ended.map told3) where
      put_arrays : array_runs o.sizes (contents put.map) array ≡ array_runs o.sizes (contents m) (fields o.sizes (contents m) o.id).double_indirect
      put_arrays = put.listed ∙ ended_arrays

      stays : (k : ℕ) → times k (listed_blocks o m) ≡ 0 → put.map k ≡ took.map k
      stays k out = put.others k (ap (λ (l : List Run). times k (blocks_of o.sizes (used_runs l))) ended_arrays ∙ out) ∙ ended.others k (ap (λ (l : List Run). times k (blocks_of o.sizes (used_runs l))) took_arrays ∙ out)

      same_in : (k : ℕ) → 0 < times k (o.id ∷ []) + (times k (table_blocks o m) + times k (run_blocks o.sizes array)) → put.map k ≡ m k
      same_in k some = let le = once k in stays k (omega (arith, le, some)) ∙ own_same k (omega (arith, some))

      put_told : (k : ℕ) → 0 < times k (listed_blocks o m) → IsSome (put.map k)
      put_told k some = subst (λ (l : List Run). AreTold put.map (blocks_of o.sizes (used_runs l))) put_arrays put.tables.second k some

      pub inode_told : IsSome (put.map o.id)
      inode_told =
          let some : 0 < times o.id (o.id ∷ []) = has_first o.id [] in
          subst (λ (x : Option (List ℕ)). IsSome x) (sym (same_in o.id (omega (arith, some)))) (owns.stands.told o.id (frame_has o.id (omega (arith, some))))

      module _ (wrote : HasFields o (record (stream_at (contents put.map o.id)) { max_double_indirect_range = pos (o.sizes.block_size * (total + run.len)) }) put.map told4) (used_is : used ≡ length (used_runs (table_runs o.sizes (contents m) array)))
          (total_is : total ≡ length (places_at o.sizes (contents m) o.id)) (room : used < length (table_runs o.sizes (contents took.map) array)) (whole : IsWhole o.sizes run) (some_len : 0 < run.len) (zero_len : none.len ≡ 0) where
        abbrev runs : List Run
        runs = flat_map (array_runs o.sizes (contents m)) (second_arrays o.sizes (contents m) o.id)

        abbrev next : Levels
        next = with_double o.sizes (levels_at o.sizes (contents m) o.id) run none

        m2 : ℕ → Option (List ℕ)
        m2 = with_block o.id wrote.bytes put.map

        used_now : used ≡ length (used_runs runs)
        used_now = used_is ∙ ap (λ (l : List Run). length (used_runs l)) runs_is

        few : length (used_runs runs) < length runs
        few = let e = used_now in let size = ap length took_runs in omega (arith, e, size, room)

        here : contents m2 o.id ≡ wrote.bytes
        unfolding m2
        here = ap (λ (b : Bool). unwrap_or (cond b (Some wrote.bytes) (put.map o.id)) []) (same_test o.id)

        elsewhere : (k : ℕ) → times k (o.id ∷ []) ≡ 0 → m2 k ≡ put.map k
        unfolding m2
        elsewhere k e = ap (λ (b : Bool). cond b (Some wrote.bytes) (put.map k)) (apart_test k o.id e)

        total_now : total ≡ length (level_blocks o.sizes (fields o.sizes (contents m) o.id).direct) + length (level_blocks o.sizes (array_runs o.sizes (contents m) (fields o.sizes (contents m) o.id).indirect)) + length (level_blocks o.sizes runs)
        total_now = let sum = length-places o.sizes (contents m) o.id in omega (arith, total_is, sum)

        made : List ℕ → ℕ → Stream
        made b n = record (stream_at b) { max_double_indirect_range = pos (o.sizes.block_size * (n + run.len)) }

        new_stream : stream_at (contents m2 o.id) ≡ (with_double o.sizes (levels_at o.sizes (contents m) o.id) run none).stream
        unfolding made
        new_stream =
            let some : 0 < times o.id (o.id ∷ []) = has_first o.id [] in
            ap stream_at here ∙ wrote.fields ∙ ap (λ (x : Option (List ℕ)). made (unwrap_or x []) total) (same_in o.id (omega (arith, some))) ∙ ap (λ (n : ℕ). made (contents m o.id) n) total_now

        -- blocks of the indirect array and of the double indirect array
        apart_same : (k : ℕ) → 0 < times k (table_blocks o m) + times k (run_blocks o.sizes array) → contents m2 k ≡ contents m k
        apart_same k some = let le = once k in ap (λ (x : Option (List ℕ)). unwrap_or x []) (elsewhere k (omega (arith, le, some)) ∙ same_in k (omega (arith, some)))

        table_same : array_runs o.sizes (contents m2) (fields o.sizes (contents m2) o.id).indirect ≡ array_runs o.sizes (contents m) (fields o.sizes (contents m) o.id).indirect
        table_same =
            ap (λ (t : Stream). array_runs o.sizes (contents m2) t.indirect) new_stream
            ∙ array_same (contents m) (contents m2) o.sizes (fields o.sizes (contents m) o.id).indirect (λ k has. let some : 0 < times k (table_blocks o m) = has in apart_same k (omega (arith, some)))

        arrays_now : array_runs o.sizes (contents m2) (fields o.sizes (contents m2) o.id).double_indirect ≡ array_runs o.sizes (contents m) (fields o.sizes (contents m) o.id).double_indirect
        arrays_now =
            ap (λ (t : Stream). array_runs o.sizes (contents m2) t.double_indirect) new_stream
            ∙ array_same (contents m) (contents m2) o.sizes (fields o.sizes (contents m) o.id).double_indirect (λ k has. let some : 0 < times k (double_blocks o m) = has in let e = blocks_is k in apart_same k (omega (arith, some, e)))

        runs_now : flat_map (array_runs o.sizes (contents m2)) (second_arrays o.sizes (contents m2) o.id) ≡ set (set runs (suc (length (used_runs runs))) none) (length (used_runs runs)) run
        runs_now =
            let after : used + 1 ≡ suc (length (used_runs runs)) = let e = used_now in omega (arith, e) in
            ap (λ (l : List Run). flat_map (array_runs o.sizes (contents m2)) (used_runs l)) arrays_now
            ∙ arrays_same (contents put.map) (contents m2) o.sizes (second_arrays o.sizes (contents m) o.id)
            (λ k has. let some : 0 < times k (listed_blocks o m) = has in let le = once k in ap (λ (x : Option (List ℕ)). unwrap_or x []) (elsewhere k (omega (arith, le, some))))
            ∙ ap (λ (l : List Run). flat_map (array_runs o.sizes (contents put.map)) (used_runs l)) (sym put_arrays)
            ∙ put.runs
            ∙ ap (λ (l : List Run). set l used run) (ended.runs ∙ ap (λ (l : List Run). set l (used + 1) none) took_runs)
            ∙ ap (λ (n : ℕ). set (set runs n none) used run) after
            ∙ ap (λ (n : ℕ). set (set runs (suc (length (used_runs runs))) none) n run) used_now

        levels_are : levels_at o.sizes (contents m2) o.id ≡ next
        levels_are =
            let a = new_stream in
            let b = table_same in
            let c = arrays_now in
            let d = runs_now in
            λ i. record { stream = a i; table = b i; arrays = c i; runs = d i }

        next_sound : HasLevels o.sizes next
        next_sound = run_sound o.sizes (levels_at o.sizes (contents m) o.id) run none owns.stands.sound some_len zero_len whole few

        next_places : places_of o.sizes next ≡ places_at o.sizes (contents m) o.id ++ run_blocks o.sizes run
        next_places = run_places o.sizes (levels_at o.sizes (contents m) o.id) run none owns.stands.sound some_len zero_len whole few

        next_arrays : arrays_of o.sizes next ≡ arrays_at o.sizes (contents m) o.id
        unfolding arrays_of
        next_arrays = refl

        same : AreSame ((o.id ∷ arrays_of o.sizes next) ++ places_of o.sizes next) (run_blocks o.sizes run ++ whole_at o.sizes (contents m) o.id)
        same k =
            let frame : List ℕ = frame_at o.sizes (contents m) o.id in
            let places : List ℕ = places_at o.sizes (contents m) o.id in
            let hand : List ℕ = run_blocks o.sizes run in
            let a : times k ((o.id ∷ arrays_of o.sizes next) ++ places_of o.sizes next) ≡ times k (o.id ∷ arrays_of o.sizes next) + times k (places_of o.sizes next) = times-append k (o.id ∷ arrays_of o.sizes next) (places_of o.sizes next) in
            let b : times k (o.id ∷ arrays_of o.sizes next) ≡ times k frame = ap (λ (x : List ℕ). times k (o.id ∷ x)) next_arrays in
            let c : times k (places_of o.sizes next) ≡ times k places + times k hand = ap (times k) next_places ∙ times-append k places hand in
            let d : times k (hand ++ (frame ++ places)) ≡ times k hand + (times k frame + times k places) = times-append k hand (frame ++ places) ∙ ap (λ (n : ℕ). times k hand + n) (times-append k frame places) in
            a ∙ (let e : times k (o.id ∷ arrays_of o.sizes next) + times k (places_of o.sizes next) ≡ times k hand + (times k frame + times k places) = omega (arith, b, c) in e) ∙ sym d

        abbrev changed : List ℕ
        changed = o.id ∷ listed_blocks o m

        changed_parts : (k : ℕ) → times k changed ≡ times k (o.id ∷ []) + times k (listed_blocks o m)
        changed_parts k = times-append k (o.id ∷ []) (listed_blocks o m)

        written : (k : ℕ) → times k changed ≡ 0 → m2 k ≡ took.map k
        written k e = let parts = changed_parts k in elsewhere k (omega (arith, e, parts)) ∙ stays k (omega (arith, e, parts))

        inside_frame : (k : ℕ) → Has changed k → Has (o.id ∷ arrays_of o.sizes next) k
        inside_frame k has =
            let parts = changed_parts k in
            let all : 0 < times k changed = has in
            subst (λ (x : List ℕ). Has (o.id ∷ x) k) (sym next_arrays) (frame_has k (omega (arith, parts, all)))

        told_now : AreTold m2 (o.id ∷ arrays_of o.sizes next)
        unfolding m2
        told_now k has = by_inode (times k (o.id ∷ [])) refl
          where
            mine : Has (frame_at o.sizes (contents m) o.id) k
            mine = subst (λ (x : List ℕ). Has (o.id ∷ x) k) next_arrays has

            by_listed : (n : ℕ) → times k (listed_blocks o m) ≡ n → times k (o.id ∷ []) ≡ 0 → IsSome (m2 k)
            by_listed zero e apart =
                let some : 0 < times k (frame_at o.sizes (contents m) o.id) = mine in
                let parts = frame_parts o m k in
                let f = blocks_is k in
                subst (λ (x : Option (List ℕ)). IsSome x) (sym (elsewhere k apart ∙ same_in k (omega (arith, some, parts, f, e)))) (owns.stands.told k mine)
            by_listed (suc n) e apart = subst (λ (x : Option (List ℕ)). IsSome x) (sym (elsewhere k apart)) (put_told k (omega (arith, e)))

            by_inode : (n : ℕ) → times k (o.id ∷ []) ≡ n → IsSome (m2 k)
            by_inode zero e = by_listed (times k (listed_blocks o m)) refl e
            by_inode (suc n) e = subst (λ (x : Option (List ℕ)). IsSome x) (sym (ap (λ (b : Bool). cond b (Some wrote.bytes) (put.map k)) (is_test k o.id n e))) refl

        next_few : length (level_blocks o.sizes next.runs) ≤ length (level_blocks o.sizes (levels_at o.sizes (contents m) o.id).runs) + length (run_blocks o.sizes run)
        next_few =
            let e = length_is o.sizes (levels_at o.sizes (contents m) o.id) run none owns.stands.sound some_len zero_len whole few in
            let f : length (run_blocks o.sizes run) ≡ run.len = length-counted (first_block o.sizes run) run.len in
            omega (arith, e, f)

        -- the level has blocks now
        pub uses : (n : ℕ → Option (List ℕ)) → told4 ≡ Some n → UsesDouble o n
        unfolding m2
        uses n is =
            let e = length_is o.sizes (levels_at o.sizes (contents m) o.id) run none owns.stands.sound some_len zero_len whole few in
            let now : UsesDouble o (with_block o.id wrote.bytes put.map) = subst (λ (x : Levels). 0 < length (level_blocks o.sizes x.runs)) (sym levels_are) (omega (arith, e, some_len)) in
            subst (λ (x : ℕ → Option (List ℕ)). UsesDouble o x) (same_map (with_block o.id wrote.bytes put.map) n told4 wrote.is is) now

        rest_now : KeepsRest (contents m o.id) (contents m2 o.id)
        rest_now = let some : 0 < times o.id (o.id ∷ []) = has_first o.id [] in subst (λ (x : Option (List ℕ)). KeepsRest (unwrap_or x []) (contents m2 o.id)) (same_in o.id (omega (arith, some))) (subst (λ (b : List ℕ). KeepsRest (contents put.map o.id) b) (sym here) wrote.kept)

        pub added : (old new : ℕ → Bool) → HasWritten (IsBitBlockOf v (run_blocks o.sizes run)) old new (o.id ∷ listed_blocks o m) → StaysChanged old new → Grown o v now m (run_blocks o.sizes run) told4 old new
        unfolding m2
        added old new changes stays =
            subst (λ (x : Room). Grown o v x m (run_blocks o.sizes run) told4 old new) (sym rest)
            (subst (λ (t : Option (ℕ → Option (List ℕ))). Grown o v (record v { tally = now.tally }) m (run_blocks o.sizes run) t old new) (sym wrote.is)
            (grown_is o v now.tally run m took.map (with_block o.id wrote.bytes put.map) told1 changed (run_blocks o.sizes run) next owns took.is
            (subst (λ (x : Room). Fits x took.map) rest took.fits) took.others took.first took.were_free
            (λ k. sym (ap (λ (x : Room). is_free x took.map k) rest) ∙ took.free k) took.marks (λ count. subst (λ (x : Room). IsCounted x took.map) rest (took.counted count))
            written levels_are next_sound next_places same
            (λ k has. subst (λ (x : List ℕ). Has (o.id ∷ x) k) (sym next_arrays) has)
            inside_frame told_now next_few rest_now old new changes stays (none_entered o m (arrays_of o.sizes next) new next_arrays)))
