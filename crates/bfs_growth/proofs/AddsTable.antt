-- An array was taken, cleared and listed in the array of the double indirect level.
use Rattle.std.proofs.Common.{true, Bool, ◌≡◌, ◌≤◌, ◌<◌, ◌+◌, ◌*◌, ◌∙◌, ℕ, zero, suc, List, [], ◌∷◌, ◌++◌, length, set, replicate, Option, Some, unwrap_or, refl, sym, ap, ap₂, subst, arith, length-append}
use Rattle.std.specs.Prelude.{IsSome}
use Rattle.std.specs.List.{flat_map}
use Rattle.std.proofs.lemmas.List.{append-nil}
use Rattle.std.proofs.lemmas.Grind.{flat_map-append}
use Rattle.std.proofs.Math.Nat.{mul_comm}
use Rattle.bfs_base.specs.Lists.{times, Has, Agree, AreSame}
use Rattle.bfs_bytes.specs.declared.Run.{Run}
use Rattle.bfs_inode.specs.Inode.{Stream, stream_at}
use Rattle.bfs_bitmap.specs.Runs.{Room, Fits, IsCounted, is_free}
use Rattle.bfs_txn.specs.Told.{StaysChanged}
use Rattle.bfs_stream.specs.Sizes.{Origin, IsWhole, runs_per_block}
use Rattle.bfs_stream.specs.Places.{Levels, run_blocks, used_runs, array_runs, level_blocks, arrays_of, places_of, fields, second_arrays, levels_at, arrays_at, places_at, frame_at, whole_at, HasLevels}
use Rattle.bfs_stream.specs.Told.{contents, AreTold}
use Rattle.bfs_stream.specs.Grown.{Owns, Took, Grown, HasCleared, HasPut, AreTables, table_runs, HasWritten, KeepsRest}
use Rattle.bfs_stream.proofs.Arrays.{length-array}
use Rattle.bfs_stream.proofs.Doubles.{times-append}
use Rattle.bfs_stream.proofs.Frames.{has_first, array_same, arrays_same}
use Rattle.bfs_growth.proofs.Zeros.{no_run}
use Rattle.bfs_growth.proofs.Opens.{opened_table, none_behind, arrays_more, table_places, table_arrays, table_sound, blocks_same}
use Rattle.bfs_growth.proofs.AddsArray.{array_zeros, new_apart, kept}
use Rattle.bfs_stream.proofs.Equal.{same_map}
use Rattle.bfs_stream.proofs.Writes.{keeps_none, IsBitBlockOf}
use Rattle.bfs_growth.proofs.Finish.{array_entered, grown_is, few_more}
use Rattle.bfs_stream.proofs.Parts.{double_blocks, frame_parts, listed_blocks, table_blocks, whole_parts}

module _ (o : Origin) (v now : Room) (table array : Run) (m : ℕ → Option (List ℕ)) (told1 told2 told3 told4 : Option (ℕ → Option (List ℕ))) (listed : ℕ)
    (owns : Owns o v [] m) (took : Took o.sizes v now table m told1) (rest : now ≡ record v { tally = now.tally })
    (cleared : HasCleared o.sizes table took.map told2) (array_is : array ≡ (fields o.sizes (contents m) o.id).double_indirect) where
  blocks_is : (k : ℕ) → times k (run_blocks o.sizes array) ≡ times k (double_blocks o m)
  blocks_is k = ap (λ (r : Run). times k (run_blocks o.sizes r)) array_is

  once : (k : ℕ) → times k (o.id ∷ []) + (times k (table_blocks o m) + (times k (run_blocks o.sizes array) + times k (listed_blocks o m))) ≤ 1
  once k = let parts = whole_parts o m k in let e = blocks_is k in let le : times k (whole_at o.sizes (contents m) o.id) ≤ 1 = owns.once k in omega (arith, parts, e, le)

  whole_has : (k : ℕ) → 0 < times k (o.id ∷ []) + (times k (table_blocks o m) + (times k (run_blocks o.sizes array) + times k (listed_blocks o m))) → Has (whole_at o.sizes (contents m) o.id) k
  whole_has k some = let parts = whole_parts o m k in let e = blocks_is k in let h : 0 < times k (whole_at o.sizes (contents m) o.id) = omega (arith, parts, e, some) in h

  kept_in : (k : ℕ) → 0 < times k (o.id ∷ []) + (times k (table_blocks o m) + (times k (run_blocks o.sizes array) + times k (listed_blocks o m))) → cleared.map k ≡ m k
  kept_in k some = kept o v now table m told1 told2 told4 owns took rest cleared k (whole_has k some)

  apart_in : (k : ℕ) → 0 < times k (o.id ∷ []) + (times k (table_blocks o m) + (times k (run_blocks o.sizes array) + times k (listed_blocks o m))) → times k (run_blocks o.sizes table) ≡ 0
  apart_in k some = new_apart o v now table m told1 told2 told4 owns took rest cleared k (whole_has k some)

  -- the array's blocks are told on the way
  pub told_array : AreTold cleared.map (run_blocks o.sizes array)
  told_array k has =
      let some : 0 < times k (run_blocks o.sizes array) = has in
      let parts = frame_parts o m k in
      let e = blocks_is k in
      let mine : Has (frame_at o.sizes (contents m) o.id) k = let h : 0 < times k (frame_at o.sizes (contents m) o.id) = omega (arith, parts, e, some) in h in
      subst (λ (x : Option (List ℕ)). IsSome x) (sym (kept_in k (omega (arith, some)))) (owns.stands.told k mine)

  module _ (listed_is : listed ≡ length (used_runs (array_runs o.sizes (contents m) array))) (ended : HasPut o.sizes array (listed + 1) no_run cleared.map told3) (put : HasPut o.sizes array listed table ended.map told4)
      (room : listed < array.len * runs_per_block o.sizes) (whole : IsWhole o.sizes table) (some_len : 0 < table.len) where
    abbrev arrays : List Run
    arrays = array_runs o.sizes (contents m) (fields o.sizes (contents m) o.id).double_indirect

    abbrev size : ℕ
    size = runs_per_block o.sizes * table.len

    abbrev next : Levels
    next = opened_table (levels_at o.sizes (contents m) o.id) table no_run size

    stays : (k : ℕ) → times k (run_blocks o.sizes array) ≡ 0 → put.map k ≡ cleared.map k
    stays k out = put.others k out ∙ ended.others k out

    runs_is : array_runs o.sizes (contents m) array ≡ arrays
    runs_is = ap (array_runs o.sizes (contents m)) array_is

    listed_now : listed ≡ length (used_runs arrays)
    listed_now = listed_is ∙ ap (λ (x : List Run). length (used_runs x)) runs_is

    length_now : length arrays ≡ array.len * runs_per_block o.sizes
    length_now = ap length (sym runs_is) ∙ length-array o.sizes (contents m) array ∙ mul_comm (runs_per_block o.sizes) array.len

    few : length (used_runs arrays) < length arrays
    few = let a = listed_now in let b = length_now in omega (arith, a, b, room)

    -- what isn't in the double indirect array stays
    same_in : (k : ℕ) → 0 < times k (o.id ∷ []) + (times k (table_blocks o m) + times k (listed_blocks o m)) → put.map k ≡ m k
    same_in k some = let le = once k in stays k (omega (arith, le, some)) ∙ kept_in k (omega (arith, some))

    new_stream : stream_at (contents put.map o.id) ≡ fields o.sizes (contents m) o.id
    new_stream = let some : 0 < times o.id (o.id ∷ []) = has_first o.id [] in ap (λ (x : Option (List ℕ)). stream_at (unwrap_or x [])) (same_in o.id (omega (arith, some)))

    table_same : array_runs o.sizes (contents put.map) (fields o.sizes (contents put.map) o.id).indirect ≡ array_runs o.sizes (contents m) (fields o.sizes (contents m) o.id).indirect
    table_same =
        ap (λ (t : Stream). array_runs o.sizes (contents put.map) t.indirect) new_stream
        ∙ array_same (contents m) (contents put.map) o.sizes (fields o.sizes (contents m) o.id).indirect
        (λ k has. let some : 0 < times k (table_blocks o m) = has in ap (λ (x : Option (List ℕ)). unwrap_or x []) (same_in k (omega (arith, some))))

    first_agree : Agree (contents m) (contents cleared.map) (run_blocks o.sizes array)
    first_agree k has = let some : 0 < times k (run_blocks o.sizes array) = has in ap (λ (x : Option (List ℕ)). unwrap_or x []) (kept_in k (omega (arith, some)))

    arrays_now : array_runs o.sizes (contents put.map) (fields o.sizes (contents put.map) o.id).double_indirect ≡ set (set arrays (suc (length (used_runs arrays))) no_run) (length (used_runs arrays)) table
    arrays_now =
        let after : listed + 1 ≡ suc (length (used_runs arrays)) = let e = listed_now in omega (arith, e) in
        ap (λ (t : Stream). array_runs o.sizes (contents put.map) t.double_indirect) new_stream
        ∙ ap (array_runs o.sizes (contents put.map)) (sym array_is)
        ∙ put.runs
        ∙ ap (λ (x : List Run). set x listed table) (ended.runs ∙ ap (λ (x : List Run). set x (listed + 1) no_run) (array_same (contents m) (contents cleared.map) o.sizes array first_agree ∙ runs_is))
        ∙ ap (λ (n : ℕ). set (set arrays n no_run) listed table) after
        ∙ ap (λ (n : ℕ). set (set arrays (suc (length (used_runs arrays))) no_run) n table) listed_now

    zeros_in : (k : ℕ) → Has (run_blocks o.sizes table) k → times k (run_blocks o.sizes array) ≡ 0
    zeros_in k has = by_count (times k (run_blocks o.sizes array)) refl
      where
        by_count : (n : ℕ) → times k (run_blocks o.sizes array) ≡ n → times k (run_blocks o.sizes array) ≡ 0
        by_count zero e = e
        by_count (suc n) e = let none = apart_in k (omega (arith, e)) in let some : 0 < times k (run_blocks o.sizes table) = has in absurd (omega (arith, none, some))

    runs_now : flat_map (array_runs o.sizes (contents put.map)) (second_arrays o.sizes (contents put.map) o.id) ≡ flat_map (array_runs o.sizes (contents m)) (second_arrays o.sizes (contents m) o.id) ++ replicate size no_run
    runs_now =
        ap (flat_map (array_runs o.sizes (contents put.map))) (ap used_runs arrays_now ∙ arrays_more o.sizes (levels_at o.sizes (contents m) o.id) table no_run size owns.stands.sound refl some_len whole few)
        ∙ flat_map-append (array_runs o.sizes (contents put.map)) (second_arrays o.sizes (contents m) o.id) (table ∷ [])
        ∙ ap₂ (λ (a b : List Run). a ++ b)
        (arrays_same (contents m) (contents put.map) o.sizes (second_arrays o.sizes (contents m) o.id)
        (λ k has. let some : 0 < times k (listed_blocks o m) = has in ap (λ (x : Option (List ℕ)). unwrap_or x []) (same_in k (omega (arith, some)))))
        (append-nil (array_runs o.sizes (contents put.map) table) ∙ array_zeros o.sizes (contents put.map) table (λ k has. ap (λ (x : Option (List ℕ)). unwrap_or x []) (stays k (zeros_in k has) ∙ cleared.zeros k has)))

    levels_are : levels_at o.sizes (contents put.map) o.id ≡ next
    levels_are =
        let a = new_stream in
        let b = table_same in
        let c = arrays_now in
        let d = runs_now in
        λ i. record { stream = a i; table = b i; arrays = c i; runs = d i }

    next_sound : HasLevels o.sizes next
    next_sound = table_sound o.sizes (levels_at o.sizes (contents m) o.id) table no_run size owns.stands.sound refl some_len whole few

    next_places : places_of o.sizes next ≡ places_at o.sizes (contents m) o.id ++ []
    next_places = table_places o.sizes (levels_at o.sizes (contents m) o.id) table no_run size owns.stands.sound refl some_len whole few ∙ sym (append-nil (places_at o.sizes (contents m) o.id))

    next_arrays : arrays_of o.sizes next ≡ arrays_at o.sizes (contents m) o.id ++ run_blocks o.sizes table
    next_arrays = table_arrays o.sizes (levels_at o.sizes (contents m) o.id) table no_run size owns.stands.sound refl some_len whole few

    frame_sum : (k : ℕ) → times k (o.id ∷ arrays_of o.sizes next) ≡ times k (run_blocks o.sizes table) + times k (frame_at o.sizes (contents m) o.id)
    frame_sum k =
        let a : times k (o.id ∷ arrays_of o.sizes next) ≡ times k (o.id ∷ []) + times k (arrays_of o.sizes next) = times-append k (o.id ∷ []) (arrays_of o.sizes next) in
        let b : times k (frame_at o.sizes (contents m) o.id) ≡ times k (o.id ∷ []) + times k (arrays_at o.sizes (contents m) o.id) = times-append k (o.id ∷ []) (arrays_at o.sizes (contents m) o.id) in
        let c : times k (arrays_of o.sizes next) ≡ times k (arrays_at o.sizes (contents m) o.id) + times k (run_blocks o.sizes table) = ap (times k) next_arrays ∙ times-append k (arrays_at o.sizes (contents m) o.id) (run_blocks o.sizes table) in
        omega (arith, a, b, c)

    same : AreSame ((o.id ∷ arrays_of o.sizes next) ++ places_of o.sizes next) (run_blocks o.sizes table ++ whole_at o.sizes (contents m) o.id)
    same k =
        let a : times k ((o.id ∷ arrays_of o.sizes next) ++ places_of o.sizes next) ≡ times k (o.id ∷ arrays_of o.sizes next) + times k (places_of o.sizes next) = times-append k (o.id ∷ arrays_of o.sizes next) (places_of o.sizes next) in
        let b = frame_sum k in
        let c : times k (places_of o.sizes next) ≡ times k (places_at o.sizes (contents m) o.id) = ap (times k) (next_places ∙ append-nil (places_at o.sizes (contents m) o.id)) in
        let d : times k (run_blocks o.sizes table ++ whole_at o.sizes (contents m) o.id) ≡ times k (run_blocks o.sizes table) + (times k (frame_at o.sizes (contents m) o.id) + times k (places_at o.sizes (contents m) o.id)) =
        times-append k (run_blocks o.sizes table) (whole_at o.sizes (contents m) o.id) ∙ ap (λ (n : ℕ). times k (run_blocks o.sizes table) + n) (times-append k (frame_at o.sizes (contents m) o.id) (places_at o.sizes (contents m) o.id)) in
        a ∙ (let e : times k (o.id ∷ arrays_of o.sizes next) + times k (places_of o.sizes next) ≡ times k (run_blocks o.sizes table) + (times k (frame_at o.sizes (contents m) o.id) + times k (places_at o.sizes (contents m) o.id)) = omega (arith, b, c) in e) ∙ sym d

    abbrev changed : List ℕ
    changed = run_blocks o.sizes array ++ run_blocks o.sizes table

    written : (k : ℕ) → times k changed ≡ 0 → put.map k ≡ took.map k
    written k e =
        let parts : times k changed ≡ times k (run_blocks o.sizes array) + times k (run_blocks o.sizes table) = times-append k (run_blocks o.sizes array) (run_blocks o.sizes table) in
        stays k (omega (arith, e, parts)) ∙ cleared.others k (omega (arith, e, parts))

    inside_frame : (k : ℕ) → Has changed k → Has (o.id ∷ arrays_of o.sizes next) k
    inside_frame k has =
        let parts : times k changed ≡ times k (run_blocks o.sizes array) + times k (run_blocks o.sizes table) = times-append k (run_blocks o.sizes array) (run_blocks o.sizes table) in
        let all : 0 < times k changed = has in
        let sum = frame_sum k in
        let of_frame = frame_parts o m k in
        let e = blocks_is k in
        let some : 0 < times k (o.id ∷ arrays_of o.sizes next) = omega (arith, parts, all, sum, of_frame, e) in some

    keeps : (k : ℕ) → Has (frame_at o.sizes (contents m) o.id) k → Has (o.id ∷ arrays_of o.sizes next) k
    keeps k has = let all : 0 < times k (frame_at o.sizes (contents m) o.id) = has in let sum = frame_sum k in let some : 0 < times k (o.id ∷ arrays_of o.sizes next) = omega (arith, all, sum) in some

    told_now : AreTold put.map (o.id ∷ arrays_of o.sizes next)
    told_now k has = by_new (times k (run_blocks o.sizes table)) refl
      where
        by_array : (n : ℕ) → times k (run_blocks o.sizes array) ≡ n → Has (frame_at o.sizes (contents m) o.id) k → IsSome (put.map k)
        by_array zero e mine =
            let some : 0 < times k (frame_at o.sizes (contents m) o.id) = mine in
            let parts = frame_parts o m k in
            let f = blocks_is k in
            subst (λ (x : Option (List ℕ)). IsSome x) (sym (same_in k (omega (arith, some, parts, f, e)))) (owns.stands.told k mine)
        by_array (suc n) e mine = put.are_told k (let h : 0 < times k (run_blocks o.sizes array) = omega (arith, e) in h)

        by_new : (n : ℕ) → times k (run_blocks o.sizes table) ≡ n → IsSome (put.map k)
        by_new zero e =
            let all : 0 < times k (o.id ∷ arrays_of o.sizes next) = has in
            let sum = frame_sum k in
            by_array (times k (run_blocks o.sizes array)) refl (let h : 0 < times k (frame_at o.sizes (contents m) o.id) = omega (arith, all, sum, e) in h)
        by_new (suc n) e =
            let mine : Has (run_blocks o.sizes table) k = let h : 0 < times k (run_blocks o.sizes table) = omega (arith, e) in h in
            subst (λ (x : Option (List ℕ)). IsSome x) (sym (stays k (zeros_in k mine) ∙ cleared.zeros k mine)) refl

    next_few : length (level_blocks o.sizes next.runs) ≤ length (level_blocks o.sizes (levels_at o.sizes (contents m) o.id).runs) + length {A = ℕ} []
    next_few = few_more (length (level_blocks o.sizes (levels_at o.sizes (contents m) o.id).runs)) (length (level_blocks o.sizes next.runs)) (length {A = ℕ} []) (ap length (blocks_same o.sizes (levels_at o.sizes (contents m) o.id) table no_run size owns.stands.sound refl some_len whole few))

    rest_now : KeepsRest (contents m o.id) (contents put.map o.id)
    rest_now = let some : 0 < times o.id (o.id ∷ []) = has_first o.id [] in subst (λ (x : Option (List ℕ)). KeepsRest (contents m o.id) (unwrap_or x [])) (sym (same_in o.id (omega (arith, some)))) (keeps_none (contents m o.id))

    pub opened : (old new : ℕ → Bool) → HasWritten (IsBitBlockOf v (run_blocks o.sizes table)) old new (run_blocks o.sizes array ++ run_blocks o.sizes table) → StaysChanged old new → ((k : ℕ) → Has (run_blocks o.sizes table) k → new k ≡ true) → Grown o v now m [] told4 old new
    opened old new changes stays all =
        subst (λ (x : Room). Grown o v x m [] told4 old new) (sym rest)
        (subst (λ (t : Option (ℕ → Option (List ℕ))). Grown o v (record v { tally = now.tally }) m [] t old new) (sym put.is)
        (grown_is o v now.tally table m took.map put.map told1 changed [] next owns took.is
        (subst (λ (x : Room). Fits x took.map) rest took.fits) took.others took.first took.were_free
        (λ k. sym (ap (λ (x : Room). is_free x took.map k) rest) ∙ took.free k) took.marks (λ count. subst (λ (x : Room). IsCounted x took.map) rest (took.counted count))
        written levels_are next_sound next_places same keeps inside_frame told_now next_few rest_now old new changes stays (array_entered o m table (arrays_of o.sizes next) new frame_sum all)))

    -- one more table is listed now, and as many runs are used as before
    pub ready : (n : ℕ → Option (List ℕ)) → told4 ≡ Some n → (used blocks : ℕ) → AreTables o m (record { array = array; listed = listed; used = used; blocks = blocks }) → AreTables o n (record { array = array; listed = listed + 1; used = used; blocks = blocks })
    ready n is used blocks before =
        let runs : List Run = flat_map (array_runs o.sizes (contents m)) (second_arrays o.sizes (contents m) o.id) in
        let double_now : (fields o.sizes (contents put.map) o.id).double_indirect ≡ array = ap (λ (t : Stream). t.double_indirect) new_stream ∙ sym array_is in
        let second_now : second_arrays o.sizes (contents put.map) o.id ≡ second_arrays o.sizes (contents m) o.id ++ table ∷ [] =
        ap used_runs arrays_now ∙ arrays_more o.sizes (levels_at o.sizes (contents m) o.id) table no_run size owns.stands.sound refl some_len whole few in
        let now : AreTables o put.map (record { array = array; listed = listed + 1; used = used; blocks = blocks }) = (
          sym double_now,
          sym (ap length second_now ∙ length-append (second_arrays o.sizes (contents m) o.id) (table ∷ []) ∙ (let e = before.1 in let z : length (second_arrays o.sizes (contents m) o.id) + length (table ∷ []) ≡ listed + 1 = omega (arith, e) in z)),
          before.2 ∙ ap (λ (r : Run). length (used_runs (table_runs o.sizes (contents m) r))) array_is ∙ ap length (sym (none_behind o.sizes runs no_run size refl)) ∙ ap (λ (l : List Run). length (used_runs l)) (sym runs_now) ∙ ap (λ (r : Run). length (used_runs (table_runs o.sizes (contents put.map) r))) double_now,
          before.3 ∙ ap length (sym (ap (λ (x : Levels). places_of o.sizes x) levels_are ∙ next_places ∙ append-nil (places_at o.sizes (contents m) o.id))),
        ) in
        subst (λ (x : ℕ → Option (List ℕ)). AreTables o x (record { array = array; listed = listed + 1; used = used; blocks = blocks })) (same_map put.map n told4 put.is is) now
