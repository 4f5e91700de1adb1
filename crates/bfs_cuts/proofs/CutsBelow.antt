-- The last run under double indirect was ended and given back.
use Rattle.std.proofs.Common.{◌≡◌, ◌≤◌, ◌<◌, ◌+◌, ◌*◌, ◌∙◌, ℕ, zero, suc, pos, List, [], ◌∷◌, ◌++◌, length, set, Bool, cond, Option, Some, unwrap_or, refl, sym, ap, subst, arith, length-append}
use Rattle.std.specs.Prelude.{All, IsSome}
use Rattle.std.specs.List.{flat_map}
use Rattle.bfs_base.specs.Lists.{times, Has, IsOnce, counted_from}
use Rattle.bfs_bytes.specs.declared.Run.{Run}
use Rattle.bfs_super.specs.Conditions.{natural}
use Rattle.bfs_inode.specs.Inode.{Stream, stream_at}
use Rattle.bfs_txn.specs.Told.{with_block}
use Rattle.bfs_bitmap.specs.Runs.{Room, Fits}
use Rattle.bfs_stream.specs.Sizes.{Origin, IsWhole, first_block}
use Rattle.bfs_stream.specs.Places.{Levels, run_blocks, blocks_of, used_runs, array_runs, level_blocks, level_end, arrays_of, fields, second_arrays, levels_at, arrays_at, places_at, frame_at, whole_at}
use Rattle.bfs_stream.specs.Told.{contents, AreTold}
use Rattle.bfs_stream.specs.Grown.{Owns, HasFields, HasTables, HasPutBelow, table_runs, HasWritten, KeepsRest}
use Rattle.bfs_stream.specs.Trimmed.{Gave, Trimmed, KeepsLevels}
use Rattle.bfs_stream.proofs.Doubles.{times-append}
use Rattle.bfs_stream.proofs.Levels.{length-counted}
use Rattle.bfs_stream.proofs.Placed.{length-places}
use Rattle.bfs_stream.proofs.Appends.{appended_blocks}
use Rattle.bfs_stream.proofs.Frames.{has_first, array_same, arrays_same}
use Rattle.bfs_stream.proofs.Equal.{same_test, apart_test, is_test}
use Rattle.bfs_stream.proofs.Parts.{table_blocks, double_blocks, listed_blocks, frame_parts, whole_parts}
use Rattle.bfs_cuts.proofs.Shrinks.{cut_runs, runs_places, runs_sound}
use Rattle.bfs_cuts.proofs.Cutting.{fits_before, blocks_cut}
use Rattle.bfs_stream.proofs.Writes.{IsBitBlockOf}

module _ (o : Origin) (v : Room) (array : Run) (m : ℕ → Option (List ℕ)) (owns : Owns o v [] m) (array_is : array ≡ (fields o.sizes (contents m) o.id).double_indirect) where
  blocks_is : (k : ℕ) → times k (run_blocks o.sizes array) ≡ times k (double_blocks o m)
  blocks_is k = ap (λ (r : Run). times k (run_blocks o.sizes r)) array_is

  pub once_all : (k : ℕ) → times k (o.id ∷ []) + (times k (table_blocks o m) + (times k (run_blocks o.sizes array) + times k (listed_blocks o m))) ≤ 1
  once_all k = let parts = whole_parts o m k in let e = blocks_is k in let le : times k (whole_at o.sizes (contents m) o.id) ≤ 1 = owns.once k in omega (arith, parts, e, le)

  pub frame_has : (k : ℕ) → 0 < times k (o.id ∷ []) + (times k (table_blocks o m) + (times k (run_blocks o.sizes array) + times k (listed_blocks o m))) → Has (frame_at o.sizes (contents m) o.id) k
  frame_has k some = let parts = frame_parts o m k in let e = blocks_is k in let h : 0 < times k (frame_at o.sizes (contents m) o.id) = omega (arith, parts, e, some) in h

  own_told : (k : ℕ) → 0 < times k (o.id ∷ []) + (times k (table_blocks o m) + (times k (run_blocks o.sizes array) + times k (listed_blocks o m))) → IsSome (m k)
  own_told k some = owns.stands.told k (frame_has k some)

  pub arrays_are : array_runs o.sizes (contents m) array ≡ array_runs o.sizes (contents m) (fields o.sizes (contents m) o.id).double_indirect
  arrays_are = ap (array_runs o.sizes (contents m)) array_is

  pub runs_are : table_runs o.sizes (contents m) array ≡ flat_map (array_runs o.sizes (contents m)) (second_arrays o.sizes (contents m) o.id)
  runs_are = ap (λ (r : Run). table_runs o.sizes (contents m) r) array_is

  pub told_double : AreTold m (run_blocks o.sizes array)
  told_double k has = let some : 0 < times k (run_blocks o.sizes array) = has in own_told k (omega (arith, some))

  pub has_tables : HasTables o.sizes array m
  has_tables = record {
    first = told_double;
    second = subst (λ (l : List Run). AreTold m (blocks_of o.sizes (used_runs l))) (sym arrays_are) (λ k has. let some : 0 < times k (listed_blocks o m) = has in own_told k (omega (arith, some)));
    arrays = subst (λ (l : List Run). All (IsWhole o.sizes) (used_runs l)) (sym arrays_are) owns.stands.sound.arrays;
    once = subst (λ (l : List Run). IsOnce (run_blocks o.sizes array ++ blocks_of o.sizes (used_runs l))) (sym arrays_are)
        (λ k. let le = once_all k in omega (arith, times-append k (run_blocks o.sizes array) (listed_blocks o m), le));
  }

  pub all_whole : All (IsWhole o.sizes) (used_runs (table_runs o.sizes (contents m) array))
  all_whole = subst (λ (l : List Run). All (IsWhole o.sizes) (used_runs l)) (sym runs_are) owns.stands.sound.in_double

  module _ (front : List Run) (last : Run) (is : used_runs (table_runs o.sizes (contents m) array) ≡ front ++ last ∷ []) where
    pub is_now : used_runs (flat_map (array_runs o.sizes (contents m)) (second_arrays o.sizes (contents m) o.id)) ≡ front ++ last ∷ []
    is_now = ap used_runs (sym runs_are) ∙ is

    pub whole_long : length (places_at o.sizes (contents m) o.id)
        ≡ length (level_blocks o.sizes (fields o.sizes (contents m) o.id).direct) + length (level_blocks o.sizes (array_runs o.sizes (contents m) (fields o.sizes (contents m) o.id).indirect)) + (length (blocks_of o.sizes front) + last.len)
    unfolding level_blocks
    whole_long =
        let a : length (level_blocks o.sizes (flat_map (array_runs o.sizes (contents m)) (second_arrays o.sizes (contents m) o.id))) ≡ length (blocks_of o.sizes front) + last.len =
        ap (λ (x : List Run). length (blocks_of o.sizes x)) is_now ∙ ap length (appended_blocks o.sizes front last) ∙ length-append (blocks_of o.sizes front) (run_blocks o.sizes last)
        ∙ ap (λ (n : ℕ). length (blocks_of o.sizes front) + n) (length-counted (first_block o.sizes last) last.len) in
        omega (arith, length-places o.sizes (contents m) o.id, a)

    module _ (now : Room) (none : Run) (told1 told2 told3 : Option (ℕ → Option (List ℕ))) (left : ℕ) (put : HasPutBelow o.sizes array (length front) none m told1) where
      put_arrays : array_runs o.sizes (contents put.map) array ≡ array_runs o.sizes (contents m) (fields o.sizes (contents m) o.id).double_indirect
      put_arrays = put.listed ∙ arrays_are

      stays : (k : ℕ) → times k (listed_blocks o m) ≡ 0 → put.map k ≡ m k
      stays k out = put.others k (ap (λ (l : List Run). times k (blocks_of o.sizes (used_runs l))) arrays_are ∙ out)

      same_in : (k : ℕ) → 0 < times k (o.id ∷ []) + (times k (table_blocks o m) + times k (run_blocks o.sizes array)) → put.map k ≡ m k
      same_in k some = let le = once_all k in stays k (omega (arith, le, some))

      put_told : (k : ℕ) → 0 < times k (listed_blocks o m) → IsSome (put.map k)
      put_told k some = subst (λ (l : List Run). AreTold put.map (blocks_of o.sizes (used_runs l))) put_arrays put.tables.second k some

      inode_stays : put.map o.id ≡ m o.id
      inode_stays = let some : 0 < times o.id (o.id ∷ []) = has_first o.id [] in same_in o.id (omega (arith, some))

      pub inode_told : IsSome (put.map o.id)
      inode_told =
          let some : 0 < times o.id (o.id ∷ []) = has_first o.id [] in
          subst (λ (x : Option (List ℕ)). IsSome x) (sym inode_stays) (owns.stands.told o.id (frame_has o.id (omega (arith, some))))

      module _ (wrote : HasFields o (record (stream_at (contents put.map o.id)) { max_double_indirect_range = pos (o.sizes.block_size * left) }) put.map told2) (zero_len : none.len ≡ 0)
          (left_is : left ≡ level_end (length (level_blocks o.sizes (fields o.sizes (contents m) o.id).direct) + length (level_blocks o.sizes (array_runs o.sizes (contents m) (fields o.sizes (contents m) o.id).indirect))) (length (blocks_of o.sizes front) + none.len))
          (size : natural (fields o.sizes (contents m) o.id).size
          ≤ o.sizes.block_size * (length (level_blocks o.sizes (fields o.sizes (contents m) o.id).direct) + length (level_blocks o.sizes (array_runs o.sizes (contents m) (fields o.sizes (contents m) o.id).indirect)) + (length (blocks_of o.sizes front) + none.len))) where
        abbrev l : Levels
        l = levels_at o.sizes (contents m) o.id

        abbrev next : Levels
        next = cut_runs o.sizes (levels_at o.sizes (contents m) o.id) front none

        abbrev m1 : ℕ → Option (List ℕ)
        m1 = with_block o.id wrote.bytes put.map

        abbrev ws : List ℕ
        ws = o.id ∷ listed_blocks o m

        ws_sum : (k : ℕ) → times k ws ≡ times k (o.id ∷ []) + times k (listed_blocks o m)
        ws_sum k = times-append k (o.id ∷ []) (listed_blocks o m)

        here : contents m1 o.id ≡ wrote.bytes
        here = ap (λ (b : Bool). unwrap_or (cond b (Some wrote.bytes) (put.map o.id)) []) (same_test o.id)

        elsewhere : (k : ℕ) → times k (o.id ∷ []) ≡ 0 → m1 k ≡ put.map k
        elsewhere k e = ap (λ (b : Bool). cond b (Some wrote.bytes) (put.map k)) (apart_test k o.id e)

        made : List ℕ → ℕ → Stream
        made b n = record (stream_at b) { max_double_indirect_range = pos (o.sizes.block_size * n) }

        new_stream : stream_at (contents m1 o.id) ≡ next.stream
        unfolding made
        new_stream = ap stream_at here ∙ wrote.fields ∙ ap (λ (x : Option (List ℕ)). made (unwrap_or x []) left) inode_stays ∙ ap (λ (n : ℕ). made (contents m o.id) n) left_is

        apart_same : (k : ℕ) → 0 < times k (table_blocks o m) + times k (run_blocks o.sizes array) → contents m1 k ≡ contents m k
        apart_same k some = let le = once_all k in ap (λ (x : Option (List ℕ)). unwrap_or x []) (elsewhere k (omega (arith, le, some)) ∙ same_in k (omega (arith, some)))

        table_same : array_runs o.sizes (contents m1) (fields o.sizes (contents m1) o.id).indirect ≡ array_runs o.sizes (contents m) (fields o.sizes (contents m) o.id).indirect
        table_same =
            ap (λ (t : Stream). array_runs o.sizes (contents m1) t.indirect) new_stream
            ∙ array_same (contents m) (contents m1) o.sizes (fields o.sizes (contents m) o.id).indirect (λ k has. let some : 0 < times k (table_blocks o m) = has in apart_same k (omega (arith, some)))

        arrays_now : array_runs o.sizes (contents m1) (fields o.sizes (contents m1) o.id).double_indirect ≡ array_runs o.sizes (contents m) (fields o.sizes (contents m) o.id).double_indirect
        arrays_now =
            ap (λ (t : Stream). array_runs o.sizes (contents m1) t.double_indirect) new_stream
            ∙ array_same (contents m) (contents m1) o.sizes (fields o.sizes (contents m) o.id).double_indirect (λ k has. let some : 0 < times k (double_blocks o m) = has in let e = blocks_is k in apart_same k (omega (arith, some, e)))

        runs_now : flat_map (array_runs o.sizes (contents m1)) (second_arrays o.sizes (contents m1) o.id) ≡ next.runs
        runs_now =
            ap (λ (l : List Run). flat_map (array_runs o.sizes (contents m1)) (used_runs l)) arrays_now
            ∙ arrays_same (contents put.map) (contents m1) o.sizes (second_arrays o.sizes (contents m) o.id)
            (λ k has. let some : 0 < times k (listed_blocks o m) = has in let le = once_all k in ap (λ (x : Option (List ℕ)). unwrap_or x []) (elsewhere k (omega (arith, le, some))))
            ∙ ap (λ (l : List Run). flat_map (array_runs o.sizes (contents put.map)) (used_runs l)) (sym put_arrays)
            ∙ put.runs
            ∙ ap (λ (l : List Run). set l (length front) none) runs_are

        levels_are : levels_at o.sizes (contents m1) o.id ≡ next
        levels_are =
            let a = new_stream in
            let b = table_same in
            let c = arrays_now in
            let d = runs_now in
            λ i. record { stream = a i; table = b i; arrays = c i; runs = d i }

        written : (k : ℕ) → times k ws ≡ 0 → m1 k ≡ m k
        written k e = let sum = ws_sum k in elsewhere k (omega (arith, e, sum)) ∙ stays k (omega (arith, e, sum))

        inside_frame : (k : ℕ) → Has ws k → Has (frame_at o.sizes (contents m) o.id) k
        inside_frame k has = let all : 0 < times k ws = has in let sum = ws_sum k in frame_has k (omega (arith, all, sum))

        told_ws : (k : ℕ) → Has ws k → IsSome (m1 k)
        told_ws k has = by_count (times k (o.id ∷ [])) refl
          where
            by_count : (n : ℕ) → times k (o.id ∷ []) ≡ n → IsSome (m1 k)
            by_count zero e =
                let all : 0 < times k ws = has in
                let sum = ws_sum k in
                subst (λ (x : Option (List ℕ)). IsSome x) (sym (elsewhere k e)) (put_told k (omega (arith, all, sum, e)))
            by_count (suc n) e = subst (λ (x : Option (List ℕ)). IsSome x) (sym (ap (λ (b : Bool). cond b (Some wrote.bytes) (put.map k)) (is_test k o.id n e))) refl

        rest_now : KeepsRest (contents m o.id) (contents m1 o.id)
        rest_now = subst (λ (x : Option (List ℕ)). KeepsRest (unwrap_or x []) (contents m1 o.id)) inode_stays (subst (λ (b : List ℕ). KeepsRest (contents put.map o.id) b) (sym here) wrote.kept)

        parts : run_blocks o.sizes last ≡ run_blocks o.sizes none ++ run_blocks o.sizes last
        parts = ap (λ (x : List ℕ). x ++ run_blocks o.sizes last) (sym (ap (counted_from (first_block o.sizes none)) zero_len))

        inside_none : 0 < none.len → IsWhole o.sizes none
        inside_none some = absurd (omega (arith, some, zero_len))

        pub fits_now : Fits v (with_block o.id wrote.bytes put.map)
        fits_now = fits_before o v now (run_blocks o.sizes last) m m1 told3 ws next owns written inside_frame

        arrays_stay : arrays_of o.sizes next ≡ arrays_at o.sizes (contents m) o.id
        unfolding arrays_of
        arrays_stay = refl

        next_keeps : KeepsLevels (levels_at o.sizes (contents m) o.id) next
        next_keeps = record { indirect = refl; double = refl; arrays = refl; direct = λ some. refl; table = λ some. refl }

        pub cut : (old new : ℕ → Bool) → Gave v now (run_blocks o.sizes last) (with_block o.id wrote.bytes put.map) told3 → now ≡ record v { given = now.given; tally = now.tally } → HasWritten (IsBitBlockOf v (run_blocks o.sizes last)) old new (o.id ∷ listed_blocks o m)
            → (t : Trimmed o v now m (run_blocks o.sizes last) told3 old new) × KeepsLevels (levels_at o.sizes (contents m) o.id) (levels_at o.sizes (contents t.map) o.id)
        cut old new gave rest changes =
            blocks_cut o v now (run_blocks o.sizes last) m m1 told3 ws next owns written inside_frame levels_are (runs_sound o.sizes l front last none last owns.stands.sound is_now parts inside_none size) told_ws rest_now
            (runs_places o.sizes l front last none last owns.stands.sound is_now parts inside_none size) arrays_stay next_keeps old new gave rest changes
