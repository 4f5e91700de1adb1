-- Arrays of the stream were given back with what they name, and taken out of what names them.
use Rattle.std.proofs.Common.{◌≡◌, ◌≤◌, ◌<◌, ◌+◌, ◌-◌, ◌*◌, ◌∙◌, ℕ, zero, suc, pos, List, [], ◌∷◌, ◌++◌, length, take, drop, set, Bool, cond, Option, Some, unwrap_or, refl, sym, ap, subst, arith, length-append}
use Rattle.std.specs.Prelude.{IsSome}
use Rattle.std.specs.List.{flat_map}
use Rattle.std.proofs.lemmas.Grind.{flat_map-append}
use Rattle.bfs_base.specs.Lists.{times, Has, Agree}
use Rattle.bfs_bytes.specs.declared.Run.{Run}
use Rattle.bfs_super.specs.Conditions.{natural}
use Rattle.bfs_inode.specs.Inode.{Stream, stream_at}
use Rattle.bfs_txn.specs.Told.{with_block}
use Rattle.bfs_bitmap.specs.Runs.{Room}
use Rattle.bfs_stream.specs.Sizes.{Origin, IsWhole, array_length, runs_per_block}
use Rattle.bfs_stream.specs.Places.{Levels, run_blocks, blocks_of, used_runs, array_runs, level_blocks, level_end, arrays_of, places_of, fields, second_arrays, levels_at, arrays_at, frame_at, places_at}
use Rattle.bfs_stream.specs.Told.{contents}
use Rattle.bfs_stream.specs.Grown.{Owns, HasPut, HasFields, HasWritten, KeepsRest}
use Rattle.bfs_stream.specs.Trimmed.{Gave, Trimmed}
use Rattle.bfs_stream.proofs.Doubles.{times-append}
use Rattle.bfs_stream.proofs.Frames.{has_first, has_rest, has_left, has_right, array_same, arrays_same, levels_table}
use Rattle.bfs_stream.proofs.Equal.{same_test, apart_test, is_test, no_runs_in}
use Rattle.bfs_stream.proofs.Apart.{inode_apart, in_arrays, behind_in}
use Rattle.bfs_stream.proofs.Parts.{table_blocks, listed_blocks}
use Rattle.bfs_stream.proofs.Belows.{length-tables}
use Rattle.bfs_stream.proofs.Seconds.{nothing_second}
use Rattle.bfs_cuts.proofs.CutsBelow.{once_all, frame_has}
use Rattle.bfs_cuts.proofs.Drops.{split_at, blocks_split, take_left, length-take, all_take, used_take, ended, without_double, double_places, double_arrays, double_sound, fewer_tables, tables_places, tables_arrays, tables_sound, without_indirect, indirect_places, indirect_arrays, indirect_sound}
use Rattle.bfs_cuts.proofs.Gives.{gave_frame, gave_levels, gave_owns, dropped}
use Rattle.bfs_stream.proofs.Writes.{IsBitBlockOf}

-- the inode was written anew, and nothing else
module _ (o : Origin) (v : Room) (m : ℕ → Option (List ℕ)) (told : Option (ℕ → Option (List ℕ))) (owns : Owns o v [] m) (t : Stream) (wrote : HasFields o t m told) where
  abbrev m1 : ℕ → Option (List ℕ)
  m1 = with_block o.id wrote.bytes m

  here : contents m1 o.id ≡ wrote.bytes
  here = ap (λ (b : Bool). unwrap_or (cond b (Some wrote.bytes) (m o.id)) []) (same_test o.id)

  pub inode_written : (k : ℕ) → times k (o.id ∷ []) ≡ 0 → with_block o.id wrote.bytes m k ≡ m k
  inode_written k e = ap (λ (b : Bool). cond b (Some wrote.bytes) (m k)) (apart_test k o.id e)

  pub inode_stream : stream_at (contents (with_block o.id wrote.bytes m) o.id) ≡ t
  inode_stream = ap stream_at here ∙ wrote.fields

  pub inode_is_told : (k : ℕ) → Has (o.id ∷ []) k → IsSome (with_block o.id wrote.bytes m k)
  inode_is_told k has = by_count (times k (o.id ∷ [])) refl
    where
      by_count : (n : ℕ) → times k (o.id ∷ []) ≡ n → IsSome (m1 k)
      by_count zero e = let some : 0 < times k (o.id ∷ []) = has in absurd (omega (arith, some, e))
      by_count (suc n) e = subst (λ (x : Option (List ℕ)). IsSome x) (sym (ap (λ (b : Bool). cond b (Some wrote.bytes) (m k)) (is_test k o.id n e))) refl

  pub inode_rest : KeepsRest (contents m o.id) (contents (with_block o.id wrote.bytes m) o.id)
  inode_rest = subst (λ (b : List ℕ). KeepsRest (contents m o.id) b) (sym here) wrote.kept

  pub inode_agree : Agree (contents m) (contents (with_block o.id wrote.bytes m)) (arrays_at o.sizes (contents m) o.id)
  inode_agree k has = ap (λ (x : Option (List ℕ)). unwrap_or x []) (inode_written k (inode_apart o v m owns k has))

module _ (o : Origin) (v now : Room) (hand : List ℕ) (m : ℕ → Option (List ℕ)) (told0 : Option (ℕ → Option (List ℕ))) (owns : Owns o v [] m) (gave : Gave v now hand m told0) (rest : now ≡ record v { given = now.given; tally = now.tally }) (none : Run) (zero_len : none.len ≡ 0) where
  abbrev mg : ℕ → Option (List ℕ)
  mg = gave.map

  abbrev l : Levels
  l = levels_at o.sizes (contents m) o.id

  own : Owns o now [] gave.map
  own = gave_owns o v now hand m told0 owns gave rest

  same_levels : levels_at o.sizes (contents gave.map) o.id ≡ levels_at o.sizes (contents m) o.id
  same_levels = gave_levels o v now hand m told0 owns gave rest

  inode_frame : (k : ℕ) → Has (o.id ∷ []) k → Has (frame_at o.sizes (contents m) o.id) k
  inode_frame k has = has_left (o.id ∷ []) (arrays_at o.sizes (contents m) o.id) k has

  inode_same : gave.map o.id ≡ m o.id
  inode_same = gave_frame o v now hand m told0 owns gave rest o.id (inode_frame o.id (has_first o.id []))

  rest_of : (bytes : List ℕ) → KeepsRest (contents gave.map o.id) bytes → KeepsRest (contents m o.id) bytes
  rest_of bytes kept = subst (λ (x : Option (List ℕ)). KeepsRest (unwrap_or x []) bytes) inode_same kept

  -- the double indirect level
  module _ (told1 : Option (ℕ → Option (List ℕ))) (wrote : HasFields o (record (stream_at (contents gave.map o.id)) { double_indirect = none; max_double_indirect_range = pos 0 }) gave.map told1)
      (hand_is : (k : ℕ) → times k hand ≡ times k (level_blocks o.sizes (levels_at o.sizes (contents m) o.id).runs) + times k (blocks_of o.sizes (used_runs (levels_at o.sizes (contents m) o.id).arrays) ++ run_blocks o.sizes (fields o.sizes (contents m) o.id).double_indirect))
      (size : natural (fields o.sizes (contents m) o.id).size ≤ o.sizes.block_size * (length (level_blocks o.sizes (levels_at o.sizes (contents m) o.id).stream.direct) + length (level_blocks o.sizes (levels_at o.sizes (contents m) o.id).table))) where
    abbrev t2 : Stream
    t2 = record (stream_at (contents gave.map o.id)) { double_indirect = none; max_double_indirect_range = pos 0 }

    abbrev m2 : ℕ → Option (List ℕ)
    m2 = with_block o.id wrote.bytes gave.map

    stream2 : stream_at (contents m2 o.id) ≡ t2
    stream2 = inode_stream o now gave.map told1 own t2 wrote

    table2 : array_runs o.sizes (contents m2) (fields o.sizes (contents m2) o.id).indirect ≡ array_runs o.sizes (contents gave.map) (fields o.sizes (contents gave.map) o.id).indirect
    table2 =
        ap (λ (t : Stream). array_runs o.sizes (contents m2) t.indirect) stream2
        ∙ array_same (contents gave.map) (contents m2) o.sizes (fields o.sizes (contents gave.map) o.id).indirect (λ k has. inode_agree o now gave.map told1 own t2 wrote k (in_arrays o now gave.map own k has))

    arrays2 : array_runs o.sizes (contents m2) (fields o.sizes (contents m2) o.id).double_indirect ≡ []
    arrays2 = ap (λ (t : Stream). array_runs o.sizes (contents m2) t.double_indirect) stream2 ∙ no_runs_in o.sizes (contents m2) none zero_len

    runs2 : flat_map (array_runs o.sizes (contents m2)) (second_arrays o.sizes (contents m2) o.id) ≡ []
    runs2 = ap (λ (x : List Run). flat_map (array_runs o.sizes (contents m2)) (used_runs x)) arrays2

    levels2 : levels_at o.sizes (contents m2) o.id ≡ without_double (levels_at o.sizes (contents m) o.id) none
    levels2 =
        let a = stream2 in
        let b = table2 in
        let c = arrays2 in
        let d = runs2 in
        let e : levels_at o.sizes (contents m2) o.id ≡ without_double (levels_at o.sizes (contents gave.map) o.id) none = λ i. record { stream = a i; table = b i; arrays = c i; runs = d i } in
        e ∙ ap (λ (x : Levels). without_double x none) same_levels

    pub double_dropped : (old new : ℕ → Bool) → HasWritten (IsBitBlockOf v hand) old new (o.id ∷ [])
        → (t : Trimmed o v now m (level_blocks o.sizes (levels_at o.sizes (contents m) o.id).runs) told1 old new) × (t.touched ≡ o.id ∷ []) × (levels_at o.sizes (contents t.map) o.id ≡ without_double (levels_at o.sizes (contents m) o.id) none)
    double_dropped old new changes =
        dropped o v now hand m m2 told0 told1 (o.id ∷ []) owns gave rest wrote.is (inode_written o now gave.map told1 own t2 wrote) inode_frame (without_double l none) levels2 (double_sound o.sizes l none owns.stands.sound zero_len size)
        (inode_is_told o now gave.map told1 own t2 wrote) (rest_of (contents m2 o.id) (inode_rest o now gave.map told1 own t2 wrote))
        (level_blocks o.sizes l.runs) (blocks_of o.sizes (used_runs l.arrays) ++ run_blocks o.sizes l.stream.double_indirect) hand_is (double_places o.sizes l none owns.stands.sound zero_len) (double_arrays o.sizes l none owns.stands.sound zero_len)
        (λ k has. has_left (o.id ∷ []) (arrays_of o.sizes (without_double l none)) k has) old new changes

  -- the indirect level
  module _ (told1 : Option (ℕ → Option (List ℕ))) (wrote : HasFields o (record (stream_at (contents gave.map o.id)) { indirect = none; max_indirect_range = pos 0 }) gave.map told1) (no_double : (fields o.sizes (contents m) o.id).double_indirect.len ≡ 0)
      (hand_is : (k : ℕ) → times k hand ≡ times k (level_blocks o.sizes (levels_at o.sizes (contents m) o.id).table) + times k (run_blocks o.sizes (fields o.sizes (contents m) o.id).indirect))
      (size : natural (fields o.sizes (contents m) o.id).size ≤ o.sizes.block_size * length (level_blocks o.sizes (levels_at o.sizes (contents m) o.id).stream.direct)) where
    abbrev t3 : Stream
    t3 = record (stream_at (contents gave.map o.id)) { indirect = none; max_indirect_range = pos 0 }

    abbrev m3 : ℕ → Option (List ℕ)
    m3 = with_block o.id wrote.bytes gave.map

    stream3 : stream_at (contents m3 o.id) ≡ t3
    stream3 = inode_stream o now gave.map told1 own t3 wrote

    table3 : array_runs o.sizes (contents m3) (fields o.sizes (contents m3) o.id).indirect ≡ []
    table3 = ap (λ (t : Stream). array_runs o.sizes (contents m3) t.indirect) stream3 ∙ no_runs_in o.sizes (contents m3) none zero_len

    levels3 : levels_at o.sizes (contents m3) o.id ≡ without_indirect (levels_at o.sizes (contents m) o.id) none
    levels3 =
        levels_table (contents gave.map) (contents m3) o.sizes o.id [] (λ k has. inode_agree o now gave.map told1 own t3 wrote k (behind_in o now gave.map own k has)) (ap (λ (t : Stream). t.double_indirect) stream3) table3
        ∙ ap (λ (t : Stream). record (levels_at o.sizes (contents gave.map) o.id) { stream = t; table = [] }) stream3
        ∙ ap (λ (x : Levels). without_indirect x none) same_levels

    pub indirect_dropped : (old new : ℕ → Bool) → HasWritten (IsBitBlockOf v hand) old new (o.id ∷ [])
        → (t : Trimmed o v now m (level_blocks o.sizes (levels_at o.sizes (contents m) o.id).table) told1 old new) × (t.touched ≡ o.id ∷ []) × (levels_at o.sizes (contents t.map) o.id ≡ without_indirect (levels_at o.sizes (contents m) o.id) none)
    indirect_dropped old new changes =
        let nothing = nothing_second o m no_double in
        dropped o v now hand m m3 told0 told1 (o.id ∷ []) owns gave rest wrote.is (inode_written o now gave.map told1 own t3 wrote) inode_frame (without_indirect l none) levels3
        (indirect_sound o.sizes l none owns.stands.sound zero_len no_double nothing size)
        (inode_is_told o now gave.map told1 own t3 wrote) (rest_of (contents m3 o.id) (inode_rest o now gave.map told1 own t3 wrote))
        (level_blocks o.sizes l.table) (run_blocks o.sizes l.stream.indirect) hand_is (indirect_places o.sizes l none owns.stands.sound zero_len no_double nothing) (indirect_arrays o.sizes l none owns.stands.sound zero_len no_double nothing)
        (λ k has. has_left (o.id ∷ []) (arrays_of o.sizes (without_indirect l none)) k has) old new changes

  -- the inode is told when a run was written into the array of the double indirect level
  pub inode_put_told : (told1 : Option (ℕ → Option (List ℕ))) (array : Run) → array ≡ (fields o.sizes (contents m) o.id).double_indirect → (keep : ℕ) (put : HasPut o.sizes array keep none gave.map told1) → IsSome (put.map o.id)
  inode_put_told told1 array is keep put =
      let array_g : array ≡ (fields o.sizes (contents gave.map) o.id).double_indirect = is ∙ sym (ap (λ (x : Levels). x.stream.double_indirect) same_levels) in
      let some : 0 < times o.id (o.id ∷ []) = has_first o.id [] in
      let le = once_all o now array gave.map own array_g o.id in
      let same : put.map o.id ≡ gave.map o.id = put.others o.id (omega (arith, le, some)) in
      subst (λ (x : Option (List ℕ)). IsSome x) (sym (same ∙ inode_same)) (owns.stands.told o.id (inode_frame o.id some))

  -- the last tables of the double indirect level
  module _ (told1 told2 : Option (ℕ → Option (List ℕ))) (array : Run) (array_is : array ≡ (fields o.sizes (contents m) o.id).double_indirect) (keep n reach : ℕ) (few : keep < length (second_arrays o.sizes (contents m) o.id))
      (put : HasPut o.sizes array keep none gave.map told1) (wrote : HasFields o (record (stream_at (contents put.map o.id)) { max_double_indirect_range = pos (o.sizes.block_size * reach) }) put.map told2) (n_is : n ≡ array_length o.sizes * runs_per_block o.sizes * keep)
      (hand_is : (k : ℕ) → times k hand ≡ times k (blocks_of o.sizes (drop n (used_runs (levels_at o.sizes (contents m) o.id).runs))) + times k (blocks_of o.sizes (drop keep (second_arrays o.sizes (contents m) o.id)))) where
    array_g : array ≡ (fields o.sizes (contents gave.map) o.id).double_indirect
    array_g = array_is ∙ sym (ap (λ (x : Levels). x.stream.double_indirect) same_levels)

    abbrev second_g : List Run
    second_g = second_arrays o.sizes (contents gave.map) o.id

    second_same : second_arrays o.sizes (contents gave.map) o.id ≡ second_arrays o.sizes (contents m) o.id
    second_same = ap (λ (x : Levels). used_runs x.arrays) same_levels

    few_g : keep < length (second_arrays o.sizes (contents gave.map) o.id)
    few_g = subst (λ (x : List Run). keep < length x) (sym second_same) few

    abbrev m4 : ℕ → Option (List ℕ)
    m4 = with_block o.id wrote.bytes put.map

    same_in : (k : ℕ) → 0 < times k (o.id ∷ []) + (times k (table_blocks o gave.map) + times k (listed_blocks o gave.map)) → put.map k ≡ gave.map k
    same_in k some = let le = once_all o now array gave.map own array_g k in put.others k (omega (arith, le, some))

    inode_put : put.map o.id ≡ gave.map o.id
    inode_put = let some : 0 < times o.id (o.id ∷ []) = has_first o.id [] in same_in o.id (omega (arith, some))

    here4 : contents m4 o.id ≡ wrote.bytes
    here4 = ap (λ (b : Bool). unwrap_or (cond b (Some wrote.bytes) (put.map o.id)) []) (same_test o.id)

    elsewhere : (k : ℕ) → times k (o.id ∷ []) ≡ 0 → m4 k ≡ put.map k
    elsewhere k e = ap (λ (b : Bool). cond b (Some wrote.bytes) (put.map k)) (apart_test k o.id e)

    made : List ℕ → Stream
    made b = record (stream_at b) { max_double_indirect_range = pos (o.sizes.block_size * reach) }

    stream4 : stream_at (contents m4 o.id) ≡ record (stream_at (contents gave.map o.id)) { max_double_indirect_range = pos (o.sizes.block_size * reach) }
    unfolding made
    stream4 = ap stream_at here4 ∙ wrote.fields ∙ ap (λ (x : Option (List ℕ)). made (unwrap_or x [])) inode_put

    stays4 : (k : ℕ) → 0 < times k (table_blocks o gave.map) + times k (listed_blocks o gave.map) → contents m4 k ≡ contents gave.map k
    stays4 k some = let le = once_all o now array gave.map own array_g k in ap (λ (x : Option (List ℕ)). unwrap_or x []) (elsewhere k (omega (arith, le, some)) ∙ same_in k (omega (arith, some)))

    table4 : array_runs o.sizes (contents m4) (fields o.sizes (contents m4) o.id).indirect ≡ array_runs o.sizes (contents gave.map) (fields o.sizes (contents gave.map) o.id).indirect
    table4 =
        ap (λ (t : Stream). array_runs o.sizes (contents m4) t.indirect) stream4
        ∙ array_same (contents gave.map) (contents m4) o.sizes (fields o.sizes (contents gave.map) o.id).indirect (λ k has. let some : 0 < times k (table_blocks o gave.map) = has in stays4 k (omega (arith, some)))

    own_apart : (k : ℕ) → Has (run_blocks o.sizes array) k → times k (o.id ∷ []) ≡ 0
    own_apart k has = let some : 0 < times k (run_blocks o.sizes array) = has in let le = once_all o now array gave.map own array_g k in omega (arith, le, some)

    arrays4 : array_runs o.sizes (contents m4) (fields o.sizes (contents m4) o.id).double_indirect ≡ set (array_runs o.sizes (contents gave.map) (fields o.sizes (contents gave.map) o.id).double_indirect) keep none
    arrays4 =
        ap (λ (t : Stream). array_runs o.sizes (contents m4) t.double_indirect) stream4
        ∙ ap (array_runs o.sizes (contents m4)) (sym array_g)
        ∙ array_same (contents put.map) (contents m4) o.sizes array (λ k has. ap (λ (x : Option (List ℕ)). unwrap_or x []) (elsewhere k (own_apart k has)))
        ∙ put.runs
        ∙ ap (λ (x : Run). set (array_runs o.sizes (contents gave.map) x) keep none) array_g

    ended_g : used_runs (set (array_runs o.sizes (contents gave.map) (fields o.sizes (contents gave.map) o.id).double_indirect) keep none) ≡ take keep (second_arrays o.sizes (contents gave.map) o.id)
    ended_g = ended (array_runs o.sizes (contents gave.map) (fields o.sizes (contents gave.map) o.id).double_indirect) keep none zero_len few_g

    abbrev left_g : List Run
    left_g = flat_map (array_runs o.sizes (contents gave.map)) (take keep (second_arrays o.sizes (contents gave.map) o.id))

    listed_in : (k : ℕ) → Has (blocks_of o.sizes (take keep (second_arrays o.sizes (contents gave.map) o.id))) k → 0 < times k (listed_blocks o gave.map)
    listed_in k has =
        let some : 0 < times k (blocks_of o.sizes (take keep second_g)) = has in
        let e : times k (listed_blocks o gave.map) ≡ times k (blocks_of o.sizes (take keep second_g)) + times k (blocks_of o.sizes (drop keep second_g)) =
        ap (times k) (blocks_split o.sizes keep second_g) ∙ times-append k (blocks_of o.sizes (take keep second_g)) (blocks_of o.sizes (drop keep second_g)) in
        omega (arith, some, e)

    runs4 : flat_map (array_runs o.sizes (contents m4)) (second_arrays o.sizes (contents m4) o.id) ≡ left_g
    runs4 =
        ap (λ (x : List Run). flat_map (array_runs o.sizes (contents m4)) (used_runs x)) arrays4
        ∙ ap (flat_map (array_runs o.sizes (contents m4))) ended_g
        ∙ arrays_same (contents gave.map) (contents m4) o.sizes (take keep second_g) (λ k has. let some = listed_in k has in stays4 k (omega (arith, some)))

    levels4 : levels_at o.sizes (contents m4) o.id ≡ fewer_tables o.sizes (levels_at o.sizes (contents m) o.id) keep none left_g reach
    levels4 =
        let a = stream4 in
        let b = table4 in
        let c = arrays4 in
        let d = runs4 in
        let e : levels_at o.sizes (contents m4) o.id ≡ fewer_tables o.sizes (levels_at o.sizes (contents gave.map) o.id) keep none left_g reach = λ i. record { stream = a i; table = b i; arrays = c i; runs = d i } in
        e ∙ ap (λ (x : Levels). fewer_tables o.sizes x keep none left_g reach) same_levels

    left_take : left_g ≡ take n (flat_map (array_runs o.sizes (contents gave.map)) (second_arrays o.sizes (contents gave.map) o.id))
    left_take =
        let whole = all_take (IsWhole o.sizes) keep second_g own.stands.sound.arrays in
        let size = length-tables o.sizes gave.map (take keep second_g) whole in
        let count : length (take keep second_g) ≡ keep = length-take keep second_g (let f = few_g in omega (arith, f)) in
        let long : length left_g ≡ n = size ∙ ap (λ (x : ℕ). array_length o.sizes * runs_per_block o.sizes * x) count ∙ sym n_is in
        sym (take_left left_g (flat_map (array_runs o.sizes (contents gave.map)) (drop keep second_g)))
        ∙ ap (λ (x : ℕ). take x (left_g ++ flat_map (array_runs o.sizes (contents gave.map)) (drop keep second_g))) long
        ∙ ap (take n) (sym (ap (flat_map (array_runs o.sizes (contents gave.map))) (split_at keep second_g) ∙ flat_map-append (array_runs o.sizes (contents gave.map)) (take keep second_g) (drop keep second_g)))

    used_left : used_runs left_g ≡ take n (used_runs (levels_at o.sizes (contents m) o.id).runs)
    used_left = ap used_runs left_take ∙ used_take n (flat_map (array_runs o.sizes (contents gave.map)) second_g) ∙ ap (λ (x : Levels). take n (used_runs x.runs)) same_levels

    listed_left : used_runs (set (levels_at o.sizes (contents m) o.id).arrays keep none) ≡ take keep (used_runs (levels_at o.sizes (contents m) o.id).arrays)
    listed_left = ended (levels_at o.sizes (contents m) o.id).arrays keep none zero_len few

    abbrev next : Levels
    next = fewer_tables o.sizes (levels_at o.sizes (contents m) o.id) keep none left_g reach

    abbrev ws : List ℕ
    ws = o.id ∷ run_blocks o.sizes array

    ws_sum : (k : ℕ) → times k ws ≡ times k (o.id ∷ []) + times k (run_blocks o.sizes array)
    ws_sum k = times-append k (o.id ∷ []) (run_blocks o.sizes array)

    wrote4 : (k : ℕ) → times k ws ≡ 0 → m4 k ≡ gave.map k
    wrote4 k e = let sum = ws_sum k in elsewhere k (omega (arith, e, sum)) ∙ put.others k (omega (arith, e, sum))

    inside4 : (k : ℕ) → Has ws k → Has (frame_at o.sizes (contents m) o.id) k
    inside4 k has = let some : 0 < times k ws = has in let sum = ws_sum k in frame_has o v array m owns array_is k (omega (arith, some, sum))

    told4 : (k : ℕ) → Has ws k → IsSome (m4 k)
    told4 k has = by_count (times k (o.id ∷ [])) refl
      where
        by_count : (c : ℕ) → times k (o.id ∷ []) ≡ c → IsSome (m4 k)
        by_count zero e =
            let all : 0 < times k ws = has in
            let sum = ws_sum k in
            subst (λ (x : Option (List ℕ)). IsSome x) (sym (elsewhere k e)) (put.are_told k (let mine : 0 < times k (run_blocks o.sizes array) = omega (arith, all, sum, e) in mine))
        by_count (suc c) e = subst (λ (x : Option (List ℕ)). IsSome x) (sym (ap (λ (b : Bool). cond b (Some wrote.bytes) (put.map k)) (is_test k o.id c e))) refl

    rest4 : KeepsRest (contents m o.id) (contents m4 o.id)
    rest4 = rest_of (contents m4 o.id) (subst (λ (x : Option (List ℕ)). KeepsRest (unwrap_or x []) (contents m4 o.id)) inode_put (subst (λ (b : List ℕ). KeepsRest (contents put.map o.id) b) (sym here4) wrote.kept))

    double_in : (k : ℕ) → Has (run_blocks o.sizes array) k → Has (arrays_of o.sizes next) k
    unfolding arrays_of
    double_in k has =
        has_right (run_blocks o.sizes next.stream.indirect) (run_blocks o.sizes next.stream.double_indirect ++ blocks_of o.sizes (used_runs next.arrays)) k
        (has_left (run_blocks o.sizes next.stream.double_indirect) (blocks_of o.sizes (used_runs next.arrays)) k (subst (λ (r : Run). Has (run_blocks o.sizes r) k) array_is has))

    still4 : (k : ℕ) → Has ws k → Has (o.id ∷ arrays_of o.sizes next) k
    still4 k has = by_count (times k (o.id ∷ [])) refl
      where
        by_count : (c : ℕ) → times k (o.id ∷ []) ≡ c → Has (o.id ∷ arrays_of o.sizes next) k
        by_count zero e =
            let all : 0 < times k ws = has in
            let sum = ws_sum k in
            has_rest o.id (arrays_of o.sizes next) k (double_in k (let mine : 0 < times k (run_blocks o.sizes array) = omega (arith, all, sum, e) in mine))
        by_count (suc c) e = has_left (o.id ∷ []) (arrays_of o.sizes next) k (let h : 0 < times k (o.id ∷ []) = omega (arith, e) in h)

    pub tables_dropped : reach ≡ level_end (length (level_blocks o.sizes (levels_at o.sizes (contents m) o.id).stream.direct) + length (level_blocks o.sizes (levels_at o.sizes (contents m) o.id).table)) (length (blocks_of o.sizes (take n (used_runs (levels_at o.sizes (contents m) o.id).runs))))
        → natural (fields o.sizes (contents m) o.id).size ≤ o.sizes.block_size * (length (places_at o.sizes (contents m) o.id) - length (blocks_of o.sizes (drop n (used_runs (levels_at o.sizes (contents m) o.id).runs))))
        → (old new : ℕ → Bool) → HasWritten (IsBitBlockOf v hand) old new (o.id ∷ run_blocks o.sizes array)
        → (t : Trimmed o v now m (blocks_of o.sizes (drop n (used_runs (levels_at o.sizes (contents m) o.id).runs))) told2 old new) × (t.touched ≡ o.id ∷ run_blocks o.sizes array)
        × (levels_at o.sizes (contents t.map) o.id ≡ fewer_tables o.sizes (levels_at o.sizes (contents m) o.id) keep none left_g reach)
    unfolding level_blocks
    tables_dropped reach_is size old new changes =
        let gone : List ℕ = blocks_of o.sizes (drop n (used_runs (levels_at o.sizes (contents m) o.id).runs)) in
        let places = tables_places o.sizes l keep n reach none left_g owns.stands.sound listed_left used_left in
        let long : length (places_at o.sizes (contents m) o.id) ≡ length (places_of o.sizes next) + length gone = ap length places ∙ length-append (places_of o.sizes next) gone in
        let left_long : length (places_at o.sizes (contents m) o.id) - length gone ≡ length (places_of o.sizes next) = omega (arith, long) in
        dropped o v now hand m m4 told0 told2 ws owns gave rest wrote.is wrote4 inside4 next levels4
        (tables_sound o.sizes l keep n reach none left_g owns.stands.sound listed_left used_left
        (reach_is ∙ ap (λ (x : List Run). level_end (length (level_blocks o.sizes l.stream.direct) + length (level_blocks o.sizes l.table)) (length (blocks_of o.sizes x))) (sym used_left))
        (subst (λ (x : ℕ). natural (fields o.sizes (contents m) o.id).size ≤ o.sizes.block_size * x) left_long size))
        told4 rest4 gone (blocks_of o.sizes (drop keep (second_arrays o.sizes (contents m) o.id))) hand_is places (tables_arrays o.sizes l keep n reach none left_g owns.stands.sound listed_left used_left) still4 old new changes
