-- An array was taken, cleared and written into the inode as that of the indirect level.
use Rattle.std.proofs.Common.{◌≡◌, ◌≤◌, ◌<◌, ◌+◌, ◌*◌, ◌∙◌, ℕ, zero, suc, List, [], ◌∷◌, ◌++◌, length, replicate, Bool, true, false, cond, Option, Some, unwrap_or, refl, sym, ap, ap₂, subst, arith}
use Rattle.std.specs.Prelude.{IsSome}
use Rattle.std.specs.List.{flat_map}
use Rattle.std.proofs.lemmas.List.{replicate-append-replicate, append-nil}
use Rattle.bfs_base.specs.Lists.{times, Has, AreSame, counted_from}
use Rattle.bfs_bytes.specs.declared.Run.{Run}
use Rattle.bfs_inode.specs.Inode.{Stream, stream_at, runs_in}
use Rattle.bfs_txn.specs.Told.{StaysChanged, with_block}
use Rattle.bfs_bitmap.specs.Runs.{Room, Fits, IsCounted, is_free}
use Rattle.bfs_stream.specs.Sizes.{Sizes, Origin, IsInVolume, runs_per_block, first_block}
use Rattle.bfs_stream.specs.Places.{Levels, run_blocks, blocks_of, used_runs, array_runs, level_blocks, arrays_of, places_of, fields, second_arrays, levels_at, arrays_at, places_at, frame_at, whole_at, HasLevels}
use Rattle.bfs_stream.specs.Told.{contents, AreTold}
use Rattle.bfs_stream.specs.Grown.{Owns, Took, Grown, HasCleared, HasFields, HasTable, HasWritten, KeepsRest}
use Rattle.bfs_stream.proofs.Levels.{length-counted}
use Rattle.bfs_stream.proofs.Arrays.{array_is}
use Rattle.bfs_stream.proofs.Doubles.{times-append}
use Rattle.bfs_stream.proofs.Frames.{has_first, has_rest, has_left, levels_table}
use Rattle.bfs_growth.proofs.Zeros.{no_run, zero_runs}
use Rattle.bfs_growth.proofs.Opens.{opened_indirect, opened_places, opened_sound}
use Rattle.bfs_stream.proofs.Equal.{same_test, apart_test, is_test, no_runs_in, same_map}
use Rattle.bfs_stream.proofs.Apart.{inode_apart, in_whole, behind_in}
use Rattle.bfs_growth.proofs.Finish.{array_entered, grown_is, few_more}
use Rattle.bfs_stream.proofs.Writes.{IsBitBlockOf}

-- an array of zeros has runs of length 0 alone
zeros_joined : (s : Sizes) (blocks : ℕ → List ℕ) (xs : List ℕ) → ((k : ℕ) → Has xs k → blocks k ≡ replicate s.block_size 0) → flat_map (λ b. runs_in (runs_per_block s) (blocks b) 0) xs ≡ replicate (runs_per_block s * length xs) no_run
zeros_joined s blocks [] zeros = let e : 0 ≡ runs_per_block s * length {A = ℕ} [] = omega arith in ap (λ n. replicate n no_run) e
zeros_joined s blocks (x ∷ xs) zeros =
    let e : runs_per_block s + runs_per_block s * length xs ≡ runs_per_block s * length (x ∷ xs) = omega arith in
    ap₂ (λ (a b : List Run). a ++ b) (ap (λ l. runs_in (runs_per_block s) l 0) (zeros x (has_first x xs)) ∙ zero_runs (runs_per_block s) s.block_size 0) (zeros_joined s blocks xs (λ k has. zeros k (has_rest x xs k has)))
    ∙ replicate-append-replicate (runs_per_block s) (runs_per_block s * length xs) no_run
    ∙ ap (λ n. replicate n no_run) e

pub array_zeros : (s : Sizes) (blocks : ℕ → List ℕ) (array : Run) → ((k : ℕ) → Has (run_blocks s array) k → blocks k ≡ replicate s.block_size 0) → array_runs s blocks array ≡ replicate (runs_per_block s * array.len) no_run
array_zeros s blocks array zeros =
    array_is s blocks array ∙ zeros_joined s blocks (run_blocks s array) zeros ∙ ap (λ n. replicate (runs_per_block s * n) no_run) (length-counted (first_block s array) array.len)

module _ (o : Origin) (v now : Room) (array : Run) (m : ℕ → Option (List ℕ)) (told1 told2 told4 : Option (ℕ → Option (List ℕ))) (owns : Owns o v [] m) (took : Took o.sizes v now array m told1) (rest : now ≡ record v { tally = now.tally })
    (cleared : HasCleared o.sizes array took.map told2) where
  -- the array's blocks are new to the stream
  pub new_apart : (k : ℕ) → Has (whole_at o.sizes (contents m) o.id) k → times k (run_blocks o.sizes array) ≡ 0
  new_apart k has = by_count (times k (run_blocks o.sizes array)) refl
    where
      by_count : (n : ℕ) → times k (run_blocks o.sizes array) ≡ n → times k (run_blocks o.sizes array) ≡ 0
      by_count zero e = e
      by_count (suc n) e =
          let f = took.were_free k (let h : 0 < times k (run_blocks o.sizes array) = omega (arith, e) in h) in
          let u = owns.taken k has in
          let bad : true ≡ false = sym f ∙ u in cc

  pub kept : (k : ℕ) → Has (whole_at o.sizes (contents m) o.id) k → cleared.map k ≡ m k
  kept k has = cleared.others k (new_apart k has) ∙ took.others k (owns.outside k has)

  inode_in : Has (whole_at o.sizes (contents m) o.id) o.id
  inode_in = has_left (frame_at o.sizes (contents m) o.id) (places_at o.sizes (contents m) o.id) o.id (has_first o.id (arrays_at o.sizes (contents m) o.id))

  pub inode_told : IsSome (cleared.map o.id)
  inode_told = subst (λ (x : Option (List ℕ)). IsSome x) (sym (kept o.id inode_in)) (owns.stands.told o.id (has_first o.id (arrays_at o.sizes (contents m) o.id)))

  module _ (wrote : HasFields o (record (stream_at (contents cleared.map o.id)) { indirect = array }) cleared.map told4) (full : length (used_runs (fields o.sizes (contents m) o.id).direct) ≡ 12) (empty : (fields o.sizes (contents m) o.id).indirect.len ≡ 0) (inside : IsInVolume o.sizes array) where
    l : Levels
    l = levels_at o.sizes (contents m) o.id

    size : ℕ
    size = runs_per_block o.sizes * array.len

    next : Levels
    unfolding size
    next = opened_indirect (levels_at o.sizes (contents m) o.id) array no_run (runs_per_block o.sizes * array.len)

    m2 : ℕ → Option (List ℕ)
    m2 = with_block o.id wrote.bytes cleared.map

    here : contents m2 o.id ≡ wrote.bytes
    unfolding m2
    here = ap (λ (b : Bool). unwrap_or (cond b (Some wrote.bytes) (cleared.map o.id)) []) (same_test o.id)

    elsewhere : (k : ℕ) → times k (o.id ∷ []) ≡ 0 → m2 k ≡ cleared.map k
    unfolding m2
    elsewhere k e = ap (λ (b : Bool). cond b (Some wrote.bytes) (cleared.map k)) (apart_test k o.id e)

    new_stream : stream_at (contents m2 o.id) ≡ record (fields o.sizes (contents m) o.id) { indirect = array }
    new_stream = ap stream_at here ∙ wrote.fields ∙ ap (λ (x : Option (List ℕ)). record (stream_at (unwrap_or x [])) { indirect = array }) (kept o.id inode_in)

    -- the inode is no block of the array
    apart_inode : (k : ℕ) → Has (run_blocks o.sizes array) k → times k (o.id ∷ []) ≡ 0
    apart_inode k has = by_count (times k (o.id ∷ [])) refl
      where
        by_count : (n : ℕ) → times k (o.id ∷ []) ≡ n → times k (o.id ∷ []) ≡ 0
        by_count zero e = e
        by_count (suc n) e =
            let mine : Has (whole_at o.sizes (contents m) o.id) k = has_left (frame_at o.sizes (contents m) o.id) (places_at o.sizes (contents m) o.id) k (has_left (o.id ∷ []) (arrays_at o.sizes (contents m) o.id) k (let h : 0 < times k (o.id ∷ []) = omega (arith, e) in h)) in
            let none = new_apart k mine in
            let some : 0 < times k (run_blocks o.sizes array) = has in
            absurd (omega (arith, none, some))

    table_now : array_runs o.sizes (contents m2) (fields o.sizes (contents m2) o.id).indirect ≡ replicate (runs_per_block o.sizes * array.len) no_run
    table_now =
        ap (λ (t : Stream). array_runs o.sizes (contents m2) t.indirect) new_stream
        ∙ array_zeros o.sizes (contents m2) array (λ k has. ap (λ (x : Option (List ℕ)). unwrap_or x []) (elsewhere k (apart_inode k has) ∙ cleared.zeros k has))

    array_kept : (k : ℕ) → Has (arrays_at o.sizes (contents m) o.id) k → m2 k ≡ m k
    array_kept k has = elsewhere k (inode_apart o v m owns k has) ∙ kept k (in_whole o v m owns k has)

    levels_are : levels_at o.sizes (contents m2) o.id ≡ next
    unfolding next
    levels_are =
        levels_table (contents m) (contents m2) o.sizes o.id (replicate (runs_per_block o.sizes * array.len) no_run) (λ k has. ap (λ (x : Option (List ℕ)). unwrap_or x []) (array_kept k (behind_in o v m owns k has)))
        (ap (λ (t : Stream). t.double_indirect) new_stream) table_now
        ∙ ap (λ (t : Stream). record (levels_at o.sizes (contents m) o.id) { stream = t; table = replicate (runs_per_block o.sizes * array.len) no_run }) new_stream

    table_none : array_runs o.sizes (contents m) (fields o.sizes (contents m) o.id).indirect ≡ []
    table_none = no_runs_in o.sizes (contents m) (fields o.sizes (contents m) o.id).indirect empty

    next_sound : HasLevels o.sizes next
    unfolding next
    next_sound = opened_sound o.sizes (levels_at o.sizes (contents m) o.id) array no_run (runs_per_block o.sizes * array.len) owns.stands.sound refl inside full table_none

    next_places : places_of o.sizes next ≡ places_at o.sizes (contents m) o.id ++ []
    unfolding next
    next_places =
        opened_places o.sizes (levels_at o.sizes (contents m) o.id) array no_run (runs_per_block o.sizes * array.len) owns.stands.sound refl inside full table_none
        ∙ sym (append-nil (places_at o.sizes (contents m) o.id))

    next_arrays : (k : ℕ) → times k (arrays_of o.sizes next) ≡ times k (run_blocks o.sizes array) + times k (arrays_at o.sizes (contents m) o.id)
    unfolding next arrays_of
    next_arrays k =
        let behind : List ℕ = run_blocks o.sizes (fields o.sizes (contents m) o.id).double_indirect ++ blocks_of o.sizes (second_arrays o.sizes (contents m) o.id) in
        let nothing : run_blocks o.sizes (fields o.sizes (contents m) o.id).indirect ≡ [] = ap (counted_from (first_block o.sizes (fields o.sizes (contents m) o.id).indirect)) empty in
        times-append k (run_blocks o.sizes array) behind ∙ ap (λ (x : List ℕ). times k (run_blocks o.sizes array) + times k (x ++ behind)) (sym nothing)

    frame_sum : (k : ℕ) → times k (o.id ∷ arrays_of o.sizes next) ≡ times k (run_blocks o.sizes array) + times k (frame_at o.sizes (contents m) o.id)
    frame_sum k =
        let a : times k (o.id ∷ arrays_of o.sizes next) ≡ times k (o.id ∷ []) + times k (arrays_of o.sizes next) = times-append k (o.id ∷ []) (arrays_of o.sizes next) in
        let b : times k (frame_at o.sizes (contents m) o.id) ≡ times k (o.id ∷ []) + times k (arrays_at o.sizes (contents m) o.id) = times-append k (o.id ∷ []) (arrays_at o.sizes (contents m) o.id) in
        let c = next_arrays k in
        omega (arith, a, b, c)

    same : AreSame ((o.id ∷ arrays_of o.sizes next) ++ places_of o.sizes next) (run_blocks o.sizes array ++ whole_at o.sizes (contents m) o.id)
    same k =
        let a : times k ((o.id ∷ arrays_of o.sizes next) ++ places_of o.sizes next) ≡ times k (o.id ∷ arrays_of o.sizes next) + times k (places_of o.sizes next) = times-append k (o.id ∷ arrays_of o.sizes next) (places_of o.sizes next) in
        let b = frame_sum k in
        let c : times k (places_of o.sizes next) ≡ times k (places_at o.sizes (contents m) o.id) = ap (times k) (next_places ∙ append-nil (places_at o.sizes (contents m) o.id)) in
        let d : times k (run_blocks o.sizes array ++ whole_at o.sizes (contents m) o.id) ≡ times k (run_blocks o.sizes array) + (times k (frame_at o.sizes (contents m) o.id) + times k (places_at o.sizes (contents m) o.id)) =
        times-append k (run_blocks o.sizes array) (whole_at o.sizes (contents m) o.id) ∙ ap (λ (n : ℕ). times k (run_blocks o.sizes array) + n) (times-append k (frame_at o.sizes (contents m) o.id) (places_at o.sizes (contents m) o.id)) in
        a ∙ (let e : times k (o.id ∷ arrays_of o.sizes next) + times k (places_of o.sizes next) ≡ times k (run_blocks o.sizes array) + (times k (frame_at o.sizes (contents m) o.id) + times k (places_at o.sizes (contents m) o.id)) = omega (arith, b, c) in e) ∙ sym d

    written : (k : ℕ) → times k (o.id ∷ run_blocks o.sizes array) ≡ 0 → m2 k ≡ took.map k
    written k e =
        let parts : times k (o.id ∷ run_blocks o.sizes array) ≡ times k (o.id ∷ []) + times k (run_blocks o.sizes array) = times-append k (o.id ∷ []) (run_blocks o.sizes array) in
        let one : times k (o.id ∷ []) ≡ 0 = omega (arith, e, parts) in
        let two : times k (run_blocks o.sizes array) ≡ 0 = omega (arith, e, parts) in
        elsewhere k one ∙ cleared.others k two

    inside_frame : (k : ℕ) → Has (o.id ∷ run_blocks o.sizes array) k → Has (o.id ∷ arrays_of o.sizes next) k
    inside_frame k has =
        let parts : times k (o.id ∷ run_blocks o.sizes array) ≡ times k (o.id ∷ []) + times k (run_blocks o.sizes array) = times-append k (o.id ∷ []) (run_blocks o.sizes array) in
        let whole : times k (frame_at o.sizes (contents m) o.id) ≡ times k (o.id ∷ []) + times k (arrays_at o.sizes (contents m) o.id) = times-append k (o.id ∷ []) (arrays_at o.sizes (contents m) o.id) in
        let all : 0 < times k (o.id ∷ run_blocks o.sizes array) = has in
        let sum = frame_sum k in
        let some : 0 < times k (o.id ∷ arrays_of o.sizes next) = omega (arith, parts, whole, all, sum) in some

    keeps : (k : ℕ) → Has (frame_at o.sizes (contents m) o.id) k → Has (o.id ∷ arrays_of o.sizes next) k
    keeps k has = let all : 0 < times k (frame_at o.sizes (contents m) o.id) = has in let sum = frame_sum k in let some : 0 < times k (o.id ∷ arrays_of o.sizes next) = omega (arith, all, sum) in some

    told_now : AreTold m2 (o.id ∷ arrays_of o.sizes next)
    unfolding m2
    told_now k has = by_inode (times k (o.id ∷ [])) refl
      where
        by_array : (n : ℕ) → times k (run_blocks o.sizes array) ≡ n → times k (o.id ∷ []) ≡ 0 → IsSome (m2 k)
        by_array zero e apart =
            let all : 0 < times k (o.id ∷ arrays_of o.sizes next) = has in
            let sum = frame_sum k in
            let whole : times k (frame_at o.sizes (contents m) o.id) ≡ times k (o.id ∷ []) + times k (arrays_at o.sizes (contents m) o.id) = times-append k (o.id ∷ []) (arrays_at o.sizes (contents m) o.id) in
            let mine : Has (arrays_at o.sizes (contents m) o.id) k = let h : 0 < times k (arrays_at o.sizes (contents m) o.id) = omega (arith, all, sum, whole, apart, e) in h in
            subst (λ (x : Option (List ℕ)). IsSome x) (sym (array_kept k mine)) (owns.stands.told k (has_rest o.id (arrays_at o.sizes (contents m) o.id) k mine))
        by_array (suc n) e apart = subst (λ (x : Option (List ℕ)). IsSome x) (sym (elsewhere k apart ∙ cleared.zeros k (let h : 0 < times k (run_blocks o.sizes array) = omega (arith, e) in h))) refl

        by_inode : (n : ℕ) → times k (o.id ∷ []) ≡ n → IsSome (m2 k)
        by_inode zero e = by_array (times k (run_blocks o.sizes array)) refl e
        by_inode (suc n) e = subst (λ (x : Option (List ℕ)). IsSome x) (sym (ap (λ (b : Bool). cond b (Some wrote.bytes) (cleared.map k)) (is_test k o.id n e))) refl

    next_few : length (level_blocks o.sizes next.runs) ≤ length (level_blocks o.sizes (levels_at o.sizes (contents m) o.id).runs) + length {A = ℕ} []
    unfolding next
    next_few = few_more (length (level_blocks o.sizes (levels_at o.sizes (contents m) o.id).runs)) (length (level_blocks o.sizes (levels_at o.sizes (contents m) o.id).runs)) (length {A = ℕ} []) refl

    rest_now : KeepsRest (contents m o.id) (contents m2 o.id)
    rest_now = subst (λ (x : Option (List ℕ)). KeepsRest (unwrap_or x []) (contents m2 o.id)) (kept o.id inode_in) (subst (λ (b : List ℕ). KeepsRest (contents cleared.map o.id) b) (sym here) wrote.kept)

    pub opened : (old new : ℕ → Bool) → HasWritten (IsBitBlockOf v (run_blocks o.sizes array)) old new (o.id ∷ run_blocks o.sizes array) → StaysChanged old new → ((k : ℕ) → Has (run_blocks o.sizes array) k → new k ≡ true) → Grown o v now m [] told4 old new
    unfolding m2
    opened old new changes stays all =
        subst (λ (x : Room). Grown o v x m [] told4 old new) (sym rest)
        (subst (λ (t : Option (ℕ → Option (List ℕ))). Grown o v (record v { tally = now.tally }) m [] t old new) (sym wrote.is)
        (grown_is o v now.tally array m took.map (with_block o.id wrote.bytes cleared.map) told1 (o.id ∷ run_blocks o.sizes array) [] next owns took.is
        (subst (λ (x : Room). Fits x took.map) rest took.fits) took.others took.first took.were_free
        (λ k. sym (ap (λ (x : Room). is_free x took.map k) rest) ∙ took.free k) took.marks (λ count. subst (λ (x : Room). IsCounted x took.map) rest (took.counted count))
        written levels_are next_sound next_places same keeps inside_frame told_now next_few rest_now old new changes stays (array_entered o m array (arrays_of o.sizes next) new frame_sum all)))

    -- the level has an array now
    pub ready : (n : ℕ → Option (List ℕ)) → told4 ≡ Some n → 0 < array.len → HasTable o n
    unfolding m2
    ready n is some =
        let now : HasTable o (with_block o.id wrote.bytes cleared.map) =
        (ap (λ (t : Stream). length (used_runs t.direct)) new_stream ∙ full, subst (λ (k : ℕ). 0 < k) (sym (ap (λ (t : Stream). t.indirect.len) new_stream)) some) in
        subst (λ (x : ℕ → Option (List ℕ)). HasTable o x) (same_map (with_block o.id wrote.bytes cleared.map) n told4 wrote.is is) now
