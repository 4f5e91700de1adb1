-- The last run in the table of the indirect level was shortened or ended, and what is gone of it given back.
use Rattle.std.proofs.Common.{◌≡◌, ◌≤◌, ◌<◌, ◌+◌, ◌-◌, ◌*◌, ◌∙◌, ℕ, zero, suc, pos, List, [], ◌∷◌, ◌++◌, length, take, set, Bool, false, cond, Option, Some, unwrap_or, refl, sym, ap, subst, arith, length-append}
use Rattle.std.specs.Prelude.{◌==◌, IsSome, All, slice_get}
use Rattle.bfs_base.specs.Lists.{times, Has, Agree}
use Rattle.bfs_bytes.specs.declared.Run.{Run}
use Rattle.bfs_super.specs.Conditions.{natural}
use Rattle.bfs_inode.specs.Inode.{Stream, stream_at}
use Rattle.bfs_txn.specs.Told.{with_block}
use Rattle.bfs_bitmap.specs.Runs.{Room, Fits}
use Rattle.bfs_stream.specs.Sizes.{Sizes, Origin, IsInVolume, first_block}
use Rattle.bfs_stream.specs.Places.{Levels, run_blocks, blocks_of, used_runs, array_runs, level_blocks, level_end, arrays_of, fields, second_arrays, levels_at, arrays_at, frame_at}
use Rattle.bfs_stream.specs.Told.{contents}
use Rattle.bfs_stream.specs.Grown.{Owns, HasPut, HasFields, HasWritten, KeepsRest}
use Rattle.bfs_stream.specs.Trimmed.{Gave, Trimmed, KeepsLevels}
use Rattle.bfs_stream.proofs.Levels.{length-counted}
use Rattle.bfs_stream.proofs.Doubles.{times-append, used_at, all_at}
use Rattle.bfs_stream.proofs.Frames.{has_first, has_rest, has_left, array_same, levels_table}
use Rattle.bfs_stream.proofs.Equal.{apart_test, same_test, is_test}
use Rattle.bfs_stream.proofs.Apart.{inode_apart, in_arrays, behind_in, behind_apart, inode_not_in}
use Rattle.bfs_cuts.proofs.Shorter.{split_last, used_some}
use Rattle.bfs_cuts.proofs.Shrinks.{cut_table, table_places, table_sound}
use Rattle.bfs_cuts.proofs.Cutting.{fits_before, blocks_cut}
use Rattle.bfs_stream.proofs.Writes.{IsBitBlockOf}
use Rattle.bfs_stream.proofs.Seconds.{nothing_second}

-- runs before the last used one have blocks
pub front_some : (s : Sizes) (rs front : List Run) (last : Run) → used_runs rs ≡ front ++ last ∷ [] → 0 < length front → 0 < length (blocks_of s front)
front_some s rs [] last is some = absurd (omega (arith, some))
front_some s rs (f ∷ fs) last is some =
    let first : slice_get (used_runs rs) 0 ≡ Some f = ap (λ (l : List Run). slice_get l 0) is in
    let long = used_some rs 0 f first in
    omega (arith, length-append (run_blocks s f) (blocks_of s fs), length-counted (first_block s f) f.len, long)

pub front_none : (s : Sizes) (front : List Run) → length front ≡ 0 → length (blocks_of s front) ≡ 0
front_none s [] none = refl
front_none s (f ∷ fs) none = absurd (omega (arith, none))

-- up to where a level reaches when some of its end is gone
pub end_is : (left before x keep blocks gone place : ℕ) → (0 < place → 0 < x) → (place ≡ 0 → x ≡ 0) → blocks ≡ before + (x + (keep + gone)) → (0 < place + keep → left ≡ blocks - gone) → (place + keep ≡ 0 → left ≡ 0) → left ≡ level_end before (x + keep)
end_is left before x keep blocks gone place some none total more end = by_sum (x + keep) refl
  where
    by_place : (p : ℕ) → (p ≡ 0 → x ≡ 0) → 0 < x + keep → 0 < p + keep
    by_place zero z h = let e = z refl in omega (arith, e, h)
    by_place (suc p) z h = omega arith

    no_place : (p : ℕ) → (0 < p → 0 < x) → x + keep ≡ 0 → p + keep ≡ 0
    no_place zero z e = omega (arith, e)
    no_place (suc p) z e = let h = z (omega arith) in absurd (omega (arith, h, e))

    by_sum : (n : ℕ) → x + keep ≡ n → left ≡ level_end before n
    by_sum zero e = end (no_place place some e)
    by_sum (suc n) e =
        let t : (suc n == 0) ≡ false = grind arith in
        let h : left ≡ blocks - gone = more (by_place place none (omega (arith, e))) in
        (let z : left ≡ before + suc n = omega (arith, h, total, e) in z) ∙ sym (ap (λ (b : Bool). cond b 0 (before + suc n)) t)

-- the last used run of a list, as it was found at its place
module _ (runs : List Run) (used : ℕ) (last : Run) (used_is : used ≡ length (used_runs runs)) (one : 1 ≤ used) (found : slice_get runs (used - 1) ≡ Some last) where
  split : (last : Run) × (used_runs runs ≡ take (used - 1) (used_runs runs) ++ last ∷ []) × (slice_get (used_runs runs) (used - 1) ≡ Some last)
  split = split_last (used_runs runs) (used - 1) (let e = used_is in omega (arith, e, one))

  same_run : (x y : Option Run) (a b : Run) → x ≡ Some a → x ≡ Some b → a ≡ b
  same_run x y a b e f = cc

  last_is : last ≡ split.0
  last_is = same_run (slice_get runs (used - 1)) (Some last) last split.0 found (used_at runs (used - 1) split.0 split.2)

  pub front_of : List Run
  front_of = take (used - 1) (used_runs runs)

  pub runs_split : used_runs runs ≡ front_of ++ last ∷ []
  unfolding front_of
  runs_split = split.1 ∙ ap (λ (r : Run). take (used - 1) (used_runs runs) ++ r ∷ []) (sym last_is)

  pub front_length : length front_of ≡ used - 1
  unfolding front_of
  front_length = let a : length (used_runs runs) ≡ length front_of + 1 = ap length runs_split ∙ length-append front_of (last ∷ []) in let b = used_is in omega (arith, a, b)

  pub last_long : 0 < last.len
  last_long = subst (λ (r : Run). 0 < r.len) (sym last_is) (used_some runs (used - 1) split.0 split.2)

  pub last_has : (P : Run → Type 0) → All P (used_runs runs) → P last
  last_has P all = subst P (sym last_is) (all_at P (used_runs runs) (used - 1) split.0 all split.2)

-- the used place itself has a run
pub last_found : (runs : List Run) (used : ℕ) → used ≡ length (used_runs runs) → 1 ≤ used → (run : Run) × (slice_get runs (used - 1) ≡ Some run) × (slice_get (used_runs runs) (used - 1) ≡ Some run)
last_found runs used e one = let split = split_last (used_runs runs) (used - 1) (omega (arith, e, one)) in (split.0, used_at runs (used - 1) split.0 split.2, split.2)

module _ (o : Origin) (v now : Room) (last r gone array : Run) (front : List Run) (m : ℕ → Option (List ℕ)) (told1 told2 told3 : Option (ℕ → Option (List ℕ))) (left : ℕ) (owns : Owns o v [] m)
    (array_is : array ≡ (fields o.sizes (contents m) o.id).indirect) (is : used_runs (array_runs o.sizes (contents m) (fields o.sizes (contents m) o.id).indirect) ≡ front ++ last ∷ [])
    (put : HasPut o.sizes array (length front) r m told1) where
  array_in : (k : ℕ) → Has (run_blocks o.sizes array) k → Has (arrays_at o.sizes (contents m) o.id) k
  array_in k has = in_arrays o v m owns k (subst (λ (x : Run). Has (run_blocks o.sizes x) k) array_is has)

  array_out : (k : ℕ) → times k (run_blocks o.sizes (fields o.sizes (contents m) o.id).indirect) ≡ 0 → times k (run_blocks o.sizes array) ≡ 0
  array_out k out = ap (λ (x : Run). times k (run_blocks o.sizes x)) array_is ∙ out

  inode_same : put.map o.id ≡ m o.id
  inode_same = put.others o.id (array_out o.id (inode_not_in o v m owns))

  pub inode_told : IsSome (put.map o.id)
  inode_told = subst (λ (x : Option (List ℕ)). IsSome x) (sym inode_same) (owns.stands.told o.id (has_first o.id (arrays_at o.sizes (contents m) o.id)))

  module _ (wrote : HasFields o (record (stream_at (contents put.map o.id)) { max_indirect_range = pos (o.sizes.block_size * left) }) put.map told2)
      (parts : run_blocks o.sizes last ≡ run_blocks o.sizes r ++ run_blocks o.sizes gone) (inside : 0 < r.len → IsInVolume o.sizes r) (none : (fields o.sizes (contents m) o.id).double_indirect.len ≡ 0)
      (left_is : left ≡ level_end (length (level_blocks o.sizes (fields o.sizes (contents m) o.id).direct)) (length (blocks_of o.sizes front) + r.len))
      (size : natural (fields o.sizes (contents m) o.id).size ≤ o.sizes.block_size * (length (level_blocks o.sizes (fields o.sizes (contents m) o.id).direct) + (length (blocks_of o.sizes front) + r.len))) where
    abbrev m1 : ℕ → Option (List ℕ)
    m1 = with_block o.id wrote.bytes put.map

    abbrev l : Levels
    l = levels_at o.sizes (contents m) o.id

    abbrev next : Levels
    next = cut_table o.sizes (levels_at o.sizes (contents m) o.id) front r

    abbrev ws : List ℕ
    ws = o.id ∷ run_blocks o.sizes array

    ws_sum : (k : ℕ) → times k ws ≡ times k (o.id ∷ []) + times k (run_blocks o.sizes array)
    ws_sum k = times-append k (o.id ∷ []) (run_blocks o.sizes array)

    here : contents m1 o.id ≡ wrote.bytes
    here = ap (λ (b : Bool). unwrap_or (cond b (Some wrote.bytes) (put.map o.id)) []) (same_test o.id)

    elsewhere : (k : ℕ) → times k (o.id ∷ []) ≡ 0 → m1 k ≡ put.map k
    elsewhere k e = ap (λ (b : Bool). cond b (Some wrote.bytes) (put.map k)) (apart_test k o.id e)

    made : List ℕ → ℕ → Stream
    made b n = record (stream_at b) { max_indirect_range = pos (o.sizes.block_size * n) }

    new_stream : stream_at (contents m1 o.id) ≡ next.stream
    unfolding made
    new_stream = ap stream_at here ∙ wrote.fields ∙ ap (λ (x : Option (List ℕ)). made (unwrap_or x []) left) inode_same ∙ ap (λ (n : ℕ). made (contents m o.id) n) left_is

    last_agree : Agree (contents put.map) (contents m1) (run_blocks o.sizes array)
    last_agree k has = ap (λ (x : Option (List ℕ)). unwrap_or x []) (elsewhere k (inode_apart o v m owns k (array_in k has)))

    table_now : array_runs o.sizes (contents m1) (fields o.sizes (contents m1) o.id).indirect ≡ next.table
    table_now =
        ap (λ (t : Stream). array_runs o.sizes (contents m1) t.indirect) new_stream
        ∙ ap (array_runs o.sizes (contents m1)) (sym array_is)
        ∙ array_same (contents put.map) (contents m1) o.sizes array last_agree
        ∙ put.runs
        ∙ ap (λ (x : Run). set (array_runs o.sizes (contents m) x) (length front) r) array_is

    behind_same : (k : ℕ) → Has (run_blocks o.sizes (fields o.sizes (contents m) o.id).double_indirect ++ blocks_of o.sizes (second_arrays o.sizes (contents m) o.id)) k → m1 k ≡ m k
    behind_same k has = elsewhere k (inode_apart o v m owns k (behind_in o v m owns k has)) ∙ put.others k (array_out k (behind_apart o v m owns k has))

    levels_are : levels_at o.sizes (contents m1) o.id ≡ next
    levels_are =
        levels_table (contents m) (contents m1) o.sizes o.id next.table (λ k has. ap (λ (x : Option (List ℕ)). unwrap_or x []) (behind_same k has)) (ap (λ (t : Stream). t.double_indirect) new_stream) table_now
        ∙ ap (λ (t : Stream). record (levels_at o.sizes (contents m) o.id) { stream = t; table = next.table }) new_stream

    written : (k : ℕ) → times k ws ≡ 0 → m1 k ≡ m k
    written k e =
        let sum = ws_sum k in
        let one : times k (o.id ∷ []) ≡ 0 = omega (arith, e, sum) in
        let two : times k (run_blocks o.sizes array) ≡ 0 = omega (arith, e, sum) in
        elsewhere k one ∙ put.others k two

    inside_frame : (k : ℕ) → Has ws k → Has (frame_at o.sizes (contents m) o.id) k
    inside_frame k has = by_count (times k (o.id ∷ [])) refl
      where
        by_count : (n : ℕ) → times k (o.id ∷ []) ≡ n → Has (frame_at o.sizes (contents m) o.id) k
        by_count zero e =
            let all : 0 < times k ws = has in
            let sum = ws_sum k in
            has_rest o.id (arrays_at o.sizes (contents m) o.id) k (array_in k (let own : 0 < times k (run_blocks o.sizes array) = omega (arith, all, sum, e) in own))
        by_count (suc n) e = has_left (o.id ∷ []) (arrays_at o.sizes (contents m) o.id) k (let h : 0 < times k (o.id ∷ []) = omega (arith, e) in h)

    told_ws : (k : ℕ) → Has ws k → IsSome (m1 k)
    told_ws k has = by_count (times k (o.id ∷ [])) refl
      where
        by_count : (n : ℕ) → times k (o.id ∷ []) ≡ n → IsSome (m1 k)
        by_count zero e =
            let all : 0 < times k ws = has in
            let sum = ws_sum k in
            subst (λ (x : Option (List ℕ)). IsSome x) (sym (elsewhere k e)) (put.are_told k (let own : 0 < times k (run_blocks o.sizes array) = omega (arith, all, sum, e) in own))
        by_count (suc n) e = subst (λ (x : Option (List ℕ)). IsSome x) (sym (ap (λ (b : Bool). cond b (Some wrote.bytes) (put.map k)) (is_test k o.id n e))) refl

    rest_now : KeepsRest (contents m o.id) (contents m1 o.id)
    rest_now = subst (λ (x : Option (List ℕ)). KeepsRest (unwrap_or x []) (contents m1 o.id)) inode_same (subst (λ (b : List ℕ). KeepsRest (contents put.map o.id) b) (sym here) wrote.kept)

    pub fits_now : Fits v (with_block o.id wrote.bytes put.map)
    fits_now = fits_before o v now (run_blocks o.sizes gone) m m1 told3 ws next owns written inside_frame

    arrays_stay : arrays_of o.sizes next ≡ arrays_at o.sizes (contents m) o.id
    unfolding arrays_of
    arrays_stay = refl

    next_keeps : KeepsLevels (levels_at o.sizes (contents m) o.id) next
    next_keeps = record { indirect = refl; double = refl; arrays = refl; direct = λ some. refl; table = λ some. absurd (omega (arith, some, none)) }

    pub cut : (old new : ℕ → Bool) → Gave v now (run_blocks o.sizes gone) (with_block o.id wrote.bytes put.map) told3 → now ≡ record v { given = now.given; tally = now.tally } → HasWritten (IsBitBlockOf v (run_blocks o.sizes gone)) old new (o.id ∷ run_blocks o.sizes array)
        → (t : Trimmed o v now m (run_blocks o.sizes gone) told3 old new) × KeepsLevels (levels_at o.sizes (contents m) o.id) (levels_at o.sizes (contents t.map) o.id)
    cut old new gave rest changes =
        blocks_cut o v now (run_blocks o.sizes gone) m m1 told3 ws next owns written inside_frame levels_are
        (table_sound o.sizes l front last r gone owns.stands.sound is parts inside (nothing_second o m none) none size) told_ws rest_now
        (table_places o.sizes l front last r gone owns.stands.sound is parts inside (nothing_second o m none) none size) arrays_stay next_keeps old new gave rest changes
