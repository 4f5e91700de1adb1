-- A place of the double indirect level.
use Rattle.std.proofs.Common.{◌≡◌, ◌≤◌, ◌<◌, ◌+◌, ◌*◌, ◌/◌, ◌%◌, ℕ, zero, suc, List, [], ◌∷◌, ◌++◌, length, get_or, Bool, true, false, cond, Option, Some, None, sym, ap, ◌∙◌, subst, arith}
use Rattle.std.specs.Prelude.{All, slice_get, ◌==◌}
use Rattle.std.specs.List.{flat_map}
use Rattle.std.proofs.lemmas.Option.{slice_get-get_or, slice_get_within, get_or_from_slice_get}
use Rattle.std.proofs.Math.Nat.{mod-lt, div-lt_iff_lt-mul, mul_comm}
use Rattle.bfs_base.specs.Lists.{times, Has}
use Rattle.bfs_bytes.specs.declared.Run.{Run}
use Rattle.bfs_stream.specs.Sizes.{Sizes, IsWhole, first_block, runs_per_block, array_length}
use Rattle.bfs_stream.specs.Places.{run_blocks, blocks_of, used_runs, array_runs}
use Rattle.bfs_stream.specs.Told.{contents, AreTold}
use Rattle.bfs_stream.specs.Scans.{block_in, HasDouble}
use Rattle.bfs_stream.proofs.Levels.{length-counted, counted_get}
use Rattle.bfs_stream.proofs.Arrays.{get_flat_at, length-flat, length-array}

-- a run that is used stands at its place among all runs
pub used_at : (rs : List Run) (i : ℕ) (x : Run) → slice_get (used_runs rs) i ≡ Some x → slice_get rs i ≡ Some x
used_at [] i x is = is
used_at (r ∷ rs) i x is = by_len (r.len == 0) (λ j. used_at rs j x) is
  where
    by_place : (j : ℕ) → ((k : ℕ) → slice_get (used_runs rs) k ≡ Some x → slice_get rs k ≡ Some x) → slice_get (r ∷ used_runs rs) j ≡ Some x → slice_get (r ∷ rs) j ≡ Some x
    by_place zero rest e = e
    by_place (suc j) rest e = rest j e

    by_len : (b : Bool) → ((k : ℕ) → slice_get (used_runs rs) k ≡ Some x → slice_get rs k ≡ Some x) → slice_get (cond b [] (r ∷ used_runs rs)) i ≡ Some x → slice_get (r ∷ rs) i ≡ Some x
    by_len true rest e = let bad : None ≡ Some x = e in cc
    by_len false rest e = by_place i rest e

pub length-used : (rs : List Run) → length (used_runs rs) ≤ length rs
length-used [] = omega arith
length-used (r ∷ rs) = by_len (r.len == 0) (length-used rs)
  where
    by_len : (b : Bool) → length (used_runs rs) ≤ length rs → length (cond b [] (r ∷ used_runs rs)) ≤ length (r ∷ rs)
    by_len true h = omega arith
    by_len false h = omega arith

pub times-append : (k : ℕ) (xs ys : List ℕ) → times k (xs ++ ys) ≡ times k xs + times k ys
times-append k [] ys = omega arith
times-append k (x ∷ xs) ys = let ih : times k (xs ++ ys) ≡ times k xs + times k ys = times-append k xs ys in ap (λ n. cond (x == k) 1 0 + n) ih ∙ (let n : ℕ = cond (x == k) 1 0 in omega arith)

-- what stands in one of several lists stands in all of them joined
pub has_flat : {X : Type 0} (f : X → List ℕ) (xs : List X) (i : ℕ) (x : X) (k : ℕ) → slice_get xs i ≡ Some x → Has (f x) k → Has (flat_map f xs) k
has_flat f [] i x k is has = let bad : None ≡ Some x = is in cc
has_flat f (y ∷ ys) zero x k is has =
    let here : y ≡ x = let e : Some y ≡ Some x = is in cc in
    let own : 0 < times k (f y) = subst (λ z. 0 < times k (f z)) (sym here) has in
    omega (arith, times-append k (f y) (flat_map f ys), own)
has_flat f (y ∷ ys) (suc i) x k is has =
    let rest : 0 < times k (flat_map f ys) = has_flat f ys i x k is has in
    omega (arith, times-append k (f y) (flat_map f ys), rest)

-- an element of a list of which all have a property
pub all_at : {X : Type 0} (P : X → Type 0) (xs : List X) (i : ℕ) (x : X) → All P xs → slice_get xs i ≡ Some x → P x
all_at P xs i x all is = subst P (get_or_from_slice_get xs i x x is) (all i x (slice_get_within xs i x is))

-- what a lookup in the double indirect level meets
pub record IsDouble (s : Sizes) (m : ℕ → Option (List ℕ)) (array : Run) (place whole per_table : ℕ) : Type 0 where
  pub low : place / whole / per_table < per_table
  pub table : Run
  pub is_table : slice_get (array_runs s (contents m) array) (place / whole / per_table) ≡ Some table
  pub whole_table : IsWhole s table
  pub told : AreTold m (run_blocks s table)
  pub run : Run
  pub is_run : slice_get (array_runs s (contents m) table) (place / whole % per_table) ≡ Some run
  pub whole_run : IsWhole s run
  pub found : block_in s (flat_map (array_runs s (contents m)) (used_runs (array_runs s (contents m) array))) place ≡ Some (first_block s run + place % whole)

module _ (s : Sizes) (m : ℕ → Option (List ℕ)) (array : Run) (place whole per_table runs : ℕ) (is_whole : IsWhole s array) (has : HasDouble s m array place)
    (w : whole ≡ array_length s) (r : runs ≡ runs_per_block s) (p : per_table ≡ whole * runs) (some_whole : 1 ≤ whole) (some_runs : 1 ≤ runs) where
  tables : List Run
  tables = used_runs (array_runs s (contents m) array)

  raw : List Run
  raw = flat_map (array_runs s (contents m)) (used_runs (array_runs s (contents m) array))

  some_table : 1 ≤ per_table
  some_table = let e : per_table ≡ whole * runs = p in grind (arith, e, some_whole, some_runs)

  -- each run of the level has as many blocks
  long_runs : All (λ x. length (run_blocks s x) ≡ whole) (used_runs raw)
  unfolding raw
  long_runs i d h = length-counted (first_block s (get_or (used_runs raw) i d)) (get_or (used_runs raw) i d).len ∙ (has.runs i d h).long ∙ sym w

  -- and each table as many runs
  long_tables : All (λ x. length (array_runs s (contents m) x) ≡ per_table) tables
  unfolding tables
  long_tables i d h = length-array s (contents m) (get_or tables i d) ∙ ap (λ n. runs_per_block s * n) ((has.arrays i d h).long ∙ sym w) ∙ ap (λ n. n * whole) (sym r) ∙ mul_comm runs whole ∙ sym p

  in_runs : place / whole < length (used_runs raw)
  unfolding raw
  in_runs =
      let size : length (blocks_of s (used_runs raw)) ≡ whole * length (used_runs raw) = length-flat (run_blocks s) whole (used_runs raw) long_runs in
      let inside : place < length (blocks_of s (used_runs raw)) = has.inside in
      let iff = div-lt_iff_lt-mul {k = whole} {x = place} {y = length (used_runs raw)} (omega arith) in
      iff.1 (let c : whole * length (used_runs raw) ≡ length (used_runs raw) * whole = mul_comm whole (length (used_runs raw)) in omega (arith, size, inside, c))

  in_tables : place / whole / per_table < length tables
  unfolding raw tables
  in_tables =
      let size : length raw ≡ per_table * length tables = length-flat (array_runs s (contents m)) per_table tables long_tables in
      let le : length (used_runs raw) ≤ length raw = length-used raw in
      let lt : place / whole < length (used_runs raw) = in_runs in
      let iff = div-lt_iff_lt-mul {k = per_table} {x = place / whole} {y = length tables} (omega (arith, some_table)) in
      iff.1 (let c : per_table * length tables ≡ length tables * per_table = mul_comm per_table (length tables) in omega (arith, size, le, lt, c))

  pub double_at : IsDouble s m array place whole per_table
  unfolding raw tables
  double_at =
      let run : Run = get_or (used_runs raw) (place / whole) array in
      let table : Run = get_or tables (place / whole / per_table) array in
      let at_table : slice_get tables (place / whole / per_table) ≡ Some table = slice_get-get_or tables (place / whole / per_table) array in_tables in
      let at_run : slice_get (used_runs raw) (place / whole) ≡ Some run = slice_get-get_or (used_runs raw) (place / whole) array in_runs in
      let few : length tables ≤ length (array_runs s (contents m) array) = length-used (array_runs s (contents m) array) in
      let size : length (array_runs s (contents m) array) ≡ per_table = length-array s (contents m) array ∙ ap (λ n. runs_per_block s * n) (is_whole.long ∙ sym w) ∙ ap (λ n. n * whole) (sym r) ∙ mul_comm runs whole ∙ sym p in
      let below : place / whole / per_table < length tables = in_tables in
      let in_raw : slice_get raw (place / whole) ≡ Some run = used_at raw (place / whole) run at_run in
      record {
        low = omega (arith, few, size, below);
        table = table;
        is_table = used_at (array_runs s (contents m) array) (place / whole / per_table) table at_table;
        whole_table = all_at (IsWhole s) tables (place / whole / per_table) table has.arrays at_table;
        told = λ k h. has.second k (has_flat (run_blocks s) tables (place / whole / per_table) table k at_table h);
        run = run;
        is_run = sym (get_flat_at (array_runs s (contents m)) per_table tables (place / whole) table (omega (arith, some_table)) long_tables at_table) ∙ in_raw;
        whole_run = all_at (IsWhole s) (used_runs raw) (place / whole) run has.runs at_run;
        found =
            get_flat_at (run_blocks s) whole (used_runs raw) place run (omega arith) long_runs at_run
            ∙ counted_get (first_block s run) run.len (place % whole) (let e : run.len ≡ whole = (all_at (IsWhole s) (used_runs raw) (place / whole) run has.runs at_run).long ∙ sym w in let lt : place % whole < whole = mod-lt place (omega arith) in omega (arith, e, lt));
      }
