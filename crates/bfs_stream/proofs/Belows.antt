-- A run was written into one of the tables that an array lists.
use Rattle.std.proofs.Common.{◌≡◌, ◌≤◌, ◌<◌, ◌+◌, ◌*◌, ◌/◌, ◌%◌, ◌∙◌, ℕ, zero, suc, List, [], ◌∷◌, ◌++◌, length, set, get_or, Option, Some, None, unwrap_or, refl, sym, ap, subst, arith}
use Rattle.std.specs.Prelude.{All, slice_get, IsSome}
use Rattle.std.specs.List.{flat_map}
use Rattle.std.proofs.lemmas.Option.{slice_get-get_or, get_or_from_slice_get}
use Rattle.std.proofs.Math.Nat.{mul_comm, div-lt_iff_lt-mul, mod-lt, div-add-mod}
use Rattle.bfs_base.specs.Lists.{times, Has, IsOnce}
use Rattle.bfs_bytes.specs.declared.Run.{Run}
use Rattle.bfs_stream.specs.Sizes.{Sizes, IsWhole, runs_per_block, array_length}
use Rattle.bfs_stream.specs.Places.{run_blocks, blocks_of, used_runs, array_runs}
use Rattle.bfs_stream.specs.Told.{contents, AreTold}
use Rattle.bfs_stream.specs.Grown.{HasPut, HasPutBelow, HasTables, table_runs}
use Rattle.bfs_stream.proofs.Arrays.{length-array, length-flat}
use Rattle.bfs_stream.proofs.Doubles.{times-append, has_flat, used_at, all_at}
use Rattle.bfs_stream.proofs.Frames.{array_same}
use Rattle.bfs_stream.proofs.Appends.{set_flat}

-- where no number is there twice, two of the lists joined have none in common
apart_flat : (f : Run → List ℕ) (xs : List Run) (i q : ℕ) (x y : Run) (k : ℕ) → times k (flat_map f xs) ≤ 1 → (i ≡ q → ⊥) → slice_get xs i ≡ Some x → slice_get xs q ≡ Some y → Has (f x) k → times k (f y) ≡ 0
apart_flat f [] i q x y k once apart is at has = let bad : None ≡ Some x = is in cc
apart_flat f (z ∷ zs) zero zero x y k once apart is at has = absurd (apart refl)
apart_flat f (z ∷ zs) zero (suc q) x y k once apart is at has = by_count (times k (f y)) refl
  where
    here : z ≡ x
    here = let e : Some z ≡ Some x = is in cc

    by_count : (n : ℕ) → times k (f y) ≡ n → times k (f y) ≡ 0
    by_count zero e = e
    by_count (suc n) e =
        let own : 0 < times k (f z) = subst (λ r. 0 < times k (f r)) (sym here) has in
        let later : 0 < times k (flat_map f zs) = has_flat f zs q y k at (let h : 0 < times k (f y) = omega (arith, e) in h) in
        absurd (omega (arith, times-append k (f z) (flat_map f zs), own, later, once))
apart_flat f (z ∷ zs) (suc i) zero x y k once apart is at has =
    let here : z ≡ y = let e : Some z ≡ Some y = at in cc in
    let later : 0 < times k (flat_map f zs) = has_flat f zs i x k is has in
    let none : times k (f z) ≡ 0 = omega (arith, times-append k (f z) (flat_map f zs), later, once) in
    subst (λ r. times k (f r) ≡ 0) here none
apart_flat f (z ∷ zs) (suc i) (suc q) x y k once apart is at has =
    apart_flat f zs i q x y k (omega (arith, times-append k (f z) (flat_map f zs), once)) (λ e. apart (ap suc e)) is at has

-- each table has as many runs
pub long_tables : (s : Sizes) (m : ℕ → Option (List ℕ)) (xs : List Run) → All (IsWhole s) xs → All (λ x. length (array_runs s (contents m) x) ≡ array_length s * runs_per_block s) xs
long_tables s m xs whole i d h = length-array s (contents m) (get_or xs i d) ∙ ap (λ n. runs_per_block s * n) (whole i d h).long ∙ mul_comm (runs_per_block s) (array_length s)

pub length-tables : (s : Sizes) (m : ℕ → Option (List ℕ)) (xs : List Run) → All (IsWhole s) xs → length (flat_map (array_runs s (contents m)) xs) ≡ array_length s * runs_per_block s * length xs
length-tables s m xs whole = length-flat (array_runs s (contents m)) (array_length s * runs_per_block s) xs (long_tables s m xs whole)

-- the table that has a place
pub table_of : (s : Sizes) (m : ℕ → Option (List ℕ)) (xs : List Run) (place : ℕ) → All (IsWhole s) xs → 0 < array_length s * runs_per_block s → place < length (flat_map (array_runs s (contents m)) xs) → place / (array_length s * runs_per_block s) < length xs
table_of s m xs place whole some inside =
    let size = length-tables s m xs whole in
    let c : array_length s * runs_per_block s * length xs ≡ length xs * (array_length s * runs_per_block s) = mul_comm (array_length s * runs_per_block s) (length xs) in
    let iff = div-lt_iff_lt-mul {k = array_length s * runs_per_block s} {x = place} {y = length xs} some in
    iff.1 (omega (arith, size, inside, c))

module _ (s : Sizes) (array table run : Run) (place q r : ℕ) (m : ℕ → Option (List ℕ)) (told : Option (ℕ → Option (List ℕ))) (tables : HasTables s array m)
    (at : slice_get (used_runs (array_runs s (contents m) array)) q ≡ Some table) (small : r < array_length s * runs_per_block s) (place_is : array_length s * runs_per_block s * q + r ≡ place)
    (put : HasPut s table r run m told) where
  abbrev listed : List Run
  listed = used_runs (array_runs s (contents m) array)

  -- a block of the table is one of all tables, and none of the array
  in_all : (k : ℕ) → times k (blocks_of s listed) ≡ 0 → times k (run_blocks s table) ≡ 0
  in_all k none = by_count (times k (run_blocks s table)) refl
    where
      by_count : (n : ℕ) → times k (run_blocks s table) ≡ n → times k (run_blocks s table) ≡ 0
      by_count zero e = e
      by_count (suc n) e = let some : 0 < times k (blocks_of s listed) = has_flat (run_blocks s) listed q table k at (let h : 0 < times k (run_blocks s table) = omega (arith, e) in h) in absurd (omega (arith, some, none))

  parts : (k : ℕ) → times k (run_blocks s array) + times k (blocks_of s listed) ≤ 1
  parts k = let le : times k (run_blocks s array ++ blocks_of s listed) ≤ 1 = tables.once k in omega (arith, times-append k (run_blocks s array) (blocks_of s listed), le)

  array_apart : (k : ℕ) → Has (run_blocks s array) k → times k (run_blocks s table) ≡ 0
  array_apart k has = let some : 0 < times k (run_blocks s array) = has in let le = parts k in in_all k (omega (arith, some, le))

  listed_same : array_runs s (contents put.map) array ≡ array_runs s (contents m) array
  listed_same = array_same (contents m) (contents put.map) s array (λ k has. ap (λ (x : Option (List ℕ)). unwrap_or x []) (put.others k (array_apart k has)))

  others_same : (i : ℕ) (d : Run) → i < length listed → (i ≡ q → ⊥) → array_runs s (contents put.map) (get_or listed i d) ≡ array_runs s (contents m) (get_or listed i d)
  others_same i d h apart =
      array_same (contents m) (contents put.map) s (get_or listed i d)
      (λ k has. let le = parts k in ap (λ (x : Option (List ℕ)). unwrap_or x []) (put.others k (apart_flat (run_blocks s) listed i q (get_or listed i d) table k (omega (arith, le)) apart (slice_get-get_or listed i d h) at has)))

  here : (d : Run) → array_runs s (contents put.map) (get_or listed q d) ≡ set (array_runs s (contents m) (get_or listed q d)) r run
  here d =
      let e : get_or listed q d ≡ table = get_or_from_slice_get listed q table d at in
      ap (array_runs s (contents put.map)) e ∙ put.runs ∙ ap (λ (x : Run). set (array_runs s (contents m) x) r run) (sym e)

  module _ (inside : q < length listed) where
    runs_now : table_runs s (contents put.map) array ≡ set (table_runs s (contents m) array) place run
    runs_now =
        ap (λ (l : List Run). flat_map (array_runs s (contents put.map)) (used_runs l)) listed_same
        ∙ set_flat (array_runs s (contents m)) (array_runs s (contents put.map)) (array_length s * runs_per_block s) listed q r run (long_tables s m listed tables.arrays) small inside others_same here
        ∙ ap (λ (n : ℕ). set (flat_map (array_runs s (contents m)) listed) n run) place_is

    told_in : AreTold put.map (blocks_of s listed)
    told_in k has = by_count (times k (run_blocks s table)) refl
      where
        by_count : (n : ℕ) → times k (run_blocks s table) ≡ n → IsSome (put.map k)
        by_count zero e = subst (λ (x : Option (List ℕ)). IsSome x) (sym (put.others k e)) (tables.second k has)
        by_count (suc n) e = put.are_told k (let h : 0 < times k (run_blocks s table) = omega (arith, e) in h)

    pub put_below_is : HasPutBelow s array place run m told
    put_below_is = record {
      map = put.map;
      is = put.is;
      listed = listed_same;
      runs = runs_now;
      tables = record {
        first = λ k has. subst (λ (x : Option (List ℕ)). IsSome x) (sym (put.others k (array_apart k has))) (tables.first k has);
        second = subst (λ (l : List Run). AreTold put.map (blocks_of s (used_runs l))) (sym listed_same) told_in;
        arrays = subst (λ (l : List Run). All (IsWhole s) (used_runs l)) (sym listed_same) tables.arrays;
        once = subst (λ (l : List Run). IsOnce (run_blocks s array ++ blocks_of s (used_runs l))) (sym listed_same) tables.once;
      };
      others = λ k none. put.others k (in_all k none);
    }

-- the table of a place, and what a read of its run in the array answers
module _ (s : Sizes) (array : Run) (m : ℕ → Option (List ℕ)) (place per : ℕ) (tables : HasTables s array m) (per_is : per ≡ array_length s * runs_per_block s) (some : 0 < per) (inside : place < length (table_runs s (contents m) array)) where
  pub place_in : place / per < length (used_runs (array_runs s (contents m) array))
  place_in = subst (λ (n : ℕ). place / n < length (used_runs (array_runs s (contents m) array))) (sym per_is) (table_of s m (used_runs (array_runs s (contents m) array)) place tables.arrays (omega (arith, per_is, some)) inside)

  own : Run
  own = get_or (used_runs (array_runs s (contents m) array)) (place / per) array

  own_at : slice_get (used_runs (array_runs s (contents m) array)) (place / per) ≡ Some own
  unfolding own
  own_at = slice_get-get_or (used_runs (array_runs s (contents m) array)) (place / per) array place_in

  same_run : (t : Run) (o : Option Run) → o ≡ Some own → o ≡ Some t → own ≡ t
  same_run t o e f = cc

  pub is_table : (t : Run) → slice_get (array_runs s (contents m) array) (place / per) ≡ Some t → slice_get (used_runs (array_runs s (contents m) array)) (place / per) ≡ Some t
  is_table t is = own_at ∙ ap Some (same_run t (slice_get (array_runs s (contents m) array) (place / per)) (used_at (array_runs s (contents m) array) (place / per) own own_at) is)

  pub table_whole : (t : Run) → slice_get (array_runs s (contents m) array) (place / per) ≡ Some t → IsWhole s t
  table_whole t is = all_at (IsWhole s) (used_runs (array_runs s (contents m) array)) (place / per) t tables.arrays (is_table t is)

  pub put_in_table : (table run : Run) (told : Option (ℕ → Option (List ℕ))) → slice_get (array_runs s (contents m) array) (place / per) ≡ Some table → HasPut s table (place % per) run m told → HasPutBelow s array place run m told
  put_in_table table run told is put =
      put_below_is s array table run place (place / per) (place % per) m told tables (is_table table is)
      (subst (λ (n : ℕ). place % per < n) per_is (mod-lt place some)) (ap (λ (n : ℕ). n * (place / per) + place % per) (sym per_is) ∙ div-add-mod place per) put place_in

  pub table_in : (table : Run) → slice_get (array_runs s (contents m) array) (place / per) ≡ Some table → (k : ℕ) → Has (run_blocks s table) k → Has (blocks_of s (used_runs (array_runs s (contents m) array))) k
  table_in table is k has = has_flat (run_blocks s) (used_runs (array_runs s (contents m) array)) (place / per) table k (is_table table is) has

  pub table_told : (table : Run) → slice_get (array_runs s (contents m) array) (place / per) ≡ Some table → AreTold m (run_blocks s table)
  table_told table is k has = tables.second k (table_in table is k has)

-- as many places as the tables have
pub all_places : (s : Sizes) (array : Run) (m : ℕ → Option (List ℕ)) (listed a b : ℕ) → All (IsWhole s) (used_runs (array_runs s (contents m) array)) → a ≡ array_length s → b ≡ runs_per_block s → listed ≡ length (used_runs (array_runs s (contents m) array))
    → length (table_runs s (contents m) array) ≡ listed * (a * b)
all_places s array m listed a b arrays e f g =
    length-tables s m (used_runs (array_runs s (contents m) array)) arrays
    ∙ ap (λ (n : ℕ). array_length s * runs_per_block s * n) (sym g)
    ∙ mul_comm (array_length s * runs_per_block s) listed
    ∙ ap (λ (n : ℕ). listed * (n * runs_per_block s)) (sym e)
    ∙ ap (λ (n : ℕ). listed * (a * n)) (sym f)
