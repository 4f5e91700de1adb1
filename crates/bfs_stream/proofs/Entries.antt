-- A run was written into a block of an array.
use Rattle.std.proofs.Common.{◌≡◌, ◌≤◌, ◌<◌, ◌+◌, ◌*◌, ◌/◌, ◌%◌, ◌∙◌, ℕ, List, [], length, set, get_or, true, false, cond, refl, sym, ap, subst, arith, ◌^◌, Bool, Option, Some, unwrap_or, FitsSigned}
use Rattle.std.specs.Prelude.{◌==◌, IsSome}
use Rattle.std.proofs.Math.Nat.{div-add-mod, mod-lt, div-lt_iff_lt-mul}
use Rattle.std.proofs.lemmas.Option.{get_or_from_slice_get}
use Rattle.bfs_base.specs.Lists.{counted_from, times, Has}
use Rattle.bfs_bytes.specs.declared.Run.{Run}
use Rattle.bfs_inode.specs.Inode.{runs_in}
use Rattle.bfs_inode.proofs.Runs.{length-runs_in, runs-put}
use Rattle.bfs_stream.specs.Sizes.{Sizes, first_block, runs_per_block}
use Rattle.bfs_stream.specs.Places.{run_blocks, array_runs}
use Rattle.bfs_stream.proofs.Levels.{length-counted, counted_get}
use Rattle.bfs_stream.proofs.Arrays.{array_is, block_runs, has_counted, read_is}
use Rattle.bfs_stream.proofs.Appends.{set_flat}
use Rattle.std.specs.Int.{w32}
use Rattle.std.specs.Option.{option_map}
use Rattle.bfs_bytes.specs.Fields.{Puts, run_bytes}
use Rattle.bfs_txn.specs.Told.{AreOfBlock, with_block}
use Rattle.bfs_stream.specs.Told.{contents, AreTold}
use Rattle.bfs_stream.specs.Grown.{HasPut}
use Rattle.bfs_stream.proofs.Equal.{same_test}

-- a run was written at a place of an array: one block of it has changed, and there one run
pub array_put : (s : Sizes) (old new : ℕ → List ℕ) (array : Run) (i : ℕ) (run : Run) → 0 < runs_per_block s → i / runs_per_block s < array.len
    → ((k : ℕ) → first_block s array ≤ k → k < first_block s array + array.len → (k ≡ first_block s array + i / runs_per_block s → ⊥) → new k ≡ old k)
    → runs_in (runs_per_block s) (new (first_block s array + i / runs_per_block s)) 0 ≡ set (runs_in (runs_per_block s) (old (first_block s array + i / runs_per_block s)) 0) (i % runs_per_block s) run
    → array_runs s new array ≡ set (array_runs s old array) i run
array_put s old new array i run some inside others here =
    array_is s new array
    ∙ set_flat (block_runs s old) (block_runs s new) (runs_per_block s) (counted_from (first_block s array) array.len) (i / runs_per_block s) (i % runs_per_block s) run
    (λ j d h. length-runs_in (runs_per_block s) (old (get_or (counted_from (first_block s array) array.len) j d)) 0) (mod-lt i some) (omega (arith, length-counted (first_block s array) array.len))
    (λ j d h apart.
    let lt : j < array.len = omega (arith, length-counted (first_block s array) array.len, h) in
    let at : get_or (counted_from (first_block s array) array.len) j d ≡ first_block s array + j = get_or_from_slice_get (counted_from (first_block s array) array.len) j (first_block s array + j) d (counted_get (first_block s array) array.len j lt) in
    ap (block_runs s new) at ∙ ap (λ l. runs_in (runs_per_block s) l 0) (others (first_block s array + j) (omega arith) (omega arith) (λ e. apart (omega arith))) ∙ ap (block_runs s old) (sym at))
    (λ d.
    let at : get_or (counted_from (first_block s array) array.len) (i / runs_per_block s) d ≡ first_block s array + i / runs_per_block s =
    get_or_from_slice_get (counted_from (first_block s array) array.len) (i / runs_per_block s) (first_block s array + i / runs_per_block s) d (counted_get (first_block s array) array.len (i / runs_per_block s) inside) in
    ap (block_runs s new) at ∙ here ∙ ap (λ k. set (block_runs s old k) (i % runs_per_block s) run) (sym at))
    ∙ ap (λ l. set l (runs_per_block s * (i / runs_per_block s) + i % runs_per_block s) run) (sym (array_is s old array))
    ∙ ap (λ n. set (array_runs s old array) n run) (div-add-mod i (runs_per_block s))

differ_test : (k x : ℕ) → (k ≡ x → ⊥) → (k == x) ≡ false
differ_test k x apart = grind (arith, apart)

equal_is : (k x : ℕ) → (k == x) ≡ true → k ≡ x
equal_is k x e = grind (arith, e)

module _ (s : Sizes) (array run : Run) (place first runs : ℕ) (m : ℕ → Option (List ℕ)) (told0 told1 told2 : Option (ℕ → Option (List ℕ))) (read written : List ℕ)
    (is : told0 ≡ Some m) (are_told : AreTold m (run_blocks s array)) (e : runs ≡ runs_per_block s) (some : 128 ≤ runs) (whole : 8 * runs ≡ s.block_size) (f : first ≡ first_block s array) (inside : place < array.len * runs_per_block s)
    (of : AreOfBlock told0 (first + place / runs) read) (long : length read ≡ s.block_size) (puts : Puts (8 * (place % runs)) (run_bytes run) read written)
    (kept : told1 ≡ told0) (set_is : told2 ≡ option_map (with_block (first + place / runs) written) told1)
    (group : FitsSigned w32 run.group) (start : run.start < 2 ^ 16) (len : run.len < 2 ^ 16) where
  k : ℕ
  k = first_block s array + place / runs_per_block s

  k_is : first + place / runs ≡ k
  unfolding k
  k_is = ap (λ (n : ℕ). first + place / n) e ∙ ap (λ (n : ℕ). n + place / runs_per_block s) f

  below : place / runs_per_block s < array.len
  below = let iff = div-lt_iff_lt-mul {k = runs_per_block s} {x = place} {y = array.len} (omega arith) in iff.1 inside

  has_k : Has (run_blocks s array) k
  unfolding k
  has_k = let b = below in has_counted (first_block s array) array.len (first_block s array + place / runs_per_block s) (omega arith) (omega (arith, b))

  map : ℕ → Option (List ℕ)
  map = with_block k written m

  told_is : told2 ≡ Some map
  unfolding map
  told_is = set_is ∙ ap (option_map (with_block (first + place / runs) written)) (kept ∙ is) ∙ ap (λ (n : ℕ). Some (with_block n written m)) k_is

  here : contents map k ≡ written
  unfolding map
  here = ap (λ (b : Bool). unwrap_or (cond b (Some written) (m k)) []) (same_test k)

  there : map k ≡ Some written
  unfolding map
  there = ap (λ (b : Bool). cond b (Some written) (m k)) (same_test k)

  before : read ≡ contents m k
  before = read_is m told0 k read is (are_told k has_k) (subst (λ (n : ℕ). AreOfBlock told0 n read) k_is of)

  elsewhere : (j : ℕ) → (j ≡ k → ⊥) → map j ≡ m j
  unfolding map
  elsewhere j apart = ap (λ (b : Bool). cond b (Some written) (m j)) (differ_test j k apart)

  runs_now : runs_in (runs_per_block s) (contents map k) 0 ≡ set (runs_in (runs_per_block s) (contents m k) 0) (place % runs_per_block s) run
  runs_now =
      let at : 8 * (place % runs) ≡ 0 + 8 * (place % runs_per_block s) = ap (λ (n : ℕ). 8 * (place % n)) e ∙ (let z : 8 * (place % runs_per_block s) ≡ 0 + 8 * (place % runs_per_block s) = omega arith in z) in
      let small : place % runs_per_block s < runs_per_block s = mod-lt place (omega arith) in
      ap (λ (l : List ℕ). runs_in (runs_per_block s) l 0) here
      ∙ runs-put read written (runs_per_block s) 0 (place % runs_per_block s) run (subst (λ (n : ℕ). Puts n (run_bytes run) read written) at puts) (omega (arith, long, whole, e)) small group start len
      ∙ ap (λ (l : List ℕ). set (runs_in (runs_per_block s) l 0) (place % runs_per_block s) run) before

  pub put_is : HasPut s array place run m told2
  unfolding k
  put_is = record {
    map = map;
    is = told_is;
    runs = array_put s (contents m) (contents map) array place run (omega arith) below (λ j low high apart. ap (λ (x : Option (List ℕ)). unwrap_or x []) (elsewhere j apart)) runs_now;
    are_told = λ j has. by_test j (j == k) refl (are_told j has);
    others = λ j none. elsewhere j (λ same. let h : 0 < times k (run_blocks s array) = has_k in let z : times k (run_blocks s array) ≡ 0 = ap (λ (n : ℕ). times n (run_blocks s array)) (sym same) ∙ none in omega (arith, h, z));
  }
    where
      by_test : (j : ℕ) (b : Bool) → (j == k) ≡ b → IsSome (m j) → IsSome (map j)
      by_test j true t h = subst (λ (x : Option (List ℕ)). IsSome x) (sym (ap map (equal_is j k t) ∙ there)) refl
      by_test j false t h = subst (λ (x : Option (List ℕ)). IsSome x) (sym (elsewhere j (λ same. let bad : false ≡ true = sym t ∙ (ap (λ (n : ℕ). n == k) same ∙ same_test k) in cc))) h
