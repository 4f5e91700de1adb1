-- The runs of an array, block by block and place by place.
use Rattle.std.proofs.Common.{◌≡◌, ◌≤◌, ◌<◌, ◌+◌, ◌-◌, ◌*◌, ◌/◌, ◌%◌, ℕ, zero, suc, List, [], ◌∷◌, ◌++◌, length, drop, get_or, Bool, true, false, cond, Option, Some, None, IfSome, unwrap_or, refl, sym, ap, ◌∙◌, subst, arith, length-append}
use Rattle.std.specs.Prelude.{All, slice_get, ◌==◌, IsSome}
use Rattle.std.specs.List.{flat_map}
use Rattle.std.proofs.lemmas.List.{drop_more, drop_all}
use Rattle.std.proofs.lemmas.Option.{slice_get-get_or, get_or_from_slice_get}
use Rattle.std.proofs.Math.Nat.{div-add-mod, mod-lt}
use Rattle.bfs_base.specs.Lists.{counted_from, times, Has}
use Rattle.bfs_bytes.specs.declared.Run.{Run}
use Rattle.bfs_bytes.specs.Fields.{run_in}
use Rattle.bfs_inode.specs.Inode.{runs_in}
use Rattle.bfs_inode.proofs.Runs.{length-runs_in, get_or-runs_in}
use Rattle.bfs_txn.specs.Told.{AreOfBlock}
use Rattle.bfs_txn.specs.Faults.{Counts, AreLater}
use Rattle.bfs_stream.specs.Sizes.{Sizes, IsInVolume, first_block, runs_per_block}
use Rattle.bfs_stream.specs.Places.{run_blocks, used_runs, array_runs}
use Rattle.bfs_stream.specs.Told.{contents}
use Rattle.bfs_stream.specs.Scans.{block_in}
use Rattle.bfs_stream.proofs.Levels.{get_left, get_right, length-counted, counted_get}

-- a number of those counted stands among them
pub has_counted : (first n k : ℕ) → first ≤ k → k < first + n → Has (counted_from first n) k
has_counted first zero k low high = absurd (omega arith)
has_counted first (suc n) k low high = by_test (first == k) refl (λ apart. has_counted (suc first) n k (after (first == k) refl apart) (omega arith))
  where
    after : (b : Bool) → (first == k) ≡ b → b ≡ false → suc first ≤ k
    after b e f = grind (arith, e, f, low)

    by_test : (b : Bool) → (first == k) ≡ b → ((first == k) ≡ false → 0 < times k (counted_from (suc first) n)) → 0 < cond b 1 0 + times k (counted_from (suc first) n)
    by_test true e rest = omega arith
    by_test false e rest = let later : 0 < times k (counted_from (suc first) n) = rest e in omega (arith, later)

-- what was read of a told block is what it holds
pub read_is : (m : ℕ → Option (List ℕ)) (told : Option (ℕ → Option (List ℕ))) (k : ℕ) (into : List ℕ) → told ≡ Some m → IsSome (m k) → AreOfBlock told k into → into ≡ contents m k
read_is m told k into is some of = by_block (m k) some (let P : Option (ℕ → Option (List ℕ)) → Type 0 = λ t. AreOfBlock t k into in subst P is of)
  where
    by_block : (o : Option (List ℕ)) → IsSome o → IfSome o (λ b. into ≡ b) → into ≡ unwrap_or o []
    by_block None h e = let bad : false ≡ true = h in cc
    by_block (Some b) h e = e

-- an element of equally long lists one after the other
pub get_flat : {X Y : Type 0} (f : X → List Y) (k : ℕ) (xs : List X) (q r : ℕ) (x : X) → All (λ y. length (f y) ≡ k) xs → r < k → slice_get xs q ≡ Some x → slice_get (flat_map f xs) (k * q + r) ≡ slice_get (f x) r
get_flat f k [] q r x all small is = let bad : None ≡ Some x = is in cc
get_flat f k (y ∷ ys) zero r x all small is =
    let here : y ≡ x = let e : Some y ≡ Some x = is in cc in
    let size : length (f y) ≡ k = all 0 y (omega arith) in
    let e : k * 0 + r ≡ r = omega arith in
    ap (slice_get (f y ++ flat_map f ys)) e ∙ get_left (f y) (flat_map f ys) r (omega arith) ∙ ap (λ z. slice_get (f z) r) here
get_flat f k (y ∷ ys) (suc q) r x all small is =
    let size : length (f y) ≡ k = all 0 y (omega arith) in
    let e : k * suc q + r - length (f y) ≡ k * q + r = omega arith in
    get_right (f y) (flat_map f ys) (k * suc q + r) (omega arith) ∙ ap (slice_get (flat_map f ys)) e
    ∙ get_flat f k ys q r x (λ i d h. all (suc i) d (omega arith)) small is

pub get_flat_at : {X Y : Type 0} (f : X → List Y) (k : ℕ) (xs : List X) (i : ℕ) (x : X) → 0 < k → All (λ y. length (f y) ≡ k) xs → slice_get xs (i / k) ≡ Some x → slice_get (flat_map f xs) i ≡ slice_get (f x) (i % k)
get_flat_at f k xs i x some all is =
    ap (slice_get (flat_map f xs)) (sym (div-add-mod i k)) ∙ get_flat f k xs (i / k) (i % k) x all (mod-lt i some) is

pub length-flat : {X Y : Type 0} (f : X → List Y) (k : ℕ) (xs : List X) → All (λ y. length (f y) ≡ k) xs → length (flat_map f xs) ≡ k * length xs
length-flat f k [] all = let e : 0 ≡ k * 0 = omega arith in e
length-flat f k (x ∷ xs) all =
    let size : length (f x) ≡ k = all 0 x (omega arith) in
    let ih : length (flat_map f xs) ≡ k * length xs = length-flat f k xs (λ i d h. all (suc i) d (omega arith)) in
    omega (arith, length-append (f x) (flat_map f xs), ih, size)

-- counts of two spans of reads
pub later_twice : (a b c : Counts) → AreLater a b → AreLater b c → AreLater a c
later_twice a b c p q = record { faults = let x = p.faults in let y = q.faults in omega arith; stops = q.stops ∙ p.stops; stop = q.stop ∙ p.stop }

module _ (s : Sizes) (blocks : ℕ → List ℕ) where
  -- the runs in a block
  abbrev pub block_runs : ℕ → List Run
  block_runs b = runs_in (runs_per_block s) (blocks b) 0

  pub runs_are : (n : ℕ) (into : List ℕ) (b : ℕ) → n ≡ runs_per_block s → into ≡ blocks b → runs_in n into 0 ≡ block_runs b
  runs_are n into b e f = ap (λ (k : ℕ). runs_in k into 0) e ∙ ap (λ l. runs_in (runs_per_block s) l 0) f

  pub array_is : (array : Run) → array_runs s blocks array ≡ flat_map block_runs (run_blocks s array)
  unfolding array_runs
  array_is array = refl

  pub length-array : (array : Run) → length (array_runs s blocks array) ≡ runs_per_block s * array.len
  length-array array =
      ap length (array_is array) ∙ length-flat block_runs (runs_per_block s) (run_blocks s array) (λ i d h. length-runs_in (runs_per_block s) (blocks (get_or (run_blocks s array) i d)) 0)
      ∙ ap (λ n. runs_per_block s * n) (length-counted (first_block s array) array.len)

  -- the run at a place of an array
  pub array_at : (array : Run) (i : ℕ) → 0 < runs_per_block s → i / runs_per_block s < array.len
      → slice_get (array_runs s blocks array) i ≡ Some (run_in (blocks (first_block s array + i / runs_per_block s)) (8 * (i % runs_per_block s)))
  array_at array i some inside =
      let b : ℕ = first_block s array + i / runs_per_block s in
      let small : i % runs_per_block s < runs_per_block s = mod-lt i some in
      let size : length (runs_in (runs_per_block s) (blocks b) 0) ≡ runs_per_block s = length-runs_in (runs_per_block s) (blocks b) 0 in
      ap (λ l. slice_get l i) (array_is array)
      ∙ get_flat_at block_runs (runs_per_block s) (run_blocks s array) i b some (λ j d h. length-runs_in (runs_per_block s) (blocks (get_or (run_blocks s array) j d)) 0) (counted_get (first_block s array) array.len (i / runs_per_block s) inside)
      ∙ slice_get-get_or (block_runs b) (i % runs_per_block s) (run_in (blocks b) (8 * (i % runs_per_block s))) (omega arith)
      ∙ ap Some (get_or-runs_in (runs_per_block s) (blocks b) 0 (i % runs_per_block s) (run_in (blocks b) (8 * (i % runs_per_block s))) small ∙ ap (run_in (blocks b)) (let e : 0 + 8 * (i % runs_per_block s) ≡ 8 * (i % runs_per_block s) = omega arith in e))

  -- how far a walk through the blocks of an array has come
  pub record IsWalked (bs : List ℕ) (place i left : ℕ) : Type 0 where
    pub same : block_in s (flat_map block_runs (drop i bs)) left ≡ block_in s (flat_map block_runs bs) place
    pub keeps : All (IsInVolume s) (used_runs (flat_map block_runs bs)) → All (IsInVolume s) (used_runs (flat_map block_runs (drop i bs)))

  pub walked_none : (bs : List ℕ) (place : ℕ) → IsWalked bs place 0 place
  walked_none bs place = record { same = refl; keeps = λ h. h }

  module _ (first n place i left : ℕ) (inside : i < n) where
    pub step_is : flat_map block_runs (drop i (counted_from first n)) ≡ block_runs (first + i) ++ flat_map block_runs (drop (i + 1) (counted_from first n))
    step_is =
        ap (flat_map block_runs)
        (drop_more (counted_from first n) i 0 (omega (arith, length-counted first n))
        ∙ ap (λ x. x ∷ drop (i + 1) (counted_from first n)) (get_or_from_slice_get (counted_from first n) i (first + i) 0 (counted_get first n i inside)))

    pub walked_more : (further : ℕ) → IsWalked (counted_from first n) place i left
        → ((more : List Run) → (used_runs (block_runs (first + i) ++ more) ≡ block_runs (first + i) ++ used_runs more) × (block_in s (block_runs (first + i) ++ more) left ≡ block_in s more further))
        → IsWalked (counted_from first n) place (i + 1) further
    walked_more further so_far scan =
        let more : List Run = flat_map block_runs (drop (i + 1) (counted_from first n)) in record {
          same = sym ((scan more).1) ∙ ap (λ l. block_in s l left) (sym step_is) ∙ so_far.same;
          keeps = λ all. right (block_runs (first + i)) (used_runs more) (subst (λ l. All (IsInVolume s) l) (ap used_runs step_is ∙ (scan more).0) (so_far.keeps all));
        }
      where
        right : (xs ys : List Run) → All (IsInVolume s) (xs ++ ys) → All (IsInVolume s) ys
        right [] ys all = all
        right (x ∷ xs) ys all = right xs ys (λ j d h. all (suc j) d (omega arith))

    pub walked_found : (block : ℕ) → IsWalked (counted_from first n) place i left → ((more : List Run) → block_in s (block_runs (first + i) ++ more) left ≡ Some block) → block_in s (flat_map block_runs (counted_from first n)) place ≡ Some block
    walked_found block so_far scan = sym so_far.same ∙ ap (λ l. block_in s l left) step_is ∙ scan (flat_map block_runs (drop (i + 1) (counted_from first n)))

    pub walked_broken : IsWalked (counted_from first n) place i left → ((more : List Run) → All (IsInVolume s) (used_runs (block_runs (first + i) ++ more)) → block_in s (block_runs (first + i) ++ more) left ≡ None)
        → All (IsInVolume s) (used_runs (flat_map block_runs (counted_from first n))) → block_in s (flat_map block_runs (counted_from first n)) place ≡ None
    walked_broken so_far scan all =
        sym so_far.same ∙ ap (λ l. block_in s l left) step_is
        ∙ scan (flat_map block_runs (drop (i + 1) (counted_from first n))) (subst (λ l. All (IsInVolume s) (used_runs l)) step_is (so_far.keeps all))

  pub walked_all : (first n place i left : ℕ) → n ≤ i → IsWalked (counted_from first n) place i left → block_in s (flat_map block_runs (counted_from first n)) place ≡ None
  walked_all first n place i left past so_far =
      sym so_far.same ∙ ap (λ l. block_in s (flat_map block_runs l) left) (drop_all i (counted_from first n) (omega (arith, length-counted first n)))
