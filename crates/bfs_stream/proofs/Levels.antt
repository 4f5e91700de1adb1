-- The block at a place of runs that follow one another.
use Rattle.std.proofs.Common.{◌≡◌, ◌≤◌, ◌<◌, ◌+◌, ◌-◌, ℕ, zero, suc, List, [], ◌∷◌, ◌++◌, length, take, drop, get_or, Bool, true, false, cond, Some, None, refl, sym, ap, ◌∙◌, subst, arith, append_assoc}
use Rattle.std.specs.Prelude.{All, slice_get, ◌==◌}
use Rattle.std.proofs.lemmas.List.{drop_more, take_more, take_all, drop_all}
use Rattle.bfs_base.specs.Lists.{counted_from}
use Rattle.bfs_bytes.specs.declared.Run.{Run}
use Rattle.bfs_stream.specs.Sizes.{Sizes, IsInVolume, first_block}
use Rattle.bfs_stream.specs.Places.{run_blocks, blocks_of, used_runs}
use Rattle.bfs_stream.specs.Scans.{block_in}

pub get_left : {X : Type 0} (xs ys : List X) (i : ℕ) → i < length xs → slice_get (xs ++ ys) i ≡ slice_get xs i
get_left [] ys i h = absurd (omega arith)
get_left (x ∷ xs) ys zero h = refl
get_left (x ∷ xs) ys (suc i) h = get_left xs ys i (omega arith)

pub get_right : {X : Type 0} (xs ys : List X) (i : ℕ) → length xs ≤ i → slice_get (xs ++ ys) i ≡ slice_get ys (i - length xs)
get_right {X} [] ys i h = let e : i ≡ i - length {A = X} [] = omega arith in ap (slice_get ys) e
get_right (x ∷ xs) ys zero h = absurd (omega arith)
get_right (x ∷ xs) ys (suc i) h = let e : i - length xs ≡ suc i - length (x ∷ xs) = omega arith in get_right xs ys i (omega arith) ∙ ap (slice_get ys) e

pub length-counted : (first n : ℕ) → length (counted_from first n) ≡ n
length-counted first zero = refl
length-counted first (suc n) = ap suc (length-counted (suc first) n)

pub counted_get : (first n i : ℕ) → i < n → slice_get (counted_from first n) i ≡ Some (first + i)
counted_get first zero i h = absurd (omega arith)
counted_get first (suc n) zero h = let e : first ≡ first + 0 = omega arith in ap Some e
counted_get first (suc n) (suc i) h = let e : suc first + i ≡ first + suc i = omega arith in counted_get (suc first) n i (omega arith) ∙ ap Some e

-- a run that is used, and what comes behind it
module _ (s : Sizes) (r : Run) (rs : List Run) where
  pub used_more : (r.len ≡ 0 → ⊥) → used_runs (r ∷ rs) ≡ r ∷ used_runs rs
  used_more some = let e : (r.len == 0) ≡ false = grind (arith, some) in ap (λ (b : Bool). cond b [] (r ∷ used_runs rs)) e

  pub used_end : r.len ≡ 0 → used_runs (r ∷ rs) ≡ []
  used_end none = let e : (r.len == 0) ≡ true = grind (arith, none) in ap (λ (b : Bool). cond b [] (r ∷ used_runs rs)) e

  pub found_here : (i : ℕ) → i < r.len → block_in s (r ∷ rs) i ≡ Some (first_block s r + i)
  found_here i h =
      ap (λ (l : List Run). slice_get (blocks_of s l) i) (used_more (λ e. omega arith))
      ∙ get_left (run_blocks s r) (blocks_of s (used_runs rs)) i (omega (arith, length-counted (first_block s r) r.len))
      ∙ counted_get (first_block s r) r.len i h

  pub found_later : (i : ℕ) → (r.len ≡ 0 → ⊥) → r.len ≤ i → block_in s (r ∷ rs) i ≡ block_in s rs (i - r.len)
  found_later i some h =
      ap (λ (l : List Run). slice_get (blocks_of s l) i) (used_more some)
      ∙ get_right (run_blocks s r) (blocks_of s (used_runs rs)) i (omega (arith, length-counted (first_block s r) r.len))
      ∙ ap (λ (n : ℕ). slice_get (blocks_of s (used_runs rs)) (i - n)) (length-counted (first_block s r) r.len)

  pub none_here : (i : ℕ) → r.len ≡ 0 → block_in s (r ∷ rs) i ≡ None
  none_here i none = ap (λ (l : List Run). slice_get (blocks_of s l) i) (used_end none)

  pub rest_in : (P : Run → Type 0) → (r.len ≡ 0 → ⊥) → All P (used_runs (r ∷ rs)) → All P (used_runs rs)
  rest_in P some all k d h = let all' : All P (r ∷ used_runs rs) = subst (λ (l : List Run). All P l) (used_more some) all in all' (suc k) d (omega arith)

  pub first_in : (P : Run → Type 0) → (r.len ≡ 0 → ⊥) → All P (used_runs (r ∷ rs)) → P r
  first_in P some all = let all' : All P (r ∷ used_runs rs) = subst (λ (l : List Run). All P l) (used_more some) all in all' 0 r (omega arith)

-- how far a scan of runs has come
pub record IsScanned (s : Sizes) (rs : List Run) (place i left : ℕ) : Type 0 where
  pub same : (more : List Run) → block_in s (drop i rs ++ more) left ≡ block_in s (rs ++ more) place
  pub keeps : (more : List Run) → All (IsInVolume s) (used_runs (rs ++ more)) → All (IsInVolume s) (used_runs (drop i rs ++ more))
  pub used : (more : List Run) → used_runs (rs ++ more) ≡ take i rs ++ used_runs (drop i rs ++ more)

pub scanned_none : (s : Sizes) (rs : List Run) (place : ℕ) → IsScanned s rs place 0 place
scanned_none s rs place = record { same = λ more. refl; keeps = λ more h. h; used = λ more. refl }

module _ (s : Sizes) (rs : List Run) (place i left : ℕ) (r : Run) (inside : i < length rs) (is : get_or rs i r ≡ r) where
  step : drop i rs ≡ r ∷ drop (i + 1) rs
  step = drop_more rs i r inside ∙ ap (λ (x : Run). x ∷ drop (i + 1) rs) is

  -- the next run is the first of those that are left
  next_is : (more : List Run) → drop i rs ++ more ≡ r ∷ (drop (i + 1) rs ++ more)
  next_is more = ap (λ (l : List Run). l ++ more) step

  pub scanned_more : IsScanned s rs place i left → (r.len ≡ 0 → ⊥) → r.len ≤ left → IsScanned s rs place (i + 1) (left - r.len)
  scanned_more so_far some past = record {
    same = λ more. sym (found_later s r (drop (i + 1) rs ++ more) left some past) ∙ ap (λ (l : List Run). block_in s l left) (sym (next_is more)) ∙ so_far.same more;
    keeps = λ more all. rest_in s r (drop (i + 1) rs ++ more) (IsInVolume s) some (subst (λ (l : List Run). All (IsInVolume s) (used_runs l)) (next_is more) (so_far.keeps more all));
    used = λ more.
        so_far.used more
        ∙ ap (λ (l : List Run). take i rs ++ used_runs l) (next_is more)
        ∙ ap (λ (l : List Run). take i rs ++ l) (used_more s r (drop (i + 1) rs ++ more) some)
        ∙ sym (append_assoc (take i rs) (r ∷ []) (used_runs (drop (i + 1) rs ++ more)))
        ∙ ap (λ (l : List Run). l ++ used_runs (drop (i + 1) rs ++ more)) (sym (take_more rs i r inside ∙ ap (λ (x : Run). take i rs ++ x ∷ []) is));
  }

  pub scanned_found : IsScanned s rs place i left → left < r.len → (more : List Run) → block_in s (rs ++ more) place ≡ Some (first_block s r + left)
  scanned_found so_far here more =
      sym (so_far.same more) ∙ ap (λ (l : List Run). block_in s l left) (next_is more) ∙ found_here s r (drop (i + 1) rs ++ more) left here

  pub scanned_broken : IsScanned s rs place i left → ((r.len ≡ 0 → ⊥) → ¬ IsInVolume s r) → (more : List Run) → All (IsInVolume s) (used_runs (rs ++ more)) → block_in s (rs ++ more) place ≡ None
  scanned_broken so_far bad more all = by_len r.len refl
    where
      here : All (IsInVolume s) (used_runs (r ∷ (drop (i + 1) rs ++ more)))
      here = subst (λ (l : List Run). All (IsInVolume s) (used_runs l)) (next_is more) (so_far.keeps more all)

      by_len : (n : ℕ) → r.len ≡ n → block_in s (rs ++ more) place ≡ None
      by_len zero e = sym (so_far.same more) ∙ ap (λ (l : List Run). block_in s l left) (next_is more) ∙ none_here s r (drop (i + 1) rs ++ more) left e
      by_len (suc n) e = let some : r.len ≡ 0 → ⊥ = λ z. omega arith in absurd (bad some (first_in s r (drop (i + 1) rs ++ more) (IsInVolume s) some here))

pub scanned_all : (s : Sizes) (rs : List Run) (place i left : ℕ) → length rs ≤ i → IsScanned s rs place i left → (more : List Run)
    → (used_runs (rs ++ more) ≡ rs ++ used_runs more) × (block_in s (rs ++ more) place ≡ block_in s more left)
scanned_all s rs place i left past so_far more = (
  so_far.used more ∙ ap (λ (l : List Run). l ++ used_runs (drop i rs ++ more)) (take_all i rs past) ∙ ap (λ (l : List Run). rs ++ used_runs (l ++ more)) (drop_all i rs past),
  sym (so_far.same more) ∙ ap (λ (l : List Run). block_in s (l ++ more) left) (drop_all i rs past),
)
