-- Runs that all lie before a place.
use Rattle.std.proofs.Common.{◌≡◌, ◌≤◌, ◌<◌, ◌+◌, ◌-◌, ◌*◌, ℕ, ◌⊎◌, zero, suc, List, [], ◌∷◌, ◌++◌, length, take, drop, get_or, Some, refl, sym, ap, ◌∙◌, subst, arith, length-append, append_assoc}
use Rattle.std.specs.Prelude.{All, slice_get}
use Rattle.std.proofs.lemmas.Grind.{flat_map-append}
use Rattle.std.proofs.lemmas.List.{take_more, append-nil, take-append-drop}
use Rattle.bfs_bytes.specs.Fields.{run_in}
use Rattle.bfs_inode.specs.Inode.{runs_in}
use Rattle.bfs_inode.proofs.Runs.{length-runs_in, get_or-runs_in}
use Rattle.std.proofs.lemmas.Option.{slice_get-get_or}
use Rattle.bfs_bytes.specs.declared.Run.{Run}
use Rattle.bfs_stream.specs.Sizes.{Sizes, IsInVolume, first_block}
use Rattle.bfs_stream.specs.Places.{run_blocks, blocks_of, used_runs}
use Rattle.bfs_stream.specs.Scans.{IsPast, IsStop, IsShort, IsBroken, AreFour}
use Rattle.bfs_stream.proofs.Levels.{used_more, used_end, length-counted, get_right, IsScanned}

same_tail : {X : Type 0} (x y : X) (xs ys : List X) → x ∷ xs ≡ y ∷ ys → xs ≡ ys
same_tail x y xs ys e = cc

-- what comes behind runs that have blocks
pub used_join : (s : Sizes) (xs ys : List Run) → used_runs xs ≡ xs → used_runs (xs ++ ys) ≡ xs ++ used_runs ys
used_join s [] ys e = refl
used_join s (x ∷ xs) ys e = by_len x.len refl (used_join s xs ys)
  where
    by_len : (n : ℕ) → x.len ≡ n → (used_runs xs ≡ xs → used_runs (xs ++ ys) ≡ xs ++ used_runs ys) → used_runs (x ∷ (xs ++ ys)) ≡ x ∷ (xs ++ used_runs ys)
    by_len zero z rest = let bad : [] ≡ x ∷ xs = sym (used_end s x xs z) ∙ e in cc
    by_len (suc n) z rest =
        let some : x.len ≡ 0 → ⊥ = λ none. omega arith in
        let tail : used_runs xs ≡ xs = same_tail x x (used_runs xs) xs (sym (used_more s x xs some) ∙ e) in
        used_more s x (xs ++ ys) some ∙ ap (λ (l : List Run). x ∷ l) (rest tail)

length-one : (s : Sizes) (r : Run) → length (blocks_of s (r ∷ [])) ≡ r.len
length-one s r = ap length (append-nil (run_blocks s r)) ∙ length-counted (first_block s r) r.len

pub length-join : (s : Sizes) (xs ys : List Run) → length (blocks_of s (xs ++ ys)) ≡ length (blocks_of s xs) + length (blocks_of s ys)
length-join s xs ys = ap length (flat_map-append (run_blocks s) xs ys) ∙ length-append (blocks_of s xs) (blocks_of s ys)

pub past_none : (s : Sizes) (place : ℕ) → IsPast s [] place place
past_none s place = record { used = refl; behind = let e : length {A = ℕ} [] + place ≡ place = omega arith in e }

-- runs behind others, for what these leave to go
pub past_join : (s : Sizes) (xs ys : List Run) (place left further : ℕ) → IsPast s xs place left → IsPast s ys left further → IsPast s (xs ++ ys) place further
past_join s xs ys place left further a b = record {
  used = used_join s xs ys a.used ∙ ap (λ (l : List Run). xs ++ l) b.used;
  behind = let x = a.behind in let y = b.behind in let z = length-join s xs ys in omega (arith, x, y, z);
}

past_one : (s : Sizes) (r : Run) (left : ℕ) → (r.len ≡ 0 → ⊥) → r.len ≤ left → IsPast s (r ∷ []) left (left - r.len)
past_one s r left some past = record { used = used_more s r [] some; behind = let e = length-one s r in omega (arith, e, past) }

-- one run on
pub past_more : (s : Sizes) (rs : List Run) (i place left : ℕ) (r : Run) → i < length rs → get_or rs i r ≡ r → IsPast s (take i rs) place left → (r.len ≡ 0 → ⊥) → r.len ≤ left → IsPast s (take (i + 1) rs) place (left - r.len)
past_more s rs i place left r inside is past some less =
    subst (λ (l : List Run). IsPast s l place (left - r.len)) (sym (take_more rs i r inside ∙ ap (λ (x : Run). take i rs ++ x ∷ []) is))
    (past_join s (take i rs) (r ∷ []) place left (left - r.len) past (past_one s r left some less))

-- four runs on
module _ (s : Sizes) (runs : ℕ) (bytes : List ℕ) (at place : ℕ) where
  abbrev len_of : ℕ → ℕ
  len_of j = (run_in bytes (at + 8 * j)).len

  one_on : (j left : ℕ) → j < runs → IsPast s (take j (runs_in runs bytes at)) place left → 0 < len_of j → len_of j ≤ left → IsPast s (take (j + 1) (runs_in runs bytes at)) place (left - len_of j)
  one_on j left inside past some less =
      let size = length-runs_in runs bytes at in
      past_more s (runs_in runs bytes at) j place left (run_in bytes (at + 8 * j)) (omega (arith, inside, size)) (get_or-runs_in runs bytes at j (run_in bytes (at + 8 * j)) inside) past (λ e. omega (arith, e, some)) less

  pub past_four : (i left n : ℕ) → i + 4 ≤ runs → AreFour bytes (at + 8 * i) n → IsPast s (take i (runs_in runs bytes at)) place left → n ≤ left → IsPast s (take (i + 4) (runs_in runs bytes at)) place (left - n)
  past_four i left n inside four past fits =
      let e2 : at + 8 * i + 8 ≡ at + 8 * (i + 1) = omega arith in
      let e3 : at + 8 * i + 16 ≡ at + 8 * (i + 1 + 1) = omega arith in
      let e4 : at + 8 * i + 24 ≡ at + 8 * (i + 1 + 1 + 1) = omega arith in
      let second = ap (λ (k : ℕ). (run_in bytes k).len) e2 in
      let third = ap (λ (k : ℕ). (run_in bytes k).len) e3 in
      let fourth = ap (λ (k : ℕ). (run_in bytes k).len) e4 in
      let all = four.all in
      let some2 = four.second in
      let some3 = four.third in
      let some4 = four.fourth in
      let p1 = one_on i left (omega (arith, inside)) past four.first (omega (arith, fits, all)) in
      let p2 = one_on (i + 1) (left - len_of i) (omega (arith, inside)) p1 (omega (arith, second, some2)) (omega (arith, fits, all, second)) in
      let p3 = one_on (i + 1 + 1) (left - len_of i - len_of (i + 1)) (omega (arith, inside)) p2 (omega (arith, third, some3)) (omega (arith, fits, all, second, third)) in
      let p4 = one_on (i + 1 + 1 + 1) (left - len_of i - len_of (i + 1) - len_of (i + 1 + 1)) (omega (arith, inside)) p3 (omega (arith, fourth, some4)) (omega (arith, fits, all, second, third, fourth)) in
      let places : i + 1 + 1 + 1 + 1 ≡ i + 4 = omega arith in
      let rest : left - len_of i - len_of (i + 1) - len_of (i + 1 + 1) - len_of (i + 1 + 1 + 1) ≡ left - n = omega (arith, all, second, third, fourth) in
      subst (λ (k : ℕ). IsPast s (take k (runs_in runs bytes at)) place (left - n)) places (subst (λ (l : ℕ). IsPast s (take (i + 1 + 1 + 1 + 1) (runs_in runs bytes at)) place l) rest p4)

all_behind : (P : Run → Type 0) (xs ys : List Run) → All P (xs ++ ys) → All P ys
all_behind P [] ys h = h
all_behind P (x ∷ xs) ys h = all_behind P xs ys (λ k d lt. h (suc k) d (omega (arith, lt)))

-- what a scan has found so far where it passed over the first runs
pub past_scanned : (s : Sizes) (rs : List Run) (place i left : ℕ) → IsPast s (take i rs) place left → IsScanned s rs place i left
past_scanned s rs place i left past =
    let front : List Run = take i rs in
    let parts : (more : List Run) → rs ++ more ≡ front ++ (drop i rs ++ more) = λ more. ap (λ (l : List Run). l ++ more) (sym (take-append-drop i rs)) ∙ append_assoc front (drop i rs) more in
    let used : (more : List Run) → used_runs (rs ++ more) ≡ front ++ used_runs (drop i rs ++ more) = λ more. ap used_runs (parts more) ∙ used_join s front (drop i rs ++ more) past.used in
    let behind = past.behind in record {
      same = λ more.
          let here : blocks_of s (used_runs (rs ++ more)) ≡ blocks_of s front ++ blocks_of s (used_runs (drop i rs ++ more)) = ap (blocks_of s) (used more) ∙ flat_map-append (run_blocks s) front (used_runs (drop i rs ++ more)) in
          let left_is : place - length (blocks_of s front) ≡ left = omega (arith, behind) in
          sym (ap (λ (l : List ℕ). slice_get l place) here ∙ get_right (blocks_of s front) (blocks_of s (used_runs (drop i rs ++ more))) place (omega (arith, behind)) ∙ ap (λ (n : ℕ). slice_get (blocks_of s (used_runs (drop i rs ++ more))) n) left_is);
      keeps = λ more all. all_behind (IsInVolume s) front (used_runs (drop i rs ++ more)) (subst (All (IsInVolume s)) (used more) all);
      used = used;
    }

-- at which run a scan stops
pub stopped : (s : Sizes) (rs : List Run) (i place left : ℕ) (r : Run) → i < length rs → get_or rs i r ≡ r → IsPast s (take i rs) place left → IsShort r ⊎ IsBroken s r left → IsStop s rs place i
stopped s rs i place left r inside is past bad = record { run = r; left = left; is = slice_get-get_or rs i r inside ∙ ap Some is; past = past; bad = bad }
