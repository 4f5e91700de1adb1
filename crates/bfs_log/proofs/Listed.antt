-- Runs of an array block, and the blocks that they name.
use Rattle.std.proofs.Common.{◌≡◌, ℕ, zero, suc, ◌+◌, ◌-◌, ◌*◌, ◌<◌, List, [], ◌∷◌, ◌++◌, length, take, drop, get_or, set, replicate, refl, sym, ◌∙◌, ap, arith, length-append, append_assoc}
use Rattle.std.specs.Prelude.{All}
use Rattle.std.proofs.lemmas.List.{take_more, set-append_right, take-append-drop, drop_more}
use Rattle.bfs_base.specs.Lists.{counted_from}
use Rattle.bfs_bytes.specs.declared.Run.{Run}
use Rattle.bfs_bytes.specs.Fields.{run_in}
use Rattle.bfs_super.specs.declared.geometry.Geometry.{Geometry}
use Rattle.bfs_log.specs.Entry.{runs_from, blocks_in, first_of, HasPlace, IsFirstBad}
use Rattle.bfs_log.specs.Found.{no_run}

pub length-runs_from : (n at : ℕ) (block : List ℕ) → length (runs_from n at block) ≡ n
length-runs_from zero at block = refl
length-runs_from (suc n) at block = ap suc (length-runs_from n (at + 8) block)

-- one run more
pub runs_more : (n at : ℕ) (block : List ℕ) → runs_from (n + 1) at block ≡ runs_from n at block ++ run_in block (at + 8 * n) ∷ []
runs_more zero at block =
    let place : at ≡ at + 8 * 0 = omega arith in
    ap (λ (k : ℕ). run_in block k ∷ []) place
runs_more (suc n) at block =
    let place : at + 8 + 8 * n ≡ at + 8 * suc n = omega arith in
    let more : suc n + 1 ≡ suc (n + 1) = omega arith in
    ap (λ (k : ℕ). runs_from k at block) more
    ∙ ap (λ (xs : List Run). run_in block at ∷ xs) (runs_more n (at + 8) block ∙ ap (λ (k : ℕ). runs_from n (at + 8) block ++ run_in block k ∷ []) place)

-- the next of the zero runs is filled
pub filled : (i at : ℕ) (block : List ℕ) (runs : List Run) → i < 127 → runs ≡ runs_from i at block ++ replicate (127 - i) no_run
    → set runs i (run_in block (at + 8 * i)) ≡ runs_from (i + 1) at block ++ replicate (127 - (i + 1)) no_run
filled i at block runs low is =
    let xs = runs_from i at block in
    let y = run_in block (at + 8 * i) in
    let m = 127 - (i + 1) in
    let rest : 127 - i ≡ suc m = omega arith in
    let here : i - i ≡ 0 = omega arith in
    ap (λ (l : List Run). set l i y) is
    ∙ set-append_right xs (replicate (127 - i) no_run) i i y (length-runs_from i at block) (omega arith)
    ∙ ap (λ (k : ℕ). xs ++ set (replicate k no_run) (i - i) y) rest
    ∙ ap (λ (k : ℕ). xs ++ set (replicate (suc m) no_run) k y) here
    ∙ sym (append_assoc xs (y ∷ []) (replicate m no_run))
    ∙ ap (λ (l : List Run). l ++ replicate m no_run) (sym (runs_more i at block))

pub length-counted : (first n : ℕ) → length (counted_from first n) ≡ n
length-counted first zero = refl
length-counted first (suc n) = ap suc (length-counted (suc first) n)

pub blocks_joined : (g : Geometry) (xs ys : List Run) → blocks_in g (xs ++ ys) ≡ blocks_in g xs ++ blocks_in g ys
blocks_joined g [] ys = refl
blocks_joined g (x ∷ xs) ys =
    ap (λ (l : List ℕ). counted_from (first_of g x) x.len ++ l) (blocks_joined g xs ys)
    ∙ sym (append_assoc (counted_from (first_of g x) x.len) (blocks_in g xs) (blocks_in g ys))

-- the blocks of one run more
pub length-blocks_more : (g : Geometry) (runs : List Run) (i : ℕ) (d : Run) → i < length runs
    → length (blocks_in g (take (i + 1) runs)) ≡ length (blocks_in g (take i runs)) + (get_or runs i d).len
length-blocks_more g runs i d low =
    ap (λ (xs : List Run). length (blocks_in g xs)) (take_more runs i d low)
    ∙ ap length (blocks_joined g (take i runs) (get_or runs i d ∷ []))
    ∙ omega (arith, length-append (blocks_in g (take i runs)) (blocks_in g (get_or runs i d ∷ [])), length-append (counted_from (first_of g (get_or runs i d)) (get_or runs i d).len) [], length-counted (first_of g (get_or runs i d)) (get_or runs i d).len)

pub first_bad : (g : Geometry) (runs : List Run) (i : ℕ) (d : Run) → i < length runs → All (HasPlace g) (take i runs) → (HasPlace g (get_or runs i d) → ⊥) → IsFirstBad g runs (get_or runs i d)
first_bad g runs i d low good bad = record {
  front = take i runs;
  back = drop (i + 1) runs;
  parts = sym (take-append-drop i runs) ∙ ap (λ (xs : List Run). take i runs ++ xs) (drop_more runs i d low);
  good = good;
  bad = bad;
}
