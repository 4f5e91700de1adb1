-- What tests of numbers say, and which runs an array without blocks has.
use Rattle.std.proofs.Common.{◌≡◌, ◌+◌, ◌*◌, ◌∙◌, ℕ, suc, List, [], ◌∷◌, Bool, true, false, cond, Option, Some, refl, ap, arith}
use Rattle.bfs_base.specs.Lists.{times}
use Rattle.bfs_bytes.specs.declared.Run.{Run}
use Rattle.bfs_stream.specs.Sizes.{Sizes, runs_per_block}
use Rattle.bfs_stream.specs.Places.{array_runs}
use Rattle.std.specs.Prelude.{◌==◌}
use Rattle.std.proofs.lemmas.List.{nil_from_length}
use Rattle.bfs_stream.proofs.Arrays.{length-array}

pub same_map : (a b : ℕ → Option (List ℕ)) (t : Option (ℕ → Option (List ℕ))) → t ≡ Some a → t ≡ Some b → a ≡ b
same_map a b t e f = cc

pub apart_test : (k x : ℕ) → times k (x ∷ []) ≡ 0 → (k == x) ≡ false
apart_test k x e = by_test (x == k) refl e
  where
    by_test : (b : Bool) → (x == k) ≡ b → cond b 1 0 + 0 ≡ 0 → (k == x) ≡ false
    by_test true t h = absurd (omega arith)
    by_test false t h = turned t
      where
        turned : (x == k) ≡ false → (k == x) ≡ false
        turned f = grind (arith, f)

pub same_test : (x : ℕ) → (x == x) ≡ true
same_test x = grind arith

equal_test : (k x : ℕ) → (x == k) ≡ true → (k == x) ≡ true
equal_test k x e = grind (arith, e)

pub is_test : (k x n : ℕ) → times k (x ∷ []) ≡ suc n → (k == x) ≡ true
is_test k x n e = by_test (x == k) refl e
  where
    by_test : (b : Bool) → (x == k) ≡ b → cond b 1 0 + 0 ≡ suc n → (k == x) ≡ true
    by_test true t h = equal_test k x t
    by_test false t h = absurd (omega arith)

-- an array without blocks has no runs
pub no_runs_in : (s : Sizes) (blocks : ℕ → List ℕ) (array : Run) → array.len ≡ 0 → array_runs s blocks array ≡ []
no_runs_in s blocks array none =
    nil_from_length (array_runs s blocks array) (length-array s blocks array ∙ ap (λ (n : ℕ). runs_per_block s * n) none ∙ (let z : runs_per_block s * 0 ≡ 0 = omega arith in z))
