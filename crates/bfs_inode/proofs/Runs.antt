-- Tables of runs after a write.
use Rattle.std.proofs.Common.{◌≡◌, ◌≤◌, ◌<◌, ◌+◌, ◌*◌, ◌^◌, ℕ, zero, suc, List, ◌∷◌, length, set, get_or, ap, ap₂, ◌∙◌, subst, arith, inl, inr, refl, FitsSigned}
use Rattle.std.specs.Int.{w32}
use Rattle.bfs_bytes.specs.declared.Run.{Run}
use Rattle.bfs_bytes.specs.Fields.{Puts, run_in, run_bytes}
use Rattle.bfs_bytes.proofs.Lengths.{length-run_bytes}
use Rattle.bfs_bytes.proofs.Kept.{AreApart, run-kept, run-put}
use Rattle.bfs_inode.specs.Inode.{runs_in}

pub length-runs_in : (n : ℕ) (bytes : List ℕ) (at : ℕ) → length (runs_in n bytes at) ≡ n
unfolding runs_in
length-runs_in zero bytes at = refl
length-runs_in (suc n) bytes at = let rest = length-runs_in n bytes (at + 8) in omega (arith, rest)

-- the run at a place of a table
pub get_or-runs_in : (n : ℕ) (bytes : List ℕ) (at i : ℕ) (other : Run) → i < n → get_or (runs_in n bytes at) i other ≡ run_in bytes (at + 8 * i)
unfolding runs_in
get_or-runs_in zero bytes at i other inside = absurd (omega arith)
get_or-runs_in (suc n) bytes at zero other inside = let e : at ≡ at + 8 * 0 = omega arith in ap (run_in bytes) e
get_or-runs_in (suc n) bytes at (suc i) other inside =
    let e : at + 8 + 8 * i ≡ at + 8 * suc i = omega arith in
    get_or-runs_in n bytes (at + 8) i other (omega arith) ∙ ap (run_in bytes) e

module _ (at : ℕ) (field old new : List ℕ) (puts : Puts at field old new) (fits : at + length field ≤ length old) where
  -- a table at another place
  pub runs-kept : (n a : ℕ) → AreApart a (8 * n) at (length field) → runs_in n new a ≡ runs_in n old a
  unfolding runs_in
  runs-kept zero a apart = refl
  runs-kept (suc n) a apart =
      ap₂ (λ (r : Run) (l : List Run). r ∷ l) (run-kept at field old new puts fits a (first apart)) (runs-kept n (a + 8) (rest apart))
    where
      first : AreApart a (8 * suc n) at (length field) → AreApart a 8 at (length field)
      first (inl before) = inl (omega arith)
      first (inr behind) = inr (omega arith)

      rest : AreApart a (8 * suc n) at (length field) → AreApart (a + 8) (8 * n) at (length field)
      rest (inl before) = inl (omega arith)
      rest (inr behind) = inr (omega arith)

-- a run that was written into a table
pub runs-put : (old new : List ℕ) (n a i : ℕ) (run : Run) → Puts (a + 8 * i) (run_bytes run) old new → a + 8 * n ≤ length old → i < n
    → FitsSigned w32 run.group → run.start < 2 ^ 16 → run.len < 2 ^ 16 → runs_in n new a ≡ set (runs_in n old a) i run
unfolding runs_in
runs-put old new zero a i run puts fits inside range start_range len_range = absurd (omega arith)
runs-put old new (suc n) a zero run puts fits inside range start_range len_range =
    let e : a + 8 * 0 ≡ a = omega arith in
    let here : Puts a (run_bytes run) old new = subst (λ (k : ℕ). Puts k (run_bytes run) old new) e puts in
    let size : length (run_bytes run) ≡ 8 = length-run_bytes run in
    ap₂ (λ (r : Run) (l : List Run). r ∷ l) (run-put a old new run here (omega arith) range start_range len_range)
    (runs-kept a (run_bytes run) old new here (omega arith) n (a + 8) (inr (omega arith)))
runs-put old new (suc n) a (suc i) run puts fits inside range start_range len_range =
    let e : a + 8 * suc i ≡ a + 8 + 8 * i = omega arith in
    let size : length (run_bytes run) ≡ 8 = length-run_bytes run in
    ap₂ (λ (r : Run) (l : List Run). r ∷ l) (run-kept (a + 8 * suc i) (run_bytes run) old new puts (omega arith) a (inl (omega arith)))
    (runs-put old new n (a + 8) i run (subst (λ (k : ℕ). Puts k (run_bytes run) old new) e puts) (omega arith) (omega arith) range start_range len_range)
