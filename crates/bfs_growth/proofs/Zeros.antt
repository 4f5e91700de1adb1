-- The runs of a block of zeros.
use Rattle.std.proofs.Common.{◌≡◌, ◌+◌, ◌-◌, ◌∙◌, ℕ, zero, suc, pos, List, ◌∷◌, replicate, get_or, refl, ap, ap₂, arith}
use Rattle.std.specs.Int.{w32, cast_signed}
use Rattle.std.proofs.lemmas.List.{drop-replicate}
use Rattle.byteorder.specs.Endian.{little_from}
use Rattle.bfs_bytes.specs.declared.Run.{Run}
use Rattle.bfs_bytes.specs.Fields.{run_in, signed32_at, unsigned_at}
use Rattle.bfs_inode.specs.Inode.{runs_in}

abbrev pub no_run : Run
no_run = record { group = pos 0; start = 0; len = 0 }

get_zero : (n i : ℕ) → ◌≡◌ {A = ℕ} (get_or (replicate n 0) i 0) 0
get_zero zero i = refl
get_zero (suc n) zero = refl
get_zero (suc n) (suc i) = get_zero n i

zero_from : (i n size : ℕ) → little_from i n (replicate size 0) ≡ 0
zero_from i zero size = refl
zero_from i (suc n) size = let first : get_or (replicate size 0) i 0 ≡ 0 = get_zero size i in let rest : little_from (suc i) n (replicate size 0) ≡ 0 = zero_from (suc i) n size in omega (arith, first, rest)

zero_number : (n size at : ℕ) → unsigned_at n (replicate size 0) at ≡ 0
unfolding unsigned_at
zero_number n size at = ap (little_from 0 n) (drop-replicate at size 0) ∙ zero_from 0 n (size - at)

zero_run : (size at : ℕ) → run_in (replicate size 0) at ≡ no_run
unfolding run_in signed32_at
zero_run size at =
    let group : cast_signed w32 (unsigned_at 4 (replicate size 0) at) ≡ pos 0 = ap (cast_signed w32) (zero_number 4 size at) in
    let start = zero_number 2 size (at + 4) in
    let len = zero_number 2 size (at + 6) in
    λ i. record { group = group i; start = start i; len = len i }

pub zero_runs : (n size at : ℕ) → runs_in n (replicate size 0) at ≡ replicate n no_run
unfolding runs_in
zero_runs zero size at = refl
zero_runs (suc n) size at = ap₂ (λ (r : Run) (l : List Run). r ∷ l) (zero_run size at) (zero_runs n size (at + 8))
