-- The sizes of a valid superblock, and numbers that follow from sizes.
use Rattle.std.proofs.Common.{◌≡◌, ◌≤◌, ◌<◌, ◌+◌, ◌*◌, ◌/◌, ◌^◌, ℕ, sym, subst, arith, inl, inr, ◌⊎◌, ap, ◌∙◌, refl}
use Rattle.std.specs.Prelude.{max}
use Rattle.bfs_super.specs.declared.sup.Super.{Super}
use Rattle.bfs_super.specs.Conditions.{IsValid, natural}
use Rattle.bfs_super.specs.Geometry.{IsBlockSize}
use Rattle.bfs_stream.specs.Sizes.{Sizes, HasSizes, sizes_of, array_length, runs_per_block}
use Rattle.bfs_stream.proofs.Sized.{valid_sizes}

pub sizes_of_valid : (s : Super) (blocks group : ℕ) → IsValid s → blocks ≡ natural s.num_blocks → group ≡ 2 ^ natural s.ag_shift
    → HasSizes (record { block_size = s.block_size; blocks = blocks; group_blocks = group })
sizes_of_valid s blocks group valid e f =
    subst (λ (n : ℕ). HasSizes (record { block_size = s.block_size; blocks = n; group_blocks = group })) (sym e)
    (subst (λ (n : ℕ). HasSizes (record { block_size = s.block_size; blocks = natural s.num_blocks; group_blocks = n })) (sym f) (valid_sizes s valid))

-- an array that is written has at most 1,024 runs
by_size : (n : ℕ) → IsBlockSize n → max 1 (4096 / n) * (n / 8) ≤ 1024
by_size n (inl e) = subst (λ (k : ℕ). max 1 (4096 / k) * (k / 8) ≤ 1024) (sym e) (omega arith)
by_size n (inr (inl e)) = subst (λ (k : ℕ). max 1 (4096 / k) * (k / 8) ≤ 1024) (sym e) (omega arith)
by_size n (inr (inr (inl e))) = subst (λ (k : ℕ). max 1 (4096 / k) * (k / 8) ≤ 1024) (sym e) (omega arith)
by_size n (inr (inr (inr e))) = subst (λ (k : ℕ). max 1 (4096 / k) * (k / 8) ≤ 1024) (sym e) (omega arith)

pub few_runs : (s : Sizes) → HasSizes s → array_length s * runs_per_block s ≤ 1024
few_runs s h = by_size s.block_size h.block_size
