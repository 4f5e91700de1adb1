-- How many runs an array has room for at most.
use Rattle.std.proofs.Common.{◌≡◌, ◌≤◌, ◌*◌, ◌/◌, ◌⊎◌, inl, inr, ℕ, sym, subst, arith}
use Rattle.bfs_bytes.specs.declared.Run.{Run}
use Rattle.bfs_stream.specs.Sizes.{Sizes, HasSizes, IsInVolume, runs_per_block}

-- an array of a volume has few places for runs
pub few_places : (s : Sizes) (array : Run) → HasSizes s → IsInVolume s array → array.len * runs_per_block s ≤ 65536 * 1024
few_places s array sizes inside = by_size s.block_size sizes.block_size
  where
    few : array.len ≤ 65536
    few = let one = inside.one_group in let group = sizes.few_group in omega (arith, one, group)

    by_size : (n : ℕ) → (n ≡ 1024) ⊎ (n ≡ 2048) ⊎ (n ≡ 4096) ⊎ (n ≡ 8192) → array.len * (n / 8) ≤ 65536 * 1024
    by_size n (inl e) = subst (λ (k : ℕ). array.len * (k / 8) ≤ 65536 * 1024) (sym e) (let f = few in omega (arith, f))
    by_size n (inr (inl e)) = subst (λ (k : ℕ). array.len * (k / 8) ≤ 65536 * 1024) (sym e) (let f = few in omega (arith, f))
    by_size n (inr (inr (inl e))) = subst (λ (k : ℕ). array.len * (k / 8) ≤ 65536 * 1024) (sym e) (let f = few in omega (arith, f))
    by_size n (inr (inr (inr e))) = subst (λ (k : ℕ). array.len * (k / 8) ≤ 65536 * 1024) (sym e) (let f = few in omega (arith, f))
