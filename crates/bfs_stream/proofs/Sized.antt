-- The sizes of a valid superblock.
use Rattle.std.proofs.Common.{◌≡◌, ◌≤◌, ◌<◌, ◌^◌, ℕ, ℤ, pos, negsuc, sym, subst, arith, lit<, inl, inr, ◌⊎◌, ap}
use Rattle.std.proofs.lemmas.Int.{ints}
use Rattle.std.specs.Prelude.{◌≤ℤ◌}
use Rattle.std.proofs.Math.Nat.{pow-le-pow_right, one-le-pow}
use Rattle.bfs_super.specs.declared.sup.Super.{Super}
use Rattle.bfs_super.specs.Conditions.{IsValid, natural}
use Rattle.bfs_super.specs.Geometry.{IsBlockSize}
use Rattle.bfs_stream.specs.Sizes.{HasSizes, sizes_of}

natural_le : (z : ℤ) (n : ℕ) → z ≤ℤ pos n → natural z ≤ n
natural_le (pos k) n h = omega (arith, ints)
natural_le (negsuc k) n h = omega arith

pub shift_16 : (s : Super) → IsValid s → natural s.ag_shift ≤ 16
shift_16 s valid = natural_le s.ag_shift 16 valid.groups.0.2

one_of_four : (k : ℕ) → 10 ≤ k → k ≤ 13 → (k ≡ 10) ⊎ ((k ≡ 11) ⊎ ((k ≡ 12) ⊎ (k ≡ 13)))
one_of_four k low high = grind arith

power_of : (k : ℕ) → (k ≡ 10) ⊎ ((k ≡ 11) ⊎ ((k ≡ 12) ⊎ (k ≡ 13))) → IsBlockSize (2 ^ k)
power_of k (inl e) = inl (ap (λ (n : ℕ). 2 ^ n) e)
power_of k (inr (inl e)) = inr (inl (ap (λ (n : ℕ). 2 ^ n) e))
power_of k (inr (inr (inl e))) = inr (inr (inl (ap (λ (n : ℕ). 2 ^ n) e)))
power_of k (inr (inr (inr e))) = inr (inr (inr (ap (λ (n : ℕ). 2 ^ n) e)))

pub valid_sizes : (s : Super) → IsValid s → HasSizes (sizes_of s)
valid_sizes s valid = record {
  block_size = subst IsBlockSize (sym valid.block_size.2) (power_of s.block_shift (one_of_four s.block_shift valid.block_size.0 valid.block_size.1));
  few_blocks = natural_le s.num_blocks 4194304 valid.length.1;
  some_group = one-le-pow (natural s.ag_shift) 2 (lit< tt);
  few_group = pow-le-pow_right (lit< tt) (shift_16 s valid);
}

pub sizes_at : (s : Super) (inode blocks group : ℕ) → IsValid s → inode < natural s.num_blocks → blocks ≡ natural s.num_blocks → group ≡ 2 ^ natural s.ag_shift
    → HasSizes (record { block_size = s.block_size; blocks = blocks; group_blocks = group }) × (inode < blocks)
sizes_at s inode blocks group valid inside e f = (
  subst (λ (n : ℕ). HasSizes (record { block_size = s.block_size; blocks = n; group_blocks = group })) (sym e)
      (subst (λ (n : ℕ). HasSizes (record { block_size = s.block_size; blocks = natural s.num_blocks; group_blocks = n })) (sym f) (valid_sizes s valid)),
  omega arith,
)
