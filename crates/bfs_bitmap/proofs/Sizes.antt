-- The sizes of a valid superblock.
use Rattle.std.proofs.Common.{◌≡◌, ◌≤◌, ◌<◌, ◌^◌, ℕ, ℤ, pos, negsuc, List, [], sym, ap, ◌∙◌, subst, min, arith, lit<}
use Rattle.std.proofs.lemmas.Int.{ints}
use Rattle.std.specs.Prelude.{◌≤ℤ◌}
use Rattle.std.proofs.Math.Nat.{pow-le-pow_right, one-le-pow}
use Rattle.bfs_super.specs.declared.sup.Super.{Super}
use Rattle.bfs_super.specs.Conditions.{IsValid, natural}
use Rattle.bfs_bitmap.specs.declared.given.Given.{Given}
use Rattle.bfs_bitmap.specs.declared.tally.Tally.{Tally}
use Rattle.bfs_bitmap.specs.Tallies.{IsWithin, first_tally}
use Rattle.bfs_bitmap.specs.Runs.{HasSizes}
use Rattle.bfs_bitmap.proofs.Settled.{first_none}

natural_le : (z : ℤ) (n : ℕ) → z ≤ℤ pos n → natural z ≤ n
natural_le (pos k) n h = omega (arith, ints)
natural_le (negsuc k) n h = omega arith

some_power : (n : ℕ) → 0 < 2 ^ n
some_power n = one-le-pow n 2 (lit< tt)

power_16 : (n : ℕ) → n ≤ 16 → 2 ^ n ≤ 65536
power_16 n h = pow-le-pow_right (lit< tt) h

power_13 : (n : ℕ) → n ≤ 13 → 2 ^ n ≤ 8192
power_13 n h = pow-le-pow_right (lit< tt) h

pub shift_16 : (s : Super) → IsValid s → natural s.ag_shift ≤ 16
shift_16 s valid = natural_le s.ag_shift 16 valid.groups.0.2

pub first_within : (used blocks : ℕ) → IsWithin blocks (first_tally (min used blocks))
first_within used blocks = record { low = omega arith; used = omega arith; wide_low = omega arith }

pub valid_sizes : (s : Super) (used : ℕ) → IsValid s → (t : Tally) → t ≡ first_tally (min used (natural s.num_blocks))
    → HasSizes (record { block_size = s.block_size; blocks = natural s.num_blocks; group_blocks = 2 ^ natural s.ag_shift; given = []; last = 0; tally = t; tally_kept = t })
valid_sizes s used valid t e = record {
  some_bytes = subst (λ (n : ℕ). 0 < n) (sym valid.block_size.2) (some_power s.block_shift);
  few_bytes = subst (λ (n : ℕ). n ≤ 8192) (sym valid.block_size.2) (power_13 s.block_shift valid.block_size.1);
  few_blocks = natural_le s.num_blocks 4194304 valid.length.1;
  some_group = some_power (natural s.ag_shift);
  few_group = power_16 (natural s.ag_shift) (shift_16 s valid);
  tally = subst (IsWithin (natural s.num_blocks)) (sym e) (first_within used (natural s.num_blocks));
  tally_kept = subst (IsWithin (natural s.num_blocks)) (sym e) (first_within used (natural s.num_blocks));
  given = λ i h. absurd (omega arith);
  closed = λ i h. absurd (omega arith);
  kept = first_none;
}

pub valid_at : (s : Super) (given : List Given) (blocks group used : ℕ) (t : Tally) → IsValid s → given ≡ [] → blocks ≡ natural s.num_blocks → group ≡ 2 ^ natural s.ag_shift → t ≡ first_tally (min used blocks)
    → HasSizes (record { block_size = s.block_size; blocks = blocks; group_blocks = group; given = given; last = 0; tally = t; tally_kept = t })
valid_at s given blocks group used t valid e f h is =
    subst (λ (l : List Given). HasSizes (record { block_size = s.block_size; blocks = blocks; group_blocks = group; given = l; last = 0; tally = t; tally_kept = t })) (sym e)
    (subst (λ (n : ℕ). HasSizes (record { block_size = s.block_size; blocks = n; group_blocks = group; given = []; last = 0; tally = t; tally_kept = t })) (sym f)
    (subst (λ (n : ℕ). HasSizes (record { block_size = s.block_size; blocks = natural s.num_blocks; group_blocks = n; given = []; last = 0; tally = t; tally_kept = t })) (sym h)
    (valid_sizes s used valid t (is ∙ ap (λ (n : ℕ). first_tally (min used n)) f))))
