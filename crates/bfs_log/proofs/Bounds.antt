-- How large numbers of blocks get.
use Rattle.std.proofs.Common.{◌≡◌, ◌≤◌, ◌<◌, ℕ, ◌+◌, ◌*◌, ◌^◌, ◌-◌, ◌/◌, ◌%◌, ℤ, pos, negsuc, ◌≤ℤ◌, ◌<ℤ◌, arith, sym, subst, ap, rules, to_z}
use Rattle.std.proofs.Math.Nat.{mul-le-mul_left, mod-lt, div-le_self, lt-div-mul-add, div-lt_iff_lt-mul}
use Rattle.std.proofs.Math.Pow.{pow_mono, pow_pos}
use Rattle.std.proofs.lemmas.Int.{ints}
use Rattle.std.specs.Prelude.{FitsSigned}
use Rattle.std.specs.Int.{w32}
use Rattle.bfs_super.specs.Conditions.{natural, ceil}
use Rattle.bfs_super.specs.declared.geometry.Geometry.{Geometry}
use Rattle.bfs_log.specs.Entry.{IsOfSuper}

pub power_low : (s : ℕ) → s ≤ 16 → 2 ^ s ≤ 65536
power_low s low = pow_mono {i = s} {j = 16} low

pub scaled : (n s : ℕ) → n < 2 ^ 31 → s ≤ 16 → n * 2 ^ s < 2 ^ 47
scaled n s fits low = omega (arith, power_low s low, mul-le-mul_left n (power_low s low))

pub part_low : (b p n : ℕ) → b < n → b / p < n
part_low b p n low = let part = div-le_self b p in omega (arith, part)

pub rest_low : (b p : ℕ) → 0 < p → b % p < p
rest_low b p some = mod-lt b some

pub natural_low : (z : ℤ) (n : ℕ) → z ≤ℤ pos n → natural z ≤ n
natural_low (pos m) n h = omega (arith, ints)
natural_low (negsuc m) n h = omega arith

pub pos_low : (m n : ℕ) → m ≤ n → pos m ≤ℤ pos n
pos_low m n h = omega (arith, ints)

pub pos_below : (m n : ℕ) → m < n → pos m <ℤ pos n
pos_below m n h = omega (arith, ints)

pub pos_fits : (n : ℕ) → n < 2 ^ 31 → FitsSigned w32 (pos n)
pos_fits n h = search rules

pub pos_read : (n : ℕ) → n < 2 ^ 31 → to_z w32 n ≡ pos n
pos_read n h = search rules

-- a block's group is one of the groups
pub group_low : (b n p : ℕ) → 0 < p → b < n → b / p < ceil n p
group_low b n p some low =
    let whole = lt-div-mul-add {a = n + (p - 1)} {b = p} some in
    let top : n + (p - 1) < (n + (p - 1)) / p * p + p = whole in
    (div-lt_iff_lt-mul {k = p} {x = b} {y = (n + (p - 1)) / p} some).1 (omega (arith, top))

module _ (g : Geometry) (super : IsOfSuper g) where
  pub some_size : 0 < 2 ^ g.shift
  some_size = pow_pos g.shift

  pub shift_low : g.shift ≤ 16
  shift_low = subst (λ (h : Geometry). h.shift ≤ 16) (sym super.2) (natural_low super.0.ag_shift 16 super.1.groups.0.2)

  pub size_low : 2 ^ g.shift ≤ 65536
  size_low = power_low g.shift shift_low

  pub blocks_low : g.blocks ≤ 4194304
  blocks_low = subst (λ (h : Geometry). h.blocks ≤ 4194304) (sym super.2) (natural_low super.0.num_blocks 4194304 super.1.length.1)

  pub groups_are : g.groups ≡ ceil g.blocks (2 ^ g.shift)
  groups_are = subst (λ (h : Geometry). h.groups ≡ ceil h.blocks (2 ^ h.shift)) (sym super.2) (ap natural super.1.groups.2)
