-- The sizes of a volume that is valid.
use Rattle.std.proofs.Common.{◌≡◌, ⊎_elim, ℕ, ℤ, pos, negsuc, ◌+◌, ◌*◌, ◌/◌, ◌^◌, ◌<◌, ◌≤◌, ◌<ℤ◌, ◌≤ℤ◌, List, length, Option, Some, None, refl, sym, ◌∙◌, ap, subst, arith}
use Rattle.std.proofs.lemmas.Int.{ints}
use Rattle.std.proofs.lemmas.Bool.{cases_eq}
use Rattle.std.proofs.Math.Nat.{mul-le-mul_left}
use Rattle.bfs_super.specs.declared.sup.Super.{Super}
use Rattle.bfs_super.specs.Conditions.{natural, IsValid}
use Rattle.bfs_log.specs.Replay.{log_from, log_to}
use Rattle.bfs_log.proofs.Bounds.{power_low}
use Rattle.bfs_disk.specs.Disk.{InRange}
use Rattle.bfs_device.specs.Layouts.{IsGood, layout_of}
use Rattle.bfs_device.specs.Calls.{HasTwo}
use Rattle.bfs_device.specs.Books.{IsOnDisk}

-- a block has at least two sectors, and 8,192 bytes at most
abbrev pub HasSize : ℕ → Type 0
HasSize n = (n ≡ 512 * (n / 512)) × (2 ≤ n / 512) × (n ≤ 8192)

four_sizes : (k n : ℕ) → 10 ≤ k → k ≤ 13 → n ≡ 2 ^ k → HasSize n
four_sizes k n low high is = ⊎_elim
    (λ e. subst HasSize (sym (is ∙ ap (λ (m : ℕ). 2 ^ m) e)) (refl, omega arith, omega arith))
    (λ a. ⊎_elim
    (λ e. subst HasSize (sym (is ∙ ap (λ (m : ℕ). 2 ^ m) e)) (refl, omega arith, omega arith))
    (λ b. ⊎_elim
    (λ e. subst HasSize (sym (is ∙ ap (λ (m : ℕ). 2 ^ m) e)) (refl, omega arith, omega arith))
    (λ d. let e : k ≡ 13 = omega (arith, a, b, d) in subst HasSize (sym (is ∙ ap (λ (m : ℕ). 2 ^ m) e)) (refl, omega arith, omega arith))
    (cases_eq k 12))
    (cases_eq k 11))
    (cases_eq k 10)

natural_below : (z : ℤ) (n : ℕ) → 0 < n → z <ℤ pos n → natural z < n
natural_below (pos m) n some h = omega (arith, ints)
natural_below (negsuc m) n some h = some

natural_up_to : (z : ℤ) (n : ℕ) → z ≤ℤ pos n → natural z ≤ n
natural_up_to (pos m) n h = omega (arith, ints)
natural_up_to (negsuc m) n h = omega arith

module _ (s : Super) (valid : IsValid s) where
  pub sizes : HasSize s.block_size
  sizes = four_sizes s.block_shift s.block_size valid.block_size.0 valid.block_size.1 valid.block_size.2

  pub good : IsGood (layout_of s)
  good = record { two = sizes.1; behind_zero = (let low = valid.log.3 in omega (arith, low)); inside = valid.log.4; ring = valid.log.2 }

  pub from_low : log_from s < s.log_blocks.len
  from_low = natural_below s.log_start s.log_blocks.len (omega (arith, valid.log.2)) valid.log_start.1

  pub to_low : log_to s < s.log_blocks.len
  to_low = natural_below s.log_end s.log_blocks.len (omega (arith, valid.log.2)) valid.log_end.1

  pub blocks_low : (layout_of s).blocks ≤ 4194304
  blocks_low = natural_up_to s.num_blocks 4194304 valid.length.1

  pub sectors_low : (layout_of s).sectors ≤ 16
  sectors_low = omega (arith, sizes.1, sizes.2)

  pub place_small : (b : ℕ) → b < (layout_of s).blocks → (layout_of s).sectors * b ≤ 67108864
  place_small b lt = let le : b * (layout_of s).sectors ≤ b * 16 = mul-le-mul_left b sectors_low in omega (arith, le, lt, blocks_low)

  pub volume_small : (layout_of s).sectors * (layout_of s).blocks ≤ 67108864
  volume_small = let le : (layout_of s).blocks * (layout_of s).sectors ≤ (layout_of s).blocks * 16 = mul-le-mul_left (layout_of s).blocks sectors_low in omega (arith, le, blocks_low)

  pub ring_low : s.log_blocks.len ≤ 65536
  ring_low = let p = power_low (natural s.ag_shift) (natural_up_to s.ag_shift 16 valid.groups.0.2) in omega (arith, valid.log.1, p)

  -- so many sectors are enough
  pub fits_sectors : (b : ℕ) → b < (layout_of s).blocks → (layout_of s).sectors * b + (layout_of s).sectors ≤ (layout_of s).sectors * (layout_of s).blocks
  fits_sectors b lt = let le : (layout_of s).sectors * (b + 1) ≤ (layout_of s).sectors * (layout_of s).blocks = mul-le-mul_left (layout_of s).sectors (let l : b + 1 ≤ (layout_of s).blocks = omega (arith, lt) in l) in omega (arith, le)

  pub in_range : (size : Option ℕ) (b : ℕ) (bytes : List ℕ) → IsOnDisk size s → b < (layout_of s).blocks → length bytes ≡ s.block_size → InRange size ((layout_of s).sectors * b) bytes
  in_range None b bytes on lt long = on
  in_range (Some size) b bytes on lt long =
      let sectors : length bytes / 512 ≡ (layout_of s).sectors = ap (λ (n : ℕ). n / 512) long in
      omega (arith, fits_sectors b lt, on, sectors)

  pub has_two : (size : Option ℕ) → IsOnDisk size s → HasTwo size
  has_two None on = on
  has_two (Some size) on = let f = fits_sectors 0 (omega (arith, good.inside, good.behind_zero)) in omega (arith, f, on, sizes.1)
