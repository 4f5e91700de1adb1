-- The sizes of a volume that is valid.
use Rattle.std.proofs.Common.{◌≡◌, ⊎_elim, ℕ, ℤ, pos, negsuc, ◌+◌, ◌*◌, ◌/◌, ◌^◌, ◌<◌, ◌≤◌, ◌<ℤ◌, ◌≤ℤ◌, List, length, Option, Some, None, refl, sym, ◌∙◌, ap, subst, arith}
use Rattle.std.proofs.lemmas.Int.{ints}
use Rattle.std.proofs.lemmas.Bool.{cases_eq}
use Rattle.std.proofs.Math.Nat.{mul-le-mul_left}
use Rattle.bfs_super.specs.declared.sup.Super.{Super}
use Rattle.bfs_super.specs.Conditions.{natural, IsValid}
use Rattle.bfs_super.specs.Geometry.{geometry_of}
use Rattle.bfs_log.specs.Entry.{log_first}
use Rattle.bfs_log.specs.Replay.{block_sectors, log_from, log_to}
use Rattle.bfs_log.proofs.Bounds.{power_low}
use Rattle.bfs_disk.specs.Disk.{InRange, HasSectors}
use Rattle.bfs_replay.specs.Steps.{sectors_of}

-- a block has at least two sectors, and 8,192 bytes at most
abbrev pub HasSize : ℕ → Type 0
HasSize n = (n ≡ 512 * (n / 512)) × (2 ≤ n / 512) × (n ≤ 8192)

four_sizes : (k n : ℕ) → 10 ≤ k → k ≤ 13 → n ≡ 2 ^ k → HasSize n
four_sizes k n low high is = ⊎_elim
    (λ e. subst HasSize (sym (is ∙ ap (λ (m : ℕ). 2 ^ m) e)) (refl, omega arith, omega arith))
    (λ a. ⊎_elim
    (λ e. subst HasSize (sym (is ∙ ap (λ (m : ℕ). 2 ^ m) e)) (refl, omega arith, omega arith))
    (λ b. ⊎_elim
    (λ e. subst HasSize (sym (is ∙ ap (λ (m : ℕ). 2 ^ m) e)) (refl, omega arith, omega arith))
    (λ d. let e : k ≡ 13 = omega (arith, a, b, d) in subst HasSize (sym (is ∙ ap (λ (m : ℕ). 2 ^ m) e)) (refl, omega arith, omega arith))
    (cases_eq k 12))
    (cases_eq k 11))
    (cases_eq k 10)

natural_below : (z : ℤ) (n : ℕ) → 0 < n → z <ℤ pos n → natural z < n
natural_below (pos m) n some h = omega (arith, ints)
natural_below (negsuc m) n some h = some

natural_up_to : (z : ℤ) (n : ℕ) → z ≤ℤ pos n → natural z ≤ n
natural_up_to (pos m) n h = omega (arith, ints)
natural_up_to (negsuc m) n h = omega arith

module _ (s : Super) (valid : IsValid s) where
  pub sizes : HasSize s.block_size
  sizes = four_sizes s.block_shift s.block_size valid.block_size.0 valid.block_size.1 valid.block_size.2

  pub from_low : log_from s < s.log_blocks.len
  from_low = natural_below s.log_start s.log_blocks.len (omega (arith, valid.log.2)) valid.log_start.1

  pub to_low : log_to s < s.log_blocks.len
  to_low = natural_below s.log_end s.log_blocks.len (omega (arith, valid.log.2)) valid.log_end.1

  pub blocks_low : natural s.num_blocks ≤ 4194304
  blocks_low = natural_up_to s.num_blocks 4194304 valid.length.1

  pub few_sectors : block_sectors s ≤ 16
  few_sectors = omega (arith, sizes.1, sizes.2)

  pub place_small : (b : ℕ) → b < natural s.num_blocks → block_sectors s * b ≤ 67108864
  place_small b lt = let le : b * block_sectors s ≤ b * 16 = mul-le-mul_left b few_sectors in omega (arith, le, lt, blocks_low)

  pub ring_low : s.log_blocks.len ≤ 65536
  ring_low = let p = power_low (natural s.ag_shift) (natural_up_to s.ag_shift 16 valid.groups.0.2) in omega (arith, valid.log.1, p)

  -- a block of the log is one of the volume
  pub log_inside : (at : ℕ) → at < s.log_blocks.len → log_first (geometry_of s) + at < natural s.num_blocks
  log_inside at lt = let inside = valid.log.4 in omega (arith, inside, lt)

  -- the sectors of a block of the volume
  pub fits_sectors : (b : ℕ) → b < natural s.num_blocks → block_sectors s * b + block_sectors s ≤ sectors_of s
  fits_sectors b lt = let le : block_sectors s * (b + 1) ≤ block_sectors s * natural s.num_blocks = mul-le-mul_left (block_sectors s) (let l : b + 1 ≤ natural s.num_blocks = omega (arith, lt) in l) in omega (arith, le)

  pub in_range : (size : Option ℕ) (b : ℕ) (bytes : List ℕ) → HasSectors size (sectors_of s) → b < natural s.num_blocks → length bytes ≡ s.block_size → InRange size (block_sectors s * b) bytes
  in_range None b bytes on lt long = on
  in_range (Some size) b bytes on lt long =
      let sectors : length bytes / 512 ≡ block_sectors s = ap (λ (n : ℕ). n / 512) long in
      omega (arith, fits_sectors b lt, on, sectors)

  pub has_two : (size : Option ℕ) → HasSectors size (sectors_of s) → HasSectors size 2
  has_two None on = on
  has_two (Some size) on = let f = fits_sectors 0 (let l = log_inside 0 (omega (arith, valid.log.2)) in omega (arith, l)) in omega (arith, f, on, sizes.1)

  pub volume_small : sectors_of s ≤ 67108864
  volume_small = let le : natural s.num_blocks * block_sectors s ≤ natural s.num_blocks * 16 = mul-le-mul_left (natural s.num_blocks) few_sectors in omega (arith, le, blocks_low)
