-- Told maps as volumes.
use Rattle.std.proofs.Common.{◌≡◌, ◌≤◌, ◌<◌, ◌+◌, ◌-◌, ◌*◌, ◌/◌, ◌⊎◌, inl, inr, ℕ, List, refl, sym, subst, arith, Bool, true, false, Option, not, ◌&&◌}
use Rattle.std.specs.Prelude.{◌==◌, nat_lt}
use Rattle.std.proofs.Math.Nat.{mul-le-mul_left}
use Rattle.bfs_sound.proofs.Carried.{has_counted}
use Rattle.bfs_base.specs.Lists.{times, counted_from}
use Rattle.bfs_super.specs.Geometry.{bitmap_length}
use Rattle.bfs_super.specs.declared.geometry.Geometry.{Geometry}
use Rattle.bfs_bitmap.specs.Runs.{Room, is_free, is_reserved, marked, per_block}
use Rattle.bfs_stream.specs.Grown.{IsOfVolume, IsOutside}
use Rattle.bfs_sound.specs.Volumes.{sizes, bitmap_blocks}

-- what is free isn't marked
both_true : (a b c : Bool) → (a && (b && c)) ≡ true → (a ≡ true) × (b ≡ true)
both_true true true c e = (refl, refl)
both_true true false c e = let bad : false ≡ true = e in cc
both_true false b c e = let bad : false ≡ true = e in cc

pub free_parts : (v : Room) (m : ℕ → Option (List ℕ)) (k : ℕ) → is_free v m k ≡ true → (k < v.blocks) × (marked (per_block v) m k ≡ 0)
free_parts v m k e =
    let parts = both_true (nat_lt k v.blocks) (marked (per_block v) m k == 0) (not (is_reserved v.given k)) e in
    (grind (arith, parts.0), grind (arith, parts.1))

pub less_or : (a b : ℕ) → (a < b) ⊎ (b ≤ a)
less_or a b = grind arith

-- a number that isn't among some counted ones lies before or behind them
past_counted : (first n k : ℕ) → times k (counted_from first n) ≡ 0 → first ≤ k → first + n ≤ k
past_counted first n k none low = by_place (less_or k (first + n))
  where
    by_place : (k < first + n) ⊎ (first + n ≤ k) → first + n ≤ k
    by_place (inr e) = e
    by_place (inl e) = let h : 0 < times k (counted_from first n) = has_counted k first n low e in absurd (omega (arith, h, none))

pub ceil_covers : (b n : ℕ) → 0 < b → n ≤ b * ((n + (b - 1)) / b)
ceil_covers b n some = grind (arith, some)

-- a block that isn't the bitmap's lies outside of it
pub outside_bitmap : (g : Geometry) (v : Room) (k : ℕ) → IsOfVolume (sizes g) v → 0 < g.block_size → 1 ≤ k → times k (bitmap_blocks g) ≡ 0 → IsOutside v k
outside_bitmap g v k of some low none =
    let past : 1 + bitmap_length g.blocks g.block_size ≤ k = past_counted 1 (bitmap_length g.blocks g.block_size) k none low in
    let covers : g.blocks ≤ g.block_size * 8 * bitmap_length g.blocks g.block_size = ceil_covers (g.block_size * 8) g.blocks (omega (arith, some)) in
    let more : g.block_size * 8 * bitmap_length g.blocks g.block_size ≤ g.block_size * 8 * (k - 1) = mul-le-mul_left (g.block_size * 8) (omega (arith, past)) in
    let turn : g.block_size * 8 * (k - 1) ≡ 8 * g.block_size * (k - 1) = grind arith in
    let all : g.blocks ≤ 8 * g.block_size * (k - 1) = omega (arith, covers, more, turn) in
    subst (λ (x : ℕ × ℕ). x.0 ≤ 8 * x.1 * (k - 1)) (λ i. (sym of.blocks i, sym of.block_size i)) all
