-- The blocks of a bitmap, and what is told.
use Rattle.std.proofs.Common.{◌≡◌, ◌≤◌, ◌<◌, ◌+◌, ◌-◌, ◌*◌, ◌⊎◌, inl, inr, ℕ, List, refl, sym, ap, ◌∙◌, subst, arith, Option, Some, None, [], false, true}
use Rattle.std.specs.Prelude.{IsSome, IfSome, unwrap_or}
use Rattle.std.proofs.Math.Nat.{mul-le-mul_left}
use Rattle.bfs_base.specs.Lists.{Has}
use Rattle.bfs_super.specs.Conditions.{IsValid}
use Rattle.bfs_super.specs.Geometry.{IsBlockSize, bitmap_length}
use Rattle.bfs_super.specs.declared.geometry.Geometry.{Geometry}
use Rattle.bfs_super.specs.declared.sup.Super.{Super}
use Rattle.bfs_bitmap.specs.Fills.{IsBitmapBlock}
use Rattle.bfs_bitmap.specs.Runs.{Room, HasBitmap, per_block}
use Rattle.bfs_txn.specs.Told.{AreOfBlock}
use Rattle.bfs_stream.specs.Told.{contents}
use Rattle.bfs_stream.specs.Grown.{IsOfVolume, IsOutside}
use Rattle.bfs_stream.proofs.Sized.{valid_sizes}
use Rattle.bfs_sound.specs.Volumes.{sizes, bitmap_blocks}
use Rattle.bfs_sound.proofs.Carried.{has_counted}
use Rattle.bfs_shift.proofs.Bridge.{less_or, ceil_covers}

some_of : (n : ℕ) → IsBlockSize n → 0 < n
some_of n (inl e) = omega (arith, e)
some_of n (inr (inl e)) = omega (arith, e)
some_of n (inr (inr (inl e))) = omega (arith, e)
some_of n (inr (inr (inr e))) = omega (arith, e)

pub some_bytes : (s : Super) → IsValid s → 0 < s.block_size
some_bytes s valid = some_of s.block_size (valid_sizes s valid).block_size

least_of : (n : ℕ) → IsBlockSize n → 1024 ≤ n
least_of n (inl e) = omega (arith, e)
least_of n (inr (inl e)) = omega (arith, e)
least_of n (inr (inr (inl e))) = omega (arith, e)
least_of n (inr (inr (inr e))) = omega (arith, e)

pub least_bytes : (s : Super) → IsValid s → 1024 ≤ s.block_size
least_bytes s valid = least_of s.block_size (valid_sizes s valid).block_size

most_of : (n : ℕ) → IsBlockSize n → n ≤ 8192
most_of n (inl e) = omega (arith, e)
most_of n (inr (inl e)) = omega (arith, e)
most_of n (inr (inr (inl e))) = omega (arith, e)
most_of n (inr (inr (inr e))) = omega (arith, e)

pub most_bytes : (s : Super) → IsValid s → s.block_size ≤ 8192
most_bytes s valid = most_of s.block_size (valid_sizes s valid).block_size

-- what was read of a block that is told
pub read_is : (m : ℕ → Option (List ℕ)) (k : ℕ) (told : Option (ℕ → Option (List ℕ))) (bytes : List ℕ) → told ≡ Some m → IsSome (m k) → AreOfBlock told k bytes → bytes ≡ contents m k
read_is m k told bytes is some of = by_block (m k) refl some (subst (λ (t : Option (ℕ → Option (List ℕ))). AreOfBlock t k bytes) is of)
  where
    by_block : (o : Option (List ℕ)) → m k ≡ o → IsSome o → IfSome o (λ (b : List ℕ). bytes ≡ b) → bytes ≡ unwrap_or o []
    by_block None e s h = absurd (let bad : false ≡ true = s in cc)
    by_block (Some b) e s h = h

-- a block that holds bits is one of the bitmap's
pub bitmap_has : (g : Geometry) (v : Room) (k : ℕ) → IsOfVolume (sizes g) v → 0 < g.block_size → IsBitmapBlock v k → Has (bitmap_blocks g) k
bitmap_has g v k of some is = has_counted k 1 (bitmap_length g.blocks g.block_size) is.0 below
  where
    low_here : g.block_size * 8 * (k - 1) < g.blocks
    low_here =
        let a : 8 * g.block_size * (k - 1) < g.blocks = subst (λ (x : ℕ × ℕ). 8 * x.0 * (k - 1) < x.1) (λ i. (of.block_size i, of.blocks i)) is.1 in
        let t : g.block_size * 8 * (k - 1) ≡ 8 * g.block_size * (k - 1) = grind arith in
        omega (arith, a, t)

    below : k < 1 + bitmap_length g.blocks g.block_size
    below = by_place (less_or k (1 + bitmap_length g.blocks g.block_size))
      where
        by_place : (k < 1 + bitmap_length g.blocks g.block_size) ⊎ (1 + bitmap_length g.blocks g.block_size ≤ k) → k < 1 + bitmap_length g.blocks g.block_size
        by_place (inl l) = l
        by_place (inr up) =
            let covers : g.blocks ≤ g.block_size * 8 * bitmap_length g.blocks g.block_size = ceil_covers (g.block_size * 8) g.blocks (omega (arith, some)) in
            let more : g.block_size * 8 * bitmap_length g.blocks g.block_size ≤ g.block_size * 8 * (k - 1) = mul-le-mul_left (g.block_size * 8) (omega (arith, up)) in
            let l = low_here in
            absurd (omega (arith, covers, more, l))

-- a block that stays unless it holds bits stays, or is told
pub or_told : (v : Room) (m map : ℕ → Option (List ℕ)) (k : ℕ) → HasBitmap v map → (IsOutside v k → map k ≡ m k) → (k ≡ 0 → map k ≡ m k) → (map k ≡ m k) ⊎ IsSome (map k)
or_told v m map k has out none = by_place (less_or (per_block v * (k - 1)) v.blocks)
  where
    by_zero : (per_block v * (k - 1) < v.blocks) → (k < 1) ⊎ (1 ≤ k) → (map k ≡ m k) ⊎ IsSome (map k)
    by_zero low (inl e) = inl (none (omega (arith, e)))
    by_zero low (inr e) =
        let cell = has.told (k - 1) low in
        let there : 1 + (k - 1) ≡ k = omega (arith, e) in
        inr (subst (λ (o : Option (List ℕ)). IsSome o) (sym (ap map (sym there) ∙ cell.1)) refl)

    by_place : (per_block v * (k - 1) < v.blocks) ⊎ (v.blocks ≤ per_block v * (k - 1)) → (map k ≡ m k) ⊎ IsSome (map k)
    by_place (inr e) = inl (out e)
    by_place (inl low) = by_zero low (less_or k 1)
