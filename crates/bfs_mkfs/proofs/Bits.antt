-- The bitmap of a new volume marks its first blocks.
use Rattle.std.proofs.Common.{◌≡◌, ◌≤◌, ◌<◌, ◌+◌, ◌*◌, ◌-◌, ◌^◌, ◌/◌, ◌%◌, ◌⊎◌, inl, inr, ℕ, zero, suc, List, ◌∷◌, ◌++◌, length, Some, true, false, cond, refl, sym, ap, ap₂, ◌∙◌, arith, take, drop, replicate, get_or}
use Rattle.std.specs.Prelude.{nat_lt}
use Rattle.std.specs.Int.{bit_at}
use Rattle.std.proofs.Math.Nat.{mod-lt, div-add-mod}
use Rattle.std.proofs.lemmas.Nat.Bits.{bit_at_ones, bit_at_ones_above, bit_at-zero}
use Rattle.std.proofs.lemmas.List.{get_or-take, get_or-drop, get_or-append-add, get_or_append_left, get_or-replicate, length-replicate}
use Rattle.bfs_bitmap.specs.Bits.{bit_of}
use Rattle.bfs_bitmap.specs.Runs.{marked}
use Rattle.bfs_mkfs.specs.Laid.{bitmap_bytes, blocks_in}
use Rattle.bfs_mkfs.proofs.Bytes.{blocks_by, part_of}

-- the bits of a byte whose lowest are set
low_bits : (u i : ℕ) → bit_at (2 ^ u - 1) i ≡ cond (nat_lt i u) 1 0
low_bits u i = by_place (place i u)
  where
    place : (a b : ℕ) → (a < b) ⊎ (b ≤ a)
    place a b = grind arith

    by_place : (i < u) ⊎ (u ≤ i) → bit_at (2 ^ u - 1) i ≡ cond (nat_lt i u) 1 0
    by_place (inl lt) = bit_at_ones u i lt ∙ (let e : nat_lt i u ≡ true = grind (arith, lt) in sym (ap (λ b. cond b 1 0) e))
    by_place (inr ge) = bit_at_ones_above u i ge ∙ (let e : nat_lt i u ≡ false = grind (arith, ge) in sym (ap (λ b. cond b 1 0) e))

all_bits : (i : ℕ) → i < 8 → bit_at 255 i ≡ 1
all_bits i hi = bit_at_ones 8 i hi

no_bits : (i : ℕ) → bit_at 0 i ≡ 0
no_bits i = bit_at-zero i

abbrev zeros : ℕ → List ℕ
zeros m = replicate m 0

zero_at : (m i : ℕ) → get_or (zeros m) i 0 ≡ 0
zero_at zero i = refl
zero_at (suc m) zero = refl
zero_at (suc m) (suc i) = zero_at m i

abbrev ones : ℕ → List ℕ
ones m = replicate m 255

-- the bits of the bitmap's bytes
bitmap_bit : (used n k : ℕ) → bit_at (get_or (bitmap_bytes used n) (k / 8) 0) (k % 8) ≡ cond (nat_lt k used) 1 0
unfolding bitmap_bytes
bitmap_bit used n k = by_place (place (k / 8) (used / 8))
  where
    low : k % 8 < 8
    low = mod-lt k (omega arith)

    place : (a b : ℕ) → (a < b) ⊎ ((a ≡ b) ⊎ (b < a))
    place a b = grind arith

    before : k < used → ◌≡◌ {A = ℕ} (cond (nat_lt k used) 1 0) 1
    before h = let e : nat_lt k used ≡ true = grind (arith, h) in ap (λ b. cond b 1 0) e

    behind : used ≤ k → ◌≡◌ {A = ℕ} (cond (nat_lt k used) 1 0) 0
    behind h = let e : nat_lt k used ≡ false = grind (arith, h) in ap (λ b. cond b 1 0) e

    bytes : List ℕ
    bytes = ones (used / 8) ++ (2 ^ (used % 8) - 1) ∷ zeros (n - used / 8 - 1)

    long : length (ones (used / 8)) ≡ used / 8
    long = length-replicate (used / 8) 255

    by_place : (k / 8 < used / 8) ⊎ ((k / 8 ≡ used / 8) ⊎ (used / 8 < k / 8)) → bit_at (get_or bytes (k / 8) 0) (k % 8) ≡ cond (nat_lt k used) 1 0
    by_place (inl lt) =
        ap (λ b. bit_at b (k % 8)) (get_or_append_left (ones (used / 8)) _ 0 (k / 8) (omega (arith, lt, long)) ∙ get_or-replicate (used / 8) (k / 8) 255 0 lt)
        ∙ all_bits (k % 8) low ∙ sym (before (omega (arith, lt)))
    by_place (inr (inl e)) =
        ap (λ j. bit_at (get_or bytes j 0) (k % 8)) (e ∙ sym long ∙ (let z : length (ones (used / 8)) ≡ length (ones (used / 8)) + 0 = omega arith in z))
        ∙ ap (λ b. bit_at b (k % 8)) (get_or-append-add (ones (used / 8)) ((2 ^ (used % 8) - 1) ∷ zeros (n - used / 8 - 1)) 0 0)
        ∙ low_bits (used % 8) (k % 8)
        ∙ ap (λ b. cond b 1 0) (same_test (omega (arith, e)) (omega (arith, e)))
      where
        same_test : (k % 8 < used % 8 → k < used) → (k < used → k % 8 < used % 8) → nat_lt (k % 8) (used % 8) ≡ nat_lt k used
        same_test a b = grind (arith, a, b)
    by_place (inr (inr gt)) =
        ap (λ j. bit_at (get_or bytes j 0) (k % 8)) (let z : k / 8 ≡ length (ones (used / 8)) + suc (k / 8 - used / 8 - 1) = omega (arith, gt, long) in z)
        ∙ ap (λ b. bit_at b (k % 8)) (get_or-append-add (ones (used / 8)) ((2 ^ (used % 8) - 1) ∷ zeros (n - used / 8 - 1)) (suc (k / 8 - used / 8 - 1)) 0 ∙ zero_at (n - used / 8 - 1) (k / 8 - used / 8 - 1))
        ∙ no_bits (k % 8) ∙ sym (behind (omega (arith, gt)))

-- the bit of a block, where the bitmap's blocks are those bytes
pub new_marked : (used size bm : ℕ) (image : List ℕ) (k : ℕ) → 0 < size → blocks_in size 1 bm image ≡ bitmap_bytes used (bm * size) → k / (8 * size) < bm
    → marked (8 * size) (λ b. Some (blocks_by size image b)) k ≡ cond (nat_lt k used) 1 0
unfolding bit_of
new_marked used size bm image k some laid inside =
    ap (λ l. bit_at (get_or l (k % (8 * size) / 8) 0) (k % (8 * size) % 8)) block_is
    ∙ ap₂ (λ b i. bit_at b i) byte_is bit_is
    ∙ bitmap_bit used (bm * size) k
  where
    q : ℕ
    q = k / (8 * size)

    r : ℕ
    r = k % (8 * size)

    parts : 8 * size * (k / (8 * size)) + k % (8 * size) ≡ k
    parts = div-add-mod k (8 * size)

    small : k % (8 * size) < 8 * size
    small = mod-lt k (omega (arith, some))

    block_is : blocks_by size image (1 + k / (8 * size)) ≡ take size (drop (k / (8 * size) * size) (bitmap_bytes used (bm * size)))
    block_is =
        let e : (1 + k / (8 * size)) * size ≡ 1 * size + k / (8 * size) * size = grind arith in
        let most : k / (8 * size) * size + size ≤ bm * size = grind (arith, inside) in
        ap (λ m. take size (drop m image)) e ∙ sym (part_of (1 * size) (bm * size) (k / (8 * size) * size) size image most) ∙ ap (λ l. take size (drop (k / (8 * size) * size) l)) laid

    m : ℕ
    m = k / (8 * size) * size

    whole : 8 * (k / (8 * size) * size) + k % (8 * size) ≡ k
    whole = (let e : 8 * (k / (8 * size) * size) ≡ 8 * size * (k / (8 * size)) = grind arith in omega (arith, e, parts))

    byte_is : get_or (take size (drop (k / (8 * size) * size) (bitmap_bytes used (bm * size)))) (k % (8 * size) / 8) 0 ≡ get_or (bitmap_bytes used (bm * size)) (k / 8) 0
    byte_is =
        get_or-take size (drop (k / (8 * size) * size) (bitmap_bytes used (bm * size))) (k % (8 * size) / 8) 0 (omega (arith, small))
        ∙ get_or-drop (k / (8 * size) * size) (bitmap_bytes used (bm * size)) (k % (8 * size) / 8) 0
        ∙ ap (λ j. get_or (bitmap_bytes used (bm * size)) j 0) (let z : k / (8 * size) * size + k % (8 * size) / 8 ≡ k / 8 = omega (arith, whole) in z)

    bit_is : k % (8 * size) % 8 ≡ k % 8
    bit_is = omega (arith, whole)
