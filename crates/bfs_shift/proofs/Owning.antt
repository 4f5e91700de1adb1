-- The streams of a stocked volume own their blocks.
use Rattle.std.proofs.Common.{◌≡◌, ◌≤◌, ◌<◌, ◌+◌, ◌-◌, ◌*◌, ◌⊎◌, inl, inr, ◌∙◌, ℕ, zero, suc, List, [], ◌++◌, refl, ap, subst, arith, Bool, true, false, Option, not, ◌&&◌}
use Rattle.std.specs.Prelude.{◌==◌, nat_lt}
use Rattle.std.proofs.Math.Nat.{mul-le-mul_left}
use Rattle.std.specs.List.{flat_map}
use Rattle.bfs_base.specs.Lists.{times, AreSame}
use Rattle.bfs_super.specs.Geometry.{bitmap_length}
use Rattle.bfs_super.specs.declared.geometry.Geometry.{Geometry}
use Rattle.bfs_bitmap.specs.Runs.{Room, Fits, is_free, is_reserved, marked, per_block}
use Rattle.bfs_stream.specs.Places.{whole_at, frame_at, places_at, HasStream}
use Rattle.bfs_stream.specs.Told.{contents, AreTold}
use Rattle.bfs_stream.specs.Grown.{IsOfVolume, IsOutside, Owns}
use Rattle.bfs_stream.proofs.Doubles.{times-append}
use Rattle.bfs_tree.specs.Trees.{Tree}
use Rattle.bfs_sound.specs.Volumes.{Volume, sizes, bitmap_blocks, IsMarked}
use Rattle.bfs_sound.specs.Owners.{fixed_blocks, reach, owner_blocks, owners, owned, In}
use Rattle.bfs_sound.proofs.Carried.{has_counted}
use Rattle.bfs_sound.proofs.Counts.{times_member}
use Rattle.bfs_sound.proofs.Owning.{reach_by_owners}
use Rattle.bfs_shift.specs.Lists.{Lists}
use Rattle.bfs_shift.specs.Stocked.{Stocked}
use Rattle.bfs_shift.specs.Shifts.{volume_in}
use Rattle.bfs_shift.proofs.Bridge.{outside_bitmap, ceil_covers, less_or}

not_free : (v : Room) (m : ℕ → Option (List ℕ)) (k : ℕ) → marked (per_block v) m k ≡ 1 → is_free v m k ≡ false
not_free v m k one = ap (λ (n : ℕ). nat_lt k v.blocks && ((n == 0) && not (is_reserved v.given k))) one ∙ never (nat_lt k v.blocks) (not (is_reserved v.given k))
  where
    never : (a b : Bool) → (a && ((1 == 0) && b)) ≡ false
    never true b = refl
    never false b = refl

module _ (g : Geometry) (v : Room) (m : ℕ → Option (List ℕ)) (tree : Tree) (lists : Lists) (loose : List ℕ) (id : ℕ) (of : IsOfVolume (sizes g) v) (some : 0 < g.block_size) (fits : Fits v m)
    (stocked : Stocked (volume_in g m) tree lists loose) (own_in : (k : ℕ) → times k (whole_at (sizes g) (contents m) id) ≤ times k (owned (volume_in g m) tree) + times k loose) (sound : HasStream (sizes g) (contents m) id) (told : AreTold m (whole_at (sizes g) (contents m) id)) where
  abbrev xs : List ℕ
  xs = whole_at (sizes g) (contents m) id

  abbrev u : Volume
  u = volume_in g m

  all_parts : (k : ℕ) → times k (reach u tree ++ loose) ≡ times k (fixed_blocks u) + (times k (bitmap_blocks g) + times k (owned u tree)) + times k loose
  all_parts k =
      let a = times-append k (reach u tree) loose in
      let b : times k (reach u tree) ≡ times k (fixed_blocks u ++ (bitmap_blocks g ++ owned u tree)) = ap (times k) (reach_by_owners u tree) in
      let c = times-append k (fixed_blocks u) (bitmap_blocks g ++ owned u tree) in
      let d = times-append k (bitmap_blocks g) (owned u tree) in
      omega (arith, a, b, c, d)

  free_none : (k : ℕ) → 0 < times k (reach u tree ++ loose) → is_free v m k ≡ false
  free_none k has =
      let marks : IsMarked u k = (stocked.marks k).1 has in
      let one : marked (8 * g.block_size) m k ≡ 1 = marks.1 in
      not_free v m k (ap (λ b. marked (8 * b) m k) of.block_size ∙ one)

  zero_in : 0 < times 0 (reach u tree ++ loose)
  zero_in = let p = all_parts 0 in let f : 0 < times 0 (fixed_blocks u) = omega arith in omega (arith, p, f)

  in_bitmap : (k : ℕ) → per_block v * (suc k - 1) < v.blocks → 0 < times (suc k) (bitmap_blocks g)
  in_bitmap k low = has_counted (suc k) 1 (bitmap_length g.blocks g.block_size) (omega arith) below
    where
      low_here : g.block_size * 8 * k < g.blocks
      low_here =
          let a : 8 * g.block_size * k < g.blocks = subst (λ (x : ℕ × ℕ). 8 * x.0 * k < x.1) (λ i. (of.block_size i, of.blocks i)) (let e : suc k - 1 ≡ k = omega arith in subst (λ (j : ℕ). 8 * v.block_size * j < v.blocks) e low) in
          let t : g.block_size * 8 * k ≡ 8 * g.block_size * k = grind arith in
          omega (arith, a, t)

      below : suc k < 1 + bitmap_length g.blocks g.block_size
      below = by_place (less_or k (bitmap_length g.blocks g.block_size))
        where
          by_place : (k < bitmap_length g.blocks g.block_size) ⊎ (bitmap_length g.blocks g.block_size ≤ k) → suc k < 1 + bitmap_length g.blocks g.block_size
          by_place (inl l) = omega (arith, l)
          by_place (inr up) =
              let covers : g.blocks ≤ g.block_size * 8 * bitmap_length g.blocks g.block_size = ceil_covers (g.block_size * 8) g.blocks (omega (arith, some)) in
              let more : g.block_size * 8 * bitmap_length g.blocks g.block_size ≤ g.block_size * 8 * k = mul-le-mul_left (g.block_size * 8) up in
              let l = low_here in
              absurd (omega (arith, covers, more, l))

  bits : (k : ℕ) → per_block v * (k - 1) < v.blocks → is_free v m k ≡ false
  bits zero low = free_none 0 zero_in
  bits (suc k) low = free_none (suc k) (let p = all_parts (suc k) in let b = in_bitmap k low in omega (arith, p, b))

  own_reached : (k : ℕ) → 0 < times k xs → 0 < times k (reach u tree ++ loose)
  own_reached k has = let p = all_parts k in let o = own_in k in omega (arith, p, o, has)

  outside : (k : ℕ) → 0 < times k xs → IsOutside v k
  outside k has = outside_bitmap g v k of some (not_zero k has) (let p = all_parts k in let o = own_in k in let most : times k (reach u tree ++ loose) ≤ 1 = stocked.once k in omega (arith, p, o, has, most))
    where
      not_zero : (k : ℕ) → 0 < times k xs → 1 ≤ k
      not_zero zero has = let p = all_parts 0 in let o = own_in 0 in let f : 0 < times 0 (fixed_blocks u) = omega arith in let most : times 0 (reach u tree ++ loose) ≤ 1 = stocked.once 0 in absurd (omega (arith, p, o, has, f, most))
      not_zero (suc k) has = omega arith

  part_owns : Owns (record { id = id; sizes = sizes g }) v [] m
  part_owns = record {
    stands = record { told = λ k has. told k (let h : 0 < times k (frame_at (sizes g) (contents m) id) = has in let p = times-append k (frame_at (sizes g) (contents m) id) (places_at (sizes g) (contents m) id) in let r : 0 < times k xs = omega (arith, h, p) in r); sound = sound };
    once = λ k. let p = all_parts k in let o = own_in k in let most : times k (reach u tree ++ loose) ≤ 1 = stocked.once k in omega (arith, p, o, most);
    taken = λ k has. free_none k (own_reached k has);
    outside = λ k has. outside k has;
    bits = bits;
    fits = fits;
  }

module _ (g : Geometry) (v : Room) (m : ℕ → Option (List ℕ)) (tree : Tree) (lists : Lists) (loose : List ℕ) (id : ℕ) (of : IsOfVolume (sizes g) v) (some : 0 < g.block_size) (fits : Fits v m)
    (stocked : Stocked (volume_in g m) tree lists loose) where
  in_owned : In (id, false) (owners (volume_in g m) tree) → (k : ℕ) → times k (whole_at (sizes g) (contents m) id) ≤ times k (owned (volume_in g m) tree) + times k loose
  unfolding owned
  in_owned is k =
      let o : times k (whole_at (sizes g) (contents m) id) ≤ times k (flat_map (owner_blocks (volume_in g m)) (owners (volume_in g m) tree)) = times_member k (owner_blocks (volume_in g m)) (owners (volume_in g m) tree) (id, false) is in
      omega (arith, o)

  pub owner_owns : In (id, false) (owners (volume_in g m) tree) → HasStream (sizes g) (contents m) id → AreTold m (whole_at (sizes g) (contents m) id) → Owns (record { id = id; sizes = sizes g }) v [] m
  owner_owns is sound told = part_owns g v m tree lists loose id of some fits stocked (in_owned is) sound told

-- a stream of loose blocks
pub loose_owns : (g : Geometry) (v : Room) (m : ℕ → Option (List ℕ)) (tree : Tree) (lists : Lists) (own rest : List ℕ) (id : ℕ) → IsOfVolume (sizes g) v → 0 < g.block_size → Fits v m
    → Stocked (volume_in g m) tree lists (own ++ rest) → AreSame own (whole_at (sizes g) (contents m) id) → HasStream (sizes g) (contents m) id → AreTold m (whole_at (sizes g) (contents m) id)
    → Owns (record { id = id; sizes = sizes g }) v [] m
loose_owns g v m tree lists own rest id of some fits stocked same sound told = part_owns g v m tree lists (own ++ rest) id of some fits stocked (λ k. let a = times-append k own rest in let e = same k in omega (arith, a, e)) sound told
