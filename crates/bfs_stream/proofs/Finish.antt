-- What the bits say is the same where the blocks with bits are.
use Rattle.std.proofs.Common.{◌≡◌, ◌≤◌, ◌<◌, ◌+◌, ◌-◌, ◌*◌, ◌/◌, ◌%◌, ◌∙◌, ℕ, zero, suc, List, [], Bool, true, false, not, ◌&&◌, Option, unwrap_or, refl, sym, ap, ap₂, subst, arith, cond}
use Rattle.std.specs.Prelude.{◌==◌, nat_lt}
use Rattle.std.proofs.Math.Nat.{mul-div-le}
use Rattle.bfs_bitmap.specs.Bits.{bit_of}
use Rattle.bfs_bitmap.specs.Runs.{Room, Fits, IsCounted, per_block, marked, marked_count, is_free, is_reserved}

-- with the same bits as many blocks are used
pub counted_same : (v : Room) (m n : ℕ → Option (List ℕ)) → ((k : ℕ) → k < v.blocks → marked (per_block v) n k ≡ marked (per_block v) m k) → IsCounted v m → IsCounted v n
counted_same v m n same counted = counted ∙ sym (up_to v.blocks (omega arith))
  where
    up_to : (c : ℕ) → c ≤ v.blocks → marked_count v n c ≡ marked_count v m c
    up_to zero le = refl
    up_to (suc c) le = ap₂ (λ (a b : ℕ). cond (a == 0) 0 1 + b) (same c (omega (arith, le))) (up_to c (omega (arith, le)))

-- where the blocks that hold bits stay, the same blocks are free
module _ (v : Room) (m n : ℕ → Option (List ℕ)) (stay : (b : ℕ) → per_block v * (b - 1) < v.blocks → n b ≡ m b) where
  pub free_same : (k : ℕ) → is_free v n k ≡ is_free v m k
  free_same k = by_blocks (nat_lt k v.blocks) refl
    where
      by_blocks : (t : Bool) → nat_lt k v.blocks ≡ t → (t && ((marked (per_block v) n k == 0) && not (is_reserved v.given k))) ≡ (t && ((marked (per_block v) m k == 0) && not (is_reserved v.given k)))
      by_blocks false e = refl
      by_blocks true e =
          let low : k < v.blocks = grind (arith, e) in
          let le : per_block v * (k / per_block v) ≤ k = mul-div-le k (per_block v) in
          let e : 1 + k / per_block v - 1 ≡ k / per_block v = omega arith in
          let lt : per_block v * (1 + k / per_block v - 1) < v.blocks = subst (λ (q : ℕ). per_block v * q < v.blocks) (sym e) (omega (arith, le, low)) in
          ap (λ (o : Option (List ℕ)). (bit_of (unwrap_or o []) (k % per_block v) == 0) && not (is_reserved v.given k)) (stay (1 + k / per_block v) lt)

  pub marked_same : (k : ℕ) → k < v.blocks → marked (per_block v) n k ≡ marked (per_block v) m k
  marked_same k low =
      let le : per_block v * (k / per_block v) ≤ k = mul-div-le k (per_block v) in
      let e : 1 + k / per_block v - 1 ≡ k / per_block v = omega arith in
      let lt : per_block v * (1 + k / per_block v - 1) < v.blocks = subst (λ (q : ℕ). per_block v * q < v.blocks) (sym e) (omega (arith, le, low)) in
      ap (λ (o : Option (List ℕ)). bit_of (unwrap_or o []) (k % per_block v)) (stay (1 + k / per_block v) lt)

  pub fits_same : Fits v m → Fits v n
  fits_same fits = record {
    has = record {
      told = λ j h.
          let cell = fits.has.told j h in
          let e : 1 + j - 1 ≡ j = omega arith in
          (cell.0, stay (1 + j) (subst (λ (q : ℕ). per_block v * q < v.blocks) (sym e) h) ∙ cell.1, cell.2);
    };
    nothing_below = λ k h. free_same k ∙ fits.nothing_below k h;
    no_wide = λ g h run. fits.no_wide g h (record { one_group = run.one_group; free = λ k a b. sym (free_same k) ∙ run.free k a b });
  }

pub is_below : (x y : ℕ) → nat_lt x y ≡ true → x < y
is_below x y e = grind (arith, e)

pub not_below : (x y : ℕ) → nat_lt x y ≡ false → y ≤ x
not_below x y e = grind (arith, e)
