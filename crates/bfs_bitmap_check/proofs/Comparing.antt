-- Bits of a part of a list of bytes, and of two lists of which eight bits are the same.
use Rattle.std.proofs.Common.{◌≡◌, ◌≤◌, ◌<◌, ◌+◌, ◌-◌, ◌*◌, ◌/◌, ◌%◌, ℕ, List, [], length, get_or, take, drop, length-drop, Bool, true, false, not, ◌==◌, Option, Some, None, IfSome, min, refl, sym, ap, ◌∙◌, subst, arith, ◌⊎◌, inl, inr}
use Rattle.std.specs.Int.{bit_at}
use Rattle.std.specs.Prelude.{unwrap_or, IsSome}
use Rattle.std.proofs.lemmas.List.{get_or-drop, take_all}
use Rattle.std.proofs.lemmas.Nat.{div-mul-add, mod-mul-add}
use Rattle.std.proofs.lemmas.Bool.{false≢true}
use Rattle.bfs_txn.specs.Told.{AreOfBlock}
use Rattle.bfs_bitmap.specs.Bits.{bit_of, is_clear}
use Rattle.bfs_claims.specs.Claims.{Claimed, is_claimed}
use Rattle.bfs_bitmap_check.specs.declared.fault.BitFault.{BitFault}
use Rattle.bfs_bitmap_check.specs.declared.fault.BitFault.TheVariants.{Unset, Extra, Block}
use Rattle.bfs_bitmap_check.specs.Bitmaps.{IsFirstDifference, is_set, AreSameIn, Differs, IsFirstIn}

pub eight_same : (one other : List ℕ) (at : ℕ) → at % 8 ≡ 0 → get_or one (at / 8) 0 ≡ get_or other (at / 8) 0 → ((k : ℕ) → k < at → is_clear one k ≡ is_clear other k) → (k : ℕ) → k < at + 8 → is_clear one k ≡ is_clear other k
unfolding bit_of
eight_same one other at whole is before k high = here (side k at)
  where
    side : (k at : ℕ) → (k < at) ⊎ (at ≤ k)
    side k at = grind arith

    here : (k < at) ⊎ (at ≤ k) → is_clear one k ≡ is_clear other k
    here (inl lt) = before k lt
    here (inr le) =
        let place : k / 8 ≡ at / 8 = omega arith in
        let same : get_or one (k / 8) 0 ≡ get_or other (k / 8) 0 = ap (λ (i : ℕ). get_or one i 0) place ∙ is ∙ ap (λ (i : ℕ). get_or other i 0) (sym place) in
        ap (λ (b : ℕ). bit_at b (k % 8) == 0) same

-- a bit behind so many bytes
pub clear_dropped : (n : ℕ) (bits : List ℕ) (i k : ℕ) → k ≡ 8 * n + i → is_clear (drop n bits) i ≡ is_clear bits k
unfolding bit_of
clear_dropped n bits i k e =
    let place : n + i / 8 ≡ k / 8 = omega (arith, e) in
    let bit : i % 8 ≡ k % 8 = omega (arith, e) in
    ap (λ (b : ℕ). bit_at b (i % 8) == 0) (get_or-drop n bits (i / 8) 0 ∙ ap (λ (j : ℕ). get_or bits j 0) place) ∙ ap (λ (j : ℕ). bit_at (get_or bits (k / 8) 0) j == 0) bit

-- the bit of a block stands in its block of the bitmap
module _ (n : ℕ) (some : 0 < n) (m : ℕ → Option (List ℕ)) (bytes : List ℕ) (j : ℕ) (told : m (1 + j) ≡ Some bytes) where
  pub set_is : (k i : ℕ) → k ≡ 8 * n * j + i → i < 8 * n → is_set (8 * n) m k ≡ not (is_clear bytes i)
  set_is k i e lt =
      let place : k ≡ j * (8 * n) + i = grind (arith, e) in
      let block : k / (8 * n) ≡ j = ap (λ (x : ℕ). x / (8 * n)) place ∙ div-mul-add j (8 * n) i lt in
      let bit : k % (8 * n) ≡ i = ap (λ (x : ℕ). x % (8 * n)) place ∙ mod-mul-add j (8 * n) i lt in
      ap (λ (x : ℕ). not (bit_of (unwrap_or (m (1 + x)) []) (k % (8 * n)) == 0)) block
      ∙ ap (λ (o : Option (List ℕ)). not (bit_of (unwrap_or o []) (k % (8 * n)) == 0)) told
      ∙ ap (λ (x : ℕ). not (bit_of bytes x == 0)) bit

  -- the bits of a block of the bitmap against the claims of its blocks
  module _ (c : Claimed) (part : List ℕ) (is : part ≡ drop (n * j) c.bits) (to at : ℕ) (first : IsFirstDifference bytes part to at) (few : to ≤ 8 * n) where
    claim_is : (k i : ℕ) → k ≡ 8 * n * j + i → is_claimed c k ≡ not (is_clear part i)
    claim_is k i e =
        let place : k ≡ 8 * (n * j) + i = grind (arith, e) in
        ap not (sym (clear_dropped (n * j) c.bits i k place)) ∙ ap (λ (l : List ℕ). not (is_clear l i)) (sym is)

    pub same_in : AreSameIn (8 * n) m c (8 * n * j) (8 * n * j + at)
    same_in k low high =
        let i : ℕ = k - 8 * n * j in
        let e : k ≡ 8 * n * j + i = omega (arith, low) in
        let lt : i < at = omega (arith, low, high) in
        let most : at ≤ to = first.up_to in
        set_is k i e (omega (arith, lt, most, few)) ∙ ap not (first.same i lt) ∙ sym (claim_is k i e)

    pub differs : at < to → 8 * n * j + at < c.blocks → (claimed : Bool) → is_clear bytes at ≡ claimed → Differs (8 * n) m c (8 * n * j) (8 * n * j + at) claimed
    differs lt inside claimed bit = record {
      from_on = omega arith;
      inside = inside;
      same = same_in;
      claim = claim_is (8 * n * j + at) at refl ∙ sym (first.here lt) ∙ bit;
      bit = set_is (8 * n * j + at) at refl (omega (arith, lt, few)) ∙ ap not bit;
    }

-- what was read is what is told
pub told_is : (o : Option (List ℕ)) (bytes : List ℕ) → IsSome o → IfSome o (λ b. bytes ≡ b) → o ≡ Some bytes
told_is None bytes some h = absurd (false≢true some)
told_is (Some b) bytes some h = ap (λ (l : List ℕ). Some l) (sym h)

-- one part of the bitmap after another
pub same_on : (bits : ℕ) (m : ℕ → Option (List ℕ)) (c : Claimed) (at next : ℕ) → AreSameIn bits m c 0 (min c.blocks at) → AreSameIn bits m c at (min c.blocks next) → at ≤ c.blocks → AreSameIn bits m c 0 (min c.blocks next)
same_on bits m c at next before more inside k low high = here (side k at)
  where
    side : (k at : ℕ) → (k < at) ⊎ (at ≤ k)
    side k at = grind arith

    here : (k < at) ⊎ (at ≤ k) → is_set bits m k ≡ is_claimed c k
    here (inl lt) = before k low (omega (arith, lt, inside))
    here (inr le) = more k le high

differs_on : (bits : ℕ) (m : ℕ → Option (List ℕ)) (c : Claimed) (at block : ℕ) (claimed : Bool) → AreSameIn bits m c 0 (min c.blocks at) → at ≤ c.blocks → Differs bits m c at block claimed → Differs bits m c 0 block claimed
differs_on bits m c at block claimed before inside d = record {
  from_on = omega arith;
  inside = d.inside;
  same = λ k low high. here k high (side k at);
  claim = d.claim;
  bit = d.bit;
}
  where
    side : (k at : ℕ) → (k < at) ⊎ (at ≤ k)
    side k at = grind arith

    here : (k : ℕ) → k < block → (k < at) ⊎ (at ≤ k) → is_set bits m k ≡ is_claimed c k
    here k high (inl lt) = before k (omega arith) (omega (arith, lt, inside))
    here k high (inr le) = d.same k le high

pub first_on : (bits : ℕ) (m : ℕ → Option (List ℕ)) (c : Claimed) (at : ℕ) (fault : BitFault) → AreSameIn bits m c 0 (min c.blocks at) → at ≤ c.blocks → IsFirstIn bits m c at fault → IsFirstIn bits m c 0 fault
first_on bits m c at (Unset block) before inside d = differs_on bits m c at block true before inside d
first_on bits m c at (Extra block) before inside d = differs_on bits m c at block false before inside d
first_on bits m c at (Block fault) before inside d = tt

-- the bytes of a block that was read
pub told_at : (told : Option (ℕ → Option (List ℕ))) (m : ℕ → Option (List ℕ)) (k : ℕ) (bytes : List ℕ) → told ≡ Some m → IsSome (m k) → AreOfBlock told k bytes → m k ≡ Some bytes
told_at told m k bytes is some read = told_is (m k) bytes some (subst (λ (o : Option (ℕ → Option (List ℕ))). AreOfBlock o k bytes) is read)

-- a fault of a part is one of the whole
pub wrong_at : (n at j : ℕ) (m : ℕ → Option (List ℕ)) (c : Claimed) (bytes : List ℕ) (fault : BitFault) → length bytes ≡ n → at ≡ 8 * n * j → at < c.blocks → AreSameIn (8 * n) m c 0 (min c.blocks at)
    → IsFirstIn (8 * length bytes) m c (8 * length bytes * j) fault → IsFirstIn (8 * n) m c 0 fault
wrong_at n at j m c bytes fault long place inside before wrong =
    first_on (8 * n) m c at fault before (omega (arith, inside))
    (subst (λ (x : ℕ). IsFirstIn (8 * n) m c x fault) (sym place) (subst (λ (x : ℕ). IsFirstIn (8 * x) m c (8 * x * j) fault) long wrong))

-- the part behind a place, as a slice shows it
pub part_is : (n : ℕ) (bits all : List ℕ) → bits ≡ all → take (length bits - n) (drop n bits) ≡ drop n all
part_is n bits all is = take_all (length bits - n) (drop n bits) (let e = length-drop n bits in omega (arith, e)) ∙ ap (drop n) is
