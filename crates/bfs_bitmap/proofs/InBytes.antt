-- Bits of bytes that are all set or all clear, and what the write of a byte leaves.
use Rattle.std.proofs.Common.{◌≡◌, ◌≢◌, ◌≤◌, ◌<◌, ◌+◌, ◌*◌, ◌/◌, ◌%◌, ◌^◌, ℕ, List, length, get_or, set, Bool, true, false, not, cond, ◌&&◌, ◌==◌, nat_le, nat_lt, refl, sym, ap, ◌∙◌, arith, ◌⊎◌, inl, inr, take, drop, replicate, ◌-◌}
use Rattle.std.specs.Int.{bit_at, w8, bit_not}
use Rattle.std.specs.Int.RustNames.{bit_or}
use Rattle.std.proofs.lemmas.List.{get_or-set_same, get_or-set_other, get_or-drop, get_or-take, get_or-replicate}
use Rattle.std.proofs.lemmas.Nat.Bits.{bit_at_ones, bit_at-zero, bit_at_set_same, bit_at_set_other, bit_at_clear_same, bit_at_clear_other, shr_and_one}
use lib.Bits.{bit_and}
use Rattle.bfs_bitmap.specs.Bits.{bit_of, is_clear, Fills}

pub clear_test : (bytes : List ℕ) (i : ℕ) → (bit_and (get_or bytes (i / 8) 0 / 2 ^ (i % 8)) 1 == 0) ≡ is_clear bytes i
unfolding bit_of
clear_test bytes i = ap (λ n. n == 0) (shr_and_one (get_or bytes (i / 8) 0) (i % 8))

pub with_set : (n b j : ℕ) → b < 8 → j < 8 → bit_at (bit_or n (1 * 2 ^ b % 2 ^ 8)) j ≡ cond (j == b) 1 (bit_at n j)
with_set n b j h g = here (j == b) refl
  where
    here : (t : Bool) → (j == b) ≡ t → bit_at (bit_or n (1 * 2 ^ b % 2 ^ 8)) j ≡ cond t 1 (bit_at n j)
    here true e = let same : j ≡ b = grind (arith, e) in ap (bit_at (bit_or n (1 * 2 ^ b % 2 ^ 8))) same ∙ bit_at_set_same w8 n b h
    here false e = let ne : j ≢ b = grind (arith, e) in bit_at_set_other w8 n b h j ne

pub with_clear : (n b j : ℕ) → b < 8 → j < 8 → bit_at (bit_and n (bit_not w8 (1 * 2 ^ b % 2 ^ 8))) j ≡ cond (j == b) 0 (bit_at n j)
with_clear n b j h g = here (j == b) refl
  where
    here : (t : Bool) → (j == b) ≡ t → bit_at (bit_and n (bit_not w8 (1 * 2 ^ b % 2 ^ 8))) j ≡ cond t 0 (bit_at n j)
    here true e = let same : j ≡ b = grind (arith, e) in ap (bit_at (bit_and n (bit_not w8 (1 * 2 ^ b % 2 ^ 8)))) same ∙ bit_at_clear_same w8 n b h
    here false e = let ne : j ≢ b = grind (arith, e) in bit_at_clear_other w8 n b h j g ne

whole_bit : (used : Bool) (v j : ℕ) → v ≡ cond used 255 0 → j < 8 → bit_at v j ≡ cond used 1 0
whole_bit true v j e h = ap (λ n. bit_at n j) e ∙ bit_at_ones 8 j h
whole_bit false v j e h = ap (λ n. bit_at n j) e ∙ bit_at-zero j

-- a bit of a byte that is all set, or all clear
pub same_bit : (bytes : List ℕ) (k v : ℕ) (clear : Bool) → v ≡ cond clear 255 0 → get_or bytes (k / 8) 0 ≡ v → is_clear bytes k ≡ not clear
unfolding bit_of
same_bit bytes k v clear e is = ap (λ n. bit_at n (k % 8) == 0) is ∙ ap (λ n. n == 0) (whole_bit clear v (k % 8) e (omega arith)) ∙ here clear
  where
    here : (c : Bool) → (cond c 1 0 == 0) ≡ not c
    here true = refl
    here false = refl

pub same_byte : (bytes : List ℕ) (i v : ℕ) (clear : Bool) → v ≡ cond clear 255 0 → i % 8 ≡ 0 → get_or bytes (i / 8) 0 ≡ v → (k : ℕ) → i ≤ k → k < i + 8 → is_clear bytes k ≡ not clear
same_byte bytes i v clear e whole is k a b = let same : k / 8 ≡ i / 8 = omega arith in same_bit bytes k v clear e (ap (λ n. get_or bytes n 0) same ∙ is)

pub same_eight : (bytes : List ℕ) (i v : ℕ) (clear : Bool) → v ≡ cond clear 255 0 → i % 8 ≡ 0 → ((j : ℕ) → i / 8 ≤ j → j < i / 8 + 8 → get_or bytes j 0 ≡ v) → (k : ℕ) → i ≤ k → k < i + 64 → is_clear bytes k ≡ not clear
same_eight bytes i v clear e whole are k a b = same_bit bytes k v clear e (are (k / 8) (omega arith) (omega arith))

split : (j m : ℕ) → (j ≡ m) ⊎ (j ≢ m)
split j m = grind arith

-- the write of a byte with one bit changed
pub bit_put : (bytes : List ℕ) (i b bit : ℕ) → i < 8 * length bytes → ((j : ℕ) → j < 8 → bit_at b j ≡ cond (j == i % 8) bit (bit_at (get_or bytes (i / 8) 0) j)) → (k : ℕ) → bit_of (set bytes (i / 8) b) k ≡ cond (k == i) bit (bit_of bytes k)
unfolding bit_of
bit_put bytes i b bit inside is k = here (split (k / 8) (i / 8))
  where
    here : (k / 8 ≡ i / 8) ⊎ (k / 8 ≢ i / 8) → bit_at (get_or (set bytes (i / 8) b) (k / 8) 0) (k % 8) ≡ cond (k == i) bit (bit_at (get_or bytes (k / 8) 0) (k % 8))
    here (inl e) =
        let test : (k % 8 == i % 8) ≡ (k == i) = grind (arith, e) in
        ap (λ n. bit_at (get_or (set bytes (i / 8) b) n 0) (k % 8)) e
        ∙ ap (λ n. bit_at n (k % 8)) (get_or-set_same bytes (i / 8) b 0 (omega arith))
        ∙ is (k % 8) (omega arith)
        ∙ ap (λ t. cond t bit (bit_at (get_or bytes (i / 8) 0) (k % 8))) test
        ∙ ap (λ n. cond (k == i) bit (bit_at (get_or bytes n 0) (k % 8))) (sym e)
    here (inr ne) =
        let test : (k == i) ≡ false = grind (arith, ne) in
        ap (λ n. bit_at n (k % 8)) (get_or-set_other bytes (i / 8) (k / 8) b 0 ne) ∙ ap (λ t. cond t bit (bit_at (get_or bytes (k / 8) 0) (k % 8))) (sym test)

-- eight bits at once
pub byte_filled : (from at v : ℕ) (used : Bool) (old now : List ℕ) → from ≤ at → at % 8 ≡ 0 → at / 8 < length now → v ≡ cond used 255 0 → Fills from at (cond used 1 0) old now → Fills from (at + 8) (cond used 1 0) old (set now (at / 8) v)
unfolding bit_of
byte_filled from at v used old now order whole inside e fills k = here (split (k / 8) (at / 8))
  where
    here : (k / 8 ≡ at / 8) ⊎ (k / 8 ≢ at / 8) → bit_at (get_or (set now (at / 8) v) (k / 8) 0) (k % 8) ≡ cond (nat_le from k && nat_lt k (at + 8)) (cond used 1 0) (bit_at (get_or old (k / 8) 0) (k % 8))
    here (inl s) =
        let test : (nat_le from k && nat_lt k (at + 8)) ≡ true = grind (arith, s, whole) in
        ap (λ n. bit_at (get_or (set now (at / 8) v) n 0) (k % 8)) s
        ∙ ap (λ n. bit_at n (k % 8)) (get_or-set_same now (at / 8) v 0 inside)
        ∙ whole_bit used v (k % 8) e (omega arith)
        ∙ ap (λ t. cond t (cond used 1 0) (bit_at (get_or old (k / 8) 0) (k % 8))) (sym test)
    here (inr ne) =
        let test : (nat_le from k && nat_lt k at) ≡ (nat_le from k && nat_lt k (at + 8)) = grind (arith, ne, whole) in
        ap (λ n. bit_at n (k % 8)) (get_or-set_other now (at / 8) (k / 8) v 0 ne) ∙ fills k ∙ ap (λ t. cond t (cond used 1 0) (bit_at (get_or old (k / 8) 0) (k % 8))) test

pub eight_at : (bytes : List ℕ) (at b n : ℕ) → n ≡ 8 → take n (drop at bytes) ≡ replicate 8 b → (j : ℕ) → at ≤ j → j < at + 8 → get_or bytes j 0 ≡ b
eight_at bytes at b n e is j low high =
    let place : at + (j - at) ≡ j = omega arith in
    let lt : j - at < n = omega arith in
    ap (λ (i : ℕ). get_or bytes i 0) (sym place)
    ∙ sym (get_or-drop at bytes (j - at) 0)
    ∙ sym (get_or-take n (drop at bytes) (j - at) 0 lt)
    ∙ ap (λ (l : List ℕ). get_or l (j - at) 0) is
    ∙ get_or-replicate 8 (j - at) b 0 (omega arith)
