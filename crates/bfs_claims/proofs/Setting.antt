-- Bits of bytes that are set one by one or eight at a time.
use Rattle.std.proofs.Common.{◌≡◌, ◌≤◌, ◌<◌, ◌+◌, ◌/◌, ◌%◌, ℕ, List, length, get_or, set, true, false, refl, arith, ◌⊎◌, inl, inr}
use Rattle.bfs_bitmap.specs.Bits.{is_clear, Fills}
use Rattle.bfs_bitmap.proofs.InBytes.{same_byte, byte_filled}

-- eight bits of a byte that is zero are clear
pub zero_byte : (bytes : List ℕ) (i : ℕ) → i % 8 ≡ 0 → get_or bytes (i / 8) 0 ≡ 0 → (k : ℕ) → i ≤ k → k < i + 8 → is_clear bytes k ≡ true
zero_byte bytes i whole is k a b = same_byte bytes i 0 false refl whole is k a b

-- eight bits are set at once
pub eight_set : (from at : ℕ) (old now : List ℕ) → from ≤ at → at % 8 ≡ 0 → at / 8 < length now → Fills from at 1 old now → Fills from (at + 8) 1 old (set now (at / 8) 255)
eight_set from at old now order whole inside fills = byte_filled from at 255 true old now order whole inside refl fills

-- and behind others that are clear
pub with_eight : (bytes : List ℕ) (from at : ℕ) → at % 8 ≡ 0 → get_or bytes (at / 8) 0 ≡ 0 → ((k : ℕ) → from ≤ k → k < at → is_clear bytes k ≡ true) → (k : ℕ) → from ≤ k → k < at + 8 → is_clear bytes k ≡ true
with_eight bytes from at whole is before k low high = here (side k)
  where
    side : (k : ℕ) → (k < at) ⊎ (at ≤ k)
    side k = grind arith

    here : (k < at) ⊎ (at ≤ k) → is_clear bytes k ≡ true
    here (inl lt) = before k low lt
    here (inr le) = zero_byte bytes at whole is k le high
