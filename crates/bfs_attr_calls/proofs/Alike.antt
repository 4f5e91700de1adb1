-- The data stream in an inode's block, by the bytes in which it stands.
use Rattle.std.proofs.Common.{◌≡◌, ◌≤◌, ◌+◌, ◌-◌, ◌*◌, ℕ, zero, suc, List, ◌∷◌, take, drop, refl, sym, ◌∙◌, ap, ap₂, arith}
use Rattle.std.specs.Int.{w32, w64, cast_signed}
use Rattle.bfs_bytes.specs.declared.Run.{Run}
use Rattle.bfs_bytes.specs.Fields.{unsigned_at, signed32_at, signed64_at, run_in}
use Rattle.bfs_inode.specs.Inode.{runs_in, stream_at}
use Rattle.bfs_smalldata.proofs.Reading.{unsigned_dropped, unsigned_taken}

module _ (a b : List ℕ) (same : take 144 (drop 72 a) ≡ take 144 (drop 72 b)) where
  unsigned_part : (n at : ℕ) → 72 ≤ at → at + n ≤ 216 → unsigned_at n a at ≡ unsigned_at n b at
  unsigned_part n at low high =
      let place : 72 + (at - 72) ≡ at = omega (arith, low) in
      let fits : (at - 72) + n ≤ 144 = omega (arith, low, high) in
      ap (unsigned_at n a) (sym place) ∙ sym (unsigned_dropped n a 72 (at - 72)) ∙ sym (unsigned_taken n 144 (drop 72 a) (at - 72) fits)
      ∙ ap (λ (l : List ℕ). unsigned_at n l (at - 72)) same
      ∙ unsigned_taken n 144 (drop 72 b) (at - 72) fits ∙ unsigned_dropped n b 72 (at - 72) ∙ ap (unsigned_at n b) place

  signed32_part : (at : ℕ) → 72 ≤ at → at + 4 ≤ 216 → signed32_at a at ≡ signed32_at b at
  unfolding signed32_at
  signed32_part at low high = ap (cast_signed w32) (unsigned_part 4 at low high)

  signed64_part : (at : ℕ) → 72 ≤ at → at + 8 ≤ 216 → signed64_at a at ≡ signed64_at b at
  unfolding signed64_at
  signed64_part at low high = ap (cast_signed w64) (unsigned_part 8 at low high)

  run_part : (at : ℕ) → 72 ≤ at → at + 8 ≤ 216 → run_in a at ≡ run_in b at
  unfolding run_in
  run_part at low high =
      let group = signed32_part at low (omega (arith, high)) in
      let start = unsigned_part 2 (at + 4) (omega (arith, low)) (omega (arith, high)) in
      let len = unsigned_part 2 (at + 6) (omega (arith, low)) (omega (arith, high)) in
      λ i. record { group = group i; start = start i; len = len i }

  runs_part : (n at : ℕ) → 72 ≤ at → at + 8 * n ≤ 216 → runs_in n a at ≡ runs_in n b at
  unfolding runs_in
  runs_part zero at low high = refl
  runs_part (suc n) at low high = ap₂ (λ (r : Run) (l : List Run). r ∷ l) (run_part at low (omega (arith, high))) (runs_part n (at + 8) (omega (arith, low)) (omega (arith, high)))

  -- where the bytes of the streams are the same, so are the streams
  pub stream_alike : stream_at a ≡ stream_at b
  stream_alike = λ i. record {
    direct = runs_part 12 72 (omega arith) (omega arith) i;
    max_direct_range = signed64_part 168 (omega arith) (omega arith) i;
    indirect = run_part 176 (omega arith) (omega arith) i;
    max_indirect_range = signed64_part 184 (omega arith) (omega arith) i;
    double_indirect = run_part 192 (omega arith) (omega arith) i;
    max_double_indirect_range = signed64_part 200 (omega arith) (omega arith) i;
    size = signed64_part 208 (omega arith) (omega arith) i;
  }
