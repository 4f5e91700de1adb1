-- What is read after a field was written: at its own place what was written, and at every other place what was there before.
use Rattle.std.proofs.Common.{◌≡◌, ◌⊎◌, ◌≤◌, ◌<◌, ◌+◌, ◌-◌, ◌^◌, ℕ, ℤ, List, ◌++◌, length, take, drop, ap, sym, ◌∙◌, subst, arith, inl, inr, length-append, length-take, length-drop, append_assoc, FitsSigned}
use Rattle.std.specs.Int.{w32, w64, cast_signed, cast_unsigned}
use Rattle.std.proofs.lemmas.Int.{to_z-of_z}
use Rattle.std.proofs.lemmas.List.{take-append-le, drop-append-le, drop-take, take-take, drop-drop, drop_at}
use Rattle.std.proofs.Math.Seq.{drop-append-add}
use Rattle.std.proofs.Math.Facts.{Fits-lt-pow}
use mir.ValLaws.{of_z_fits}
use Rattle.byteorder.specs.Endian.{little_number}
use Rattle.byteorder.specs.Numbers.{little_from-take, little_number-reads_back}
use Rattle.bfs_bytes.specs.declared.Run.{Run}
use Rattle.bfs_bytes.specs.Fields.{Puts, unsigned_at, signed32_at, signed64_at, run_in, unsigned_bytes, signed32_bytes, signed64_bytes, run_bytes}

-- n bytes from a on lie before k bytes from at on, or behind them
abbrev pub AreApart : ℕ → ℕ → ℕ → ℕ → Type 0
AreApart a n at k = (a + n ≤ at) ⊎ (at + k ≤ a)

-- a write keeps the length
pub puts-length : (at : ℕ) (field old new : List ℕ) → Puts at field old new → at + length field ≤ length old → length new ≡ length old
puts-length at field old new e fits =
    ap length e ∙ omega (arith, length-append (take at old ++ field) (drop (at + length field) old), length-append (take at old) field, length-take at old, length-drop (at + length field) old)

part-before : (p bs : List ℕ) (at a n : ℕ) → a + n ≤ at → at + length bs ≤ length p → take n (drop a (take at p ++ bs ++ drop (at + length bs) p)) ≡ take n (drop a p)
part-before p bs at a n h f =
    let cut : at ≡ a + (at - a) = omega arith in
    let inner : drop a (take at p) ≡ take (at - a) (drop a p) = ap (λ k. drop a (take k p)) cut ∙ drop-take a (at - a) p in
    let le1 : a ≤ length (take at p) = omega (arith, length-take at p) in
    let le2 : n ≤ length (take (at - a) (drop a p)) = omega (arith, length-take (at - a) (drop a p), length-drop a p) in
    ap (λ l. take n (drop a l)) (append_assoc (take at p) bs (drop (at + length bs) p))
    ∙ ap (λ l. take n l) (drop-append-le a (take at p) (bs ++ drop (at + length bs) p) le1)
    ∙ ap (λ l. take n (l ++ (bs ++ drop (at + length bs) p))) inner
    ∙ take-append-le n (take (at - a) (drop a p)) (bs ++ drop (at + length bs) p) le2
    ∙ take-take n (at - a) (drop a p) (omega arith)

-- what stands behind a field stays
rest-kept : (p bs : List ℕ) (at a : ℕ) → at + length bs ≤ a → at + length bs ≤ length p → drop a (take at p ++ bs ++ drop (at + length bs) p) ≡ drop a p
rest-kept p bs at a h f =
    let front : length (take at p ++ bs) ≡ at + length bs = omega (arith, length-take at p, length-append (take at p) bs) in
    let cut : a ≡ length (take at p ++ bs) + (a - (at + length bs)) = omega arith in
    let back : at + length bs + (a - (at + length bs)) ≡ a = omega arith in
    ap (λ k. drop k (take at p ++ bs ++ drop (at + length bs) p)) cut
    ∙ drop-append-add (take at p ++ bs) (drop (at + length bs) p) (a - (at + length bs))
    ∙ drop-drop (a - (at + length bs)) (at + length bs) p
    ∙ ap (λ k. drop k p) back

module _ (at : ℕ) (field old new : List ℕ) (puts : Puts at field old new) (fits : at + length field ≤ length old) where
  -- the bytes at another place
  pub bytes-kept : (a n : ℕ) → AreApart a n at (length field) → take n (drop a new) ≡ take n (drop a old)
  bytes-kept a n (inl before) = ap (λ l. take n (drop a l)) puts ∙ part-before old field at a n before fits
  bytes-kept a n (inr behind) = ap (λ l. take n (drop a l)) puts ∙ ap (take n) (rest-kept old field at a behind fits)

  -- all bytes behind the field
  pub rest-kept_behind : (a : ℕ) → at + length field ≤ a → drop a new ≡ drop a old
  rest-kept_behind a behind = ap (drop a) puts ∙ rest-kept old field at a behind fits

  -- the bytes at the field's own place
  pub bytes-put : drop at new ≡ field ++ drop (at + length field) old
  bytes-put =
      ap (drop at) puts ∙ ap (drop at) (append_assoc (take at old) field (drop (at + length field) old))
      ∙ drop_at (take at old) (field ++ drop (at + length field) old) at (omega (arith, length-take at old))

  -- a number at another place
  pub unsigned-kept : (n a : ℕ) → AreApart a n at (length field) → unsigned_at n new a ≡ unsigned_at n old a
  unfolding unsigned_at
  unsigned-kept n a apart =
      sym (little_from-take 0 n n (drop a new) (omega arith)) ∙ ap (little_number n) (bytes-kept a n apart) ∙ little_from-take 0 n n (drop a old) (omega arith)

  pub signed32-kept : (a : ℕ) → AreApart a 4 at (length field) → signed32_at new a ≡ signed32_at old a
  unfolding signed32_at
  signed32-kept a apart = ap (cast_signed w32) (unsigned-kept 4 a apart)

  pub signed64-kept : (a : ℕ) → AreApart a 8 at (length field) → signed64_at new a ≡ signed64_at old a
  unfolding signed64_at
  signed64-kept a apart = ap (cast_signed w64) (unsigned-kept 8 a apart)

  part_apart : (a n m k : ℕ) → m + k ≤ n → AreApart a n at (length field) → AreApart (a + m) k at (length field)
  part_apart a n m k h (inl before) = inl (omega arith)
  part_apart a n m k h (inr behind) = inr (omega arith)

  pub run-kept : (a : ℕ) → AreApart a 8 at (length field) → run_in new a ≡ run_in old a
  unfolding run_in
  run-kept a apart =
      let start : AreApart a 4 at (length field) = subst (λ k. AreApart k 4 at (length field)) (omega arith) (part_apart a 8 0 4 (omega arith) apart) in
      let g = signed32-kept a start in
      let s = unsigned-kept 2 (a + 4) (part_apart a 8 4 2 (omega arith) apart) in
      let l = unsigned-kept 2 (a + 6) (part_apart a 8 6 2 (omega arith) apart) in
      λ t. record { group = g t; start = s t; len = l t }

-- a number that fits its bytes reads as itself where it was written
module _ (at : ℕ) (old new : List ℕ) where
  pub unsigned-put : (n x : ℕ) → Puts at (unsigned_bytes n x) old new → at + length (unsigned_bytes n x) ≤ length old → x < 256 ^ n → unsigned_at n new at ≡ x
  unfolding unsigned_at unsigned_bytes
  unsigned-put n x puts fits small =
      ap (little_number n) (bytes-put at (unsigned_bytes n x) old new puts fits)
      ∙ little_number-reads_back n x (drop (at + length (unsigned_bytes n x)) old) small

  pub signed32-put : (z : ℤ) → Puts at (signed32_bytes z) old new → at + 4 ≤ length old → FitsSigned w32 z → signed32_at new at ≡ z
  unfolding signed32_at signed32_bytes unsigned_bytes
  signed32-put z puts fits range =
      ap (cast_signed w32) (unsigned-put 4 (cast_unsigned w32 z) puts fits (omega (arith, Fits-lt-pow {w = w32} (of_z_fits w32 z range))))
      ∙ to_z-of_z w32 z range

  pub signed64-put : (z : ℤ) → Puts at (signed64_bytes z) old new → at + 8 ≤ length old → FitsSigned w64 z → signed64_at new at ≡ z
  unfolding signed64_at signed64_bytes unsigned_bytes
  signed64-put z puts fits range =
      ap (cast_signed w64) (unsigned-put 8 (cast_unsigned w64 z) puts fits (omega (arith, Fits-lt-pow {w = w64} (of_z_fits w64 z range))))
      ∙ to_z-of_z w64 z range

  -- a run
  pub run-put : (run : Run) → Puts at (run_bytes run) old new → at + 8 ≤ length old → FitsSigned w32 run.group → run.start < 2 ^ 16 → run.len < 2 ^ 16 → run_in new at ≡ run
  unfolding run_in run_bytes signed32_at signed32_bytes unsigned_at unsigned_bytes
  run-put run puts fits group_fits start_fits len_fits =
      let rest : List ℕ = drop (at + 8) old in
      let whole : drop at new ≡ run_bytes run ++ drop (at + 8) old = bytes-put at (run_bytes run) old new puts fits in
      let at4 : drop (at + 4) new ≡ unsigned_bytes 2 run.start ++ (unsigned_bytes 2 run.len ++ drop (at + 8) old) = sym (drop-drop 4 at new) ∙ ap (drop 4) whole in
      let at6 : drop (at + 6) new ≡ unsigned_bytes 2 run.len ++ drop (at + 8) old = sym (drop-drop 6 at new) ∙ ap (drop 6) whole in
      let g : signed32_at new at ≡ run.group =
      ap (cast_signed w32) (ap (little_number 4) whole ∙ little_number-reads_back 4 (cast_unsigned w32 run.group) (unsigned_bytes 2 run.start ++ (unsigned_bytes 2 run.len ++ drop (at + 8) old)) (omega (arith, Fits-lt-pow {w = w32} (of_z_fits w32 run.group group_fits))))
      ∙ to_z-of_z w32 run.group group_fits in
      let s : unsigned_at 2 new (at + 4) ≡ run.start = ap (little_number 2) at4 ∙ little_number-reads_back 2 run.start (unsigned_bytes 2 run.len ++ drop (at + 8) old) (omega arith) in
      let l : unsigned_at 2 new (at + 6) ≡ run.len = ap (little_number 2) at6 ∙ little_number-reads_back 2 run.len (drop (at + 8) old) (omega arith) in
      λ t. record { group = g t; start = s t; len = l t }
