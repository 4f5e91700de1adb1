-- A block in which a part was written.
use Rattle.std.proofs.Common.{◌≡◌, ◌⊎◌, ⊎_elim, ◌<◌, ◌≤◌, ◌+◌, ◌-◌, ℕ, List, ◌++◌, length, take, drop, get_or, Some, sym, ◌∙◌, ap, arith, length-append, length-drop}
use Rattle.std.specs.Prelude.{slice_get}
use Rattle.std.proofs.lemmas.List.{length-take-le, drop-drop, get_or-drop, get_or-take}
use Rattle.std.proofs.lemmas.Option.{slice_get-get_or, slice_get_within}
use Rattle.std.proofs.Math.Seq.{take-add}
use Rattle.std.proofs.lemmas.Slice.{take-put_mid}
use Rattle.bfs_stream.proofs.Levels.{get_left, get_right}
use Rattle.bfs_pieces.specs.Parts.{IsPartOf}

-- a part of a block's bytes is in them
pub part_of : (block : List ℕ) (skip n : ℕ) → skip + n ≤ length block → IsPartOf block skip (take n (drop skip block))
part_of block skip n fits k lt =
    let long : length (take n (drop skip block)) ≡ n = length-take-le n (drop skip block) (omega (arith, fits, length-drop skip block)) in
    let low : k < n = omega (arith, long, lt) in
    slice_get-get_or block (skip + k) 0 (omega (arith, fits, low)) ∙ ap (λ (b : ℕ). Some b) (sym (get_or-take n (drop skip block) k 0 low ∙ get_or-drop skip block k 0))

-- so is all of it
pub whole_part : (bytes : List ℕ) → IsPartOf bytes 0 bytes
whole_part bytes k lt = ap (slice_get bytes) (let e : 0 + k ≡ k = omega arith in e) ∙ slice_get-get_or bytes k 0 lt

module _ (old part : List ℕ) (skip : ℕ) (fits : skip + length part ≤ length old) where
  abbrev pub patched : List ℕ
  patched = take skip old ++ (part ++ drop (skip + length part) old)

  front : length (take skip old) ≡ skip
  front = length-take-le skip old (omega (arith, fits))

  pub length-patched : length patched ≡ length old
  length-patched = omega (arith, front, fits, length-append (take skip old) (part ++ drop (skip + length part) old), length-append part (drop (skip + length part) old), length-drop (skip + length part) old)

  in_front : (i byte : ℕ) → i < skip → slice_get old i ≡ Some byte → slice_get patched i ≡ Some byte
  in_front i byte lt is =
      let low : i < length old = slice_get_within old i byte is in
      get_left (take skip old) (part ++ drop (skip + length part) old) i (omega (arith, front, lt))
      ∙ slice_get-get_or (take skip old) i 0 (omega (arith, front, lt))
      ∙ ap (λ (b : ℕ). Some b) (get_or-take skip old i 0 lt)
      ∙ sym (slice_get-get_or old i 0 low)
      ∙ is

  behind : (i byte : ℕ) → skip + length part ≤ i → slice_get old i ≡ Some byte → slice_get patched i ≡ Some byte
  behind i byte le is =
      let low : i < length old = slice_get_within old i byte is in
      let j = i - length (take skip old) - length part in
      let e : skip + length part + j ≡ i = omega (arith, front, le) in
      get_right (take skip old) (part ++ drop (skip + length part) old) i (omega (arith, front, le))
      ∙ get_right part (drop (skip + length part) old) (i - length (take skip old)) (omega (arith, front, le))
      ∙ slice_get-get_or (drop (skip + length part) old) j 0 (omega (arith, low, e, length-drop (skip + length part) old))
      ∙ ap (λ (b : ℕ). Some b) (get_or-drop (skip + length part) old j 0 ∙ ap (λ (n : ℕ). get_or old n 0) e)
      ∙ sym (slice_get-get_or old i 0 low)
      ∙ is

  -- the other bytes stay
  pub patched_else : (i byte : ℕ) → (i < skip) ⊎ (skip + length part ≤ i) → slice_get old i ≡ Some byte → slice_get patched i ≡ Some byte
  patched_else i byte other is = ⊎_elim (λ lt. in_front i byte lt is) (λ le. behind i byte le is) other

  -- and the part is in it
  pub patched_part : IsPartOf patched skip part
  patched_part k lt =
      get_right (take skip old) (part ++ drop (skip + length part) old) (skip + k) (omega (arith, front))
      ∙ ap (slice_get (part ++ drop (skip + length part) old)) (let e : skip + k - length (take skip old) ≡ k = omega (arith, front) in e)
      ∙ get_left part (drop (skip + length part) old) k lt
      ∙ slice_get-get_or part k 0 lt

  -- as a write to a part of a slice leaves it
  pub put_patched : (put : List ℕ) → put ≡ part → take skip old ++ (put ++ drop (skip + length part - skip) (drop skip old)) ≡ patched
  put_patched put is =
      ap (λ (xs : List ℕ). take skip old ++ (xs ++ drop (skip + length part - skip) (drop skip old))) is
      ∙ ap (λ (xs : List ℕ). take skip old ++ (part ++ xs)) (drop-drop (skip + length part - skip) skip old ∙ ap (λ (n : ℕ). drop n old) (let e : skip + (skip + length part - skip) ≡ skip + length part = omega arith in e))

-- a part of a slice was written: what is in front of its end, and the length
pub part_taken : (done n : ℕ) (into part : List ℕ) → done + n ≤ length into → length part ≡ n → take (done + n) (take done into ++ (part ++ drop (done + n - done) (drop done into))) ≡ take done into ++ part
part_taken done n into part fits long = take-put_mid done (done + n - done) into part (done + n) (omega (arith, long)) (omega (arith, fits))

pub part_long : (done n : ℕ) (into part : List ℕ) → done + n ≤ length into → length part ≡ n → length (take done into ++ (part ++ drop (done + n - done) (drop done into))) ≡ length into
part_long done n into part fits long =
    let front : length (take done into) ≡ done = length-take-le done into (omega (arith, fits)) in
    omega (arith, front, fits, long, length-append (take done into) (part ++ drop (done + n - done) (drop done into)), length-append part (drop (done + n - done) (drop done into)), length-drop (done + n - done) (drop done into), length-drop done into)

pub part_length : (done n : ℕ) (into : List ℕ) → done + n ≤ length into → length (take (done + n - done) (drop done into)) ≡ n
part_length done n into fits = let e : done + n - done ≡ n = omega arith in length-take-le (done + n - done) (drop done into) (omega (arith, fits, length-drop done into)) ∙ e

pub parts_joined : (done n : ℕ) (bytes : List ℕ) → take (done + n) bytes ≡ take done bytes ++ take (done + n - done) (drop done bytes)
parts_joined done n bytes = take-add done n bytes ∙ ap (λ (k : ℕ). take done bytes ++ take k (drop done bytes)) (let e : n ≡ done + n - done = omega arith in e)
