-- The sectors of a list of bytes, and of one in which some were written over.
use Rattle.std.proofs.Common.{◌≡◌, ℕ, zero, suc, ◌+◌, ◌-◌, ◌*◌, ◌<◌, ◌≤◌, List, [], ◌∷◌, ◌++◌, length, take, drop, refl, sym, ◌∙◌, ap, arith, append_assoc, length-append, length-drop}
use Rattle.std.proofs.lemmas.List.{take-append-drop, length-take-le, take-take, take-append-le, drop-append-le, drop-take, drop-drop, take_all, take_at, drop_at}
use Rattle.std.proofs.Math.Seq.{drop-append-add, take-add}
use Rattle.bfs_base.specs.Images.{sector, joined, overwritten}

-- a sector in the first of two parts
sector_left : (k : ℕ) (a b : List ℕ) → 512 * k + 512 ≤ length a → sector k (a ++ b) ≡ sector k a
sector_left k a b fits =
    ap (take 512) (drop-append-le (512 * k) a b (omega arith))
    ∙ take-append-le 512 (drop (512 * k) a) b (omega (arith, length-drop (512 * k) a))

-- a place in the second of two parts
drop_right : (n j : ℕ) (a b : List ℕ) → length a + j ≡ n → drop n (a ++ b) ≡ drop j b
drop_right n j a b e = ap (λ (m : ℕ). drop m (a ++ b)) (sym e) ∙ drop-append-add a b j

-- a sector in front of a place
sector_take : (k m : ℕ) (old : List ℕ) → 512 * k + 512 ≤ m → sector k (take m old) ≡ sector k old
sector_take k m old fits =
    ap (λ (n : ℕ). take 512 (drop (512 * k) (take n old))) (omega arith)
    ∙ ap (take 512) (drop-take (512 * k) (m - 512 * k) old)
    ∙ take-take 512 (m - 512 * k) (drop (512 * k) old) (omega arith)

module _ (at n : ℕ) (from old : List ℕ) (fits : 512 * at + length from ≤ length old) (whole : length from ≡ 512 * n) where
  abbrev pub pasted : List ℕ
  pasted = overwritten at from old

  front : length (take (512 * at) old) ≡ 512 * at
  front = length-take-le (512 * at) old (omega arith)

  regrouped : pasted ≡ take (512 * at) old ++ (from ++ drop (512 * at + length from) old)
  regrouped = append_assoc (take (512 * at) old) from (drop (512 * at + length from) old)

  pub sector_before : (k : ℕ) → k < at → sector k pasted ≡ sector k old
  sector_before k lt =
      ap (sector k) regrouped
      ∙ sector_left k (take (512 * at) old) (from ++ drop (512 * at + length from) old) (omega (arith, front))
      ∙ sector_take k (512 * at) old (omega arith)

  pub sector_inside : (k : ℕ) → at ≤ k → k < at + n → sector k pasted ≡ sector (k - at) from
  sector_inside k low high =
      ap (sector k) regrouped
      ∙ ap (take 512) (drop_right (512 * k) (512 * (k - at)) (take (512 * at) old) (from ++ drop (512 * at + length from) old) (omega (arith, front)))
      ∙ sector_left (k - at) from (drop (512 * at + length from) old) (omega arith)

  pub sector_after : (k : ℕ) → at + n ≤ k → sector k pasted ≡ sector k old
  sector_after k low =
      ap (take 512) (drop_right (512 * k) (512 * (k - at - n)) (take (512 * at) old ++ from) (drop (512 * at + length from) old) (omega (arith, front, length-append (take (512 * at) old) from)))
      ∙ ap (take 512) (drop-drop (512 * (k - at - n)) (512 * at + length from) old ∙ ap (λ (m : ℕ). drop m old) (omega arith))

  pub length-pasted : length pasted ≡ length old
  length-pasted = omega (arith, front, length-append (take (512 * at) old ++ from) (drop (512 * at + length from) old), length-append (take (512 * at) old) from, length-drop (512 * at + length from) old)

-- a sector of a part
pub sector_part : (at k n : ℕ) (bytes : List ℕ) → 512 * k + 512 ≤ n → sector k (take n (drop (512 * at) bytes)) ≡ sector (at + k) bytes
sector_part at k n bytes fits =
    sector_take k n (drop (512 * at) bytes) fits
    ∙ ap (take 512) (drop-drop (512 * k) (512 * at) bytes ∙ ap (λ (m : ℕ). drop m bytes) (omega arith))

nil_of : (a : List ℕ) → length a ≤ 0 → a ≡ []
nil_of [] h = refl
nil_of (x ∷ a) h = absurd (omega arith)

sector_next : (k : ℕ) (a : List ℕ) → sector (suc k) a ≡ sector k (drop 512 a)
sector_next k a = ap (take 512) (ap (λ (m : ℕ). drop m a) (omega arith) ∙ sym (drop-drop (512 * k) 512 a))

length_next : (a : List ℕ) → length (drop 512 a) ≡ length a - 512
length_next a = length-drop 512 a

-- bytes with the same sectors are the same
pub same_sectors : (n : ℕ) (a b : List ℕ) → length a ≡ length b → length a ≤ 512 * n → ((k : ℕ) → k < n → sector k a ≡ sector k b) → a ≡ b
same_sectors zero a b len fits same = nil_of a (omega arith) ∙ sym (nil_of b (omega arith))
same_sectors (suc n) a b len fits same =
    let rest : drop 512 a ≡ drop 512 b = same_sectors n (drop 512 a) (drop 512 b) (omega (arith, length_next a, length_next b)) (omega (arith, length_next a))
    (λ k lt. sym (sector_next k a) ∙ same (suc k) (omega arith) ∙ sector_next k b) in
    sym (take-append-drop 512 a) ∙ ap (λ (l : List ℕ). l ++ drop 512 a) (same 0 (omega arith)) ∙ ap (λ (l : List ℕ). take 512 b ++ l) rest ∙ take-append-drop 512 b

pub length-joined : (n : ℕ) (f : ℕ → List ℕ) → ((j : ℕ) → j < n → length (f j) ≡ 512) → length (joined n f) ≡ 512 * n
length-joined zero f long = refl
length-joined (suc n) f long = omega (arith, length-append (f 0) (joined n (λ j. f (suc j))), long 0 (omega arith), length-joined n (λ j. f (suc j)) (λ j lt. long (suc j) (omega arith)))

pub sector-joined : (n : ℕ) (f : ℕ → List ℕ) (j : ℕ) → ((j : ℕ) → j < n → length (f j) ≡ 512) → j < n → sector j (joined n f) ≡ f j
sector-joined zero f j long lt = absurd (omega arith)
sector-joined (suc n) f zero long lt =
    let first : length (f 0) ≡ 512 = long 0 (omega arith) in
    take-append-le 512 (f 0) (joined n (λ j. f (suc j))) (omega (arith, first)) ∙ take_all 512 (f 0) (omega (arith, first))
sector-joined (suc n) f (suc j) long lt =
    let first : length (f 0) ≡ 512 = long 0 (omega arith) in
    let e : 512 * suc j ≡ length (f 0) + 512 * j = omega (arith, first) in
    ap (λ (m : ℕ). take 512 (drop m (f 0 ++ joined n (λ i. f (suc i))))) e
    ∙ ap (take 512) (drop-append-add (f 0) (joined n (λ i. f (suc i))) (512 * j))
    ∙ sector-joined n (λ i. f (suc i)) j (λ i below. long (suc i) (omega arith)) (omega arith)

-- bytes written over, and what they replaced
module _ (at : ℕ) (from old : List ℕ) (fits : 512 * at + length from ≤ length old) where
  front_long : length (take (512 * at) old) ≡ 512 * at
  front_long = length-take-le (512 * at) old (omega arith)

  grouped : overwritten at from old ≡ take (512 * at) old ++ (from ++ drop (512 * at + length from) old)
  grouped = append_assoc (take (512 * at) old) from (drop (512 * at + length from) old)

  -- the part that was written
  pub part_overwritten : take (length from) (drop (512 * at) (overwritten at from old)) ≡ from
  part_overwritten =
      ap (λ (l : List ℕ). take (length from) (drop (512 * at) l)) grouped
      ∙ ap (take (length from)) (drop_at (take (512 * at) old) (from ++ drop (512 * at + length from) old) (512 * at) front_long)
      ∙ take_at from (drop (512 * at + length from) old) (length from) refl

  -- putting back what was replaced
  pub put_back : overwritten at (take (length from) (drop (512 * at) old)) (overwritten at from old) ≡ old
  put_back =
      let n = length from in
      let a = 512 * at in
      let replaced = take n (drop a old) in
      let long : length replaced ≡ n = length-take-le n (drop a old) (omega (arith, length-drop a old)) in
      let both : length (take a old ++ from) ≡ a + n = omega (arith, length-append (take a old) from, front_long) in
      ap (λ (l : List ℕ). l ++ replaced ++ drop (a + length replaced) (overwritten at from old)) (ap (take a) grouped ∙ take_at (take a old) (from ++ drop (a + n) old) a front_long)
      ∙ ap (λ (l : List ℕ). take a old ++ replaced ++ l) (ap (λ (m : ℕ). drop (a + m) (overwritten at from old)) long ∙ drop_at (take a old ++ from) (drop (a + n) old) (a + n) both)
      ∙ ap (λ (l : List ℕ). l ++ drop (a + n) old) (sym (take-add a n old))
      ∙ take-append-drop (a + n) old
