-- A part of one block among the bytes of several.
use Rattle.std.proofs.Common.{◌≡◌, ◌≢◌, ◌≤◌, ◌<◌, ◌+◌, ◌-◌, ◌*◌, ◌∙◌, ℕ, zero, suc, List, [], ◌∷◌, ◌++◌, length, take, drop, Some, refl, sym, ap, ap₂, subst, arith, append_assoc, length-append}
use Rattle.std.specs.Prelude.{slice_get}
use Rattle.std.specs.List.{flat_map}
use Rattle.std.proofs.lemmas.List.{take-append-drop, length-take-le, take_at, take-append-le, drop-append-le, length-drop}
use Rattle.std.proofs.Math.Seq.{drop-append-add, take-append-add}
use Rattle.bfs_base.specs.Lists.{times, Has}
use Rattle.bfs_txn.specs.Pages.{with_page}

-- n more of a list in two parts, by the length of the first
drop_behind : (k n : ℕ) (xs ys : List ℕ) → length xs ≡ k → drop (k + n) (xs ++ ys) ≡ drop n ys
drop_behind k n xs ys e = subst (λ (j : ℕ). drop (j + n) (xs ++ ys) ≡ drop n ys) e (drop-append-add xs ys n)

take_behind : (k n : ℕ) (xs ys : List ℕ) → length xs ≡ k → take (k + n) (xs ++ ys) ≡ xs ++ take n ys
take_behind k n xs ys e = subst (λ (j : ℕ). take (j + n) (xs ++ ys) ≡ xs ++ take n ys) e (take-append-add xs ys n)

-- a page written behind a first part, or in it
write_behind : (k at : ℕ) (page xs ys : List ℕ) → length xs ≡ k → with_page (k + at) page (xs ++ ys) ≡ xs ++ with_page at page ys
write_behind k at page xs ys e =
    let same : k + at + length page ≡ k + (at + length page) = omega arith in
    ap₂ (λ (a b : List ℕ). (a ++ page) ++ b) (take_behind k at xs ys e) (ap (λ (n : ℕ). drop n (xs ++ ys)) same ∙ drop_behind k (at + length page) xs ys e)
    ∙ ap (λ (l : List ℕ). l ++ drop (at + length page) ys) (append_assoc xs (take at ys) page)
    ∙ append_assoc xs (take at ys ++ page) (drop (at + length page) ys)

write_inside : (at : ℕ) (page xs ys : List ℕ) → at + length page ≤ length xs → with_page at page (xs ++ ys) ≡ with_page at page xs ++ ys
write_inside at page xs ys low =
    ap₂ (λ (a b : List ℕ). (a ++ page) ++ b) (take-append-le at xs ys (omega (arith, low))) (drop-append-le (at + length page) xs ys low)
    ∙ sym (append_assoc (take at xs ++ page) (drop (at + length page) xs) ys)

-- a page written inside of the first n, which are then cut off
pub take_write : (n at : ℕ) (page xs : List ℕ) → at + length page ≤ n → n ≤ length xs → take n (with_page at page xs) ≡ with_page at page (take n xs)
take_write n at page xs low inside =
    let parts : take n xs ++ drop n xs ≡ xs = take-append-drop n xs in
    let long : length (take n xs) ≡ n = length-take-le n xs inside in
    let written : with_page at page xs ≡ with_page at page (take n xs) ++ drop n xs =
    ap (with_page at page) (sym parts) ∙ write_inside at page (take n xs) (drop n xs) (omega (arith, low, long)) in
    ap (take n) written ∙ take_at (with_page at page (take n xs)) (drop n xs) n (length_write at page (take n xs) (omega (arith, low, long)) ∙ long)
  where
    length_write : (at : ℕ) (page xs : List ℕ) → at + length page ≤ length xs → length (with_page at page xs) ≡ length xs
    length_write at page xs low =
        let a : length (with_page at page xs) ≡ length (take at xs ++ page) + length (drop (at + length page) xs) = length-append (take at xs ++ page) (drop (at + length page) xs) in
        let b = length-append (take at xs) page in
        let c : length (take at xs) ≡ at = length-take-le at xs (omega (arith, low)) in
        let d : length (drop (at + length page) xs) ≡ length xs - (at + length page) = length-drop (at + length page) xs in
        omega (arith, a, b, c, d, low)

-- a page written behind the first n
pub take_added : (n : ℕ) (page xs : List ℕ) → n + length page ≤ length xs → take (n + length page) (with_page n page xs) ≡ take n xs ++ page
take_added n page xs low =
    let first : length (take n xs) ≡ n = length-take-le n xs (omega (arith, low)) in
    take_at (take n xs ++ page) (drop (n + length page) xs) (n + length page) (length-append (take n xs) page ∙ ap (λ (k : ℕ). k + length page) first)

module _ (size : ℕ) where
  -- each block of a list has a block's length
  abbrev pub AreBlocks : (ℕ → List ℕ) → List ℕ → Type 0
  AreBlocks blocks xs = (k : ℕ) → Has xs k → length (blocks k) ≡ size

  module _ (blocks : ℕ → List ℕ) where
    first_block : (x : ℕ) (xs : List ℕ) → AreBlocks blocks (x ∷ xs) → length (blocks x) ≡ size
    first_block x xs are = are x (has_first x xs)
      where
        has_first : (x : ℕ) (xs : List ℕ) → Has (x ∷ xs) x
        has_first x xs = let e : times x (x ∷ xs) ≡ 1 + times x xs = grind arith in omega (arith, e)

    rest_blocks : (x : ℕ) (xs : List ℕ) → AreBlocks blocks (x ∷ xs) → AreBlocks blocks xs
    rest_blocks x xs are k has = are k (let h : 0 < times k xs = has in omega (arith, h))

    -- a part of a block is that part of all bytes
    pub part_of : (xs : List ℕ) (i n at len : ℕ) → AreBlocks blocks xs → slice_get xs i ≡ Some n → at + len ≤ size → take len (drop at (blocks n)) ≡ take len (drop (size * i + at) (flat_map blocks xs))
    part_of [] i n at len are is low = absurd (none i is)
      where
        none : (i : ℕ) → slice_get [] i ≡ Some n → ⊥
        none zero e = cc
        none (suc i) e = cc
    part_of (x ∷ xs) zero n at len are is low =
        let same : x ≡ n = cc in
        let long : length (blocks x) ≡ size = first_block x xs are in
        let long_rest : length (drop at (blocks x)) ≡ length (blocks x) - at = length-drop at (blocks x) in
        let none : size * zero + at ≡ at = omega arith in
        ap (λ (k : ℕ). take len (drop at (blocks k))) (sym same)
        ∙ sym (ap (λ (j : ℕ). take len (drop j (blocks x ++ flat_map blocks xs))) none
        ∙ ap (take len) (drop-append-le at (blocks x) (flat_map blocks xs) (omega (arith, long, low)))
        ∙ take-append-le len (drop at (blocks x)) (flat_map blocks xs) (omega (arith, long, long_rest, low)))
    part_of (x ∷ xs) (suc i) n at len are is low =
        let long : length (blocks x) ≡ size = first_block x xs are in
        let more : size * suc i + at ≡ size + (size * i + at) = grind arith in
        part_of xs i n at len (rest_blocks x xs are) is low
        ∙ sym (ap (λ (j : ℕ). take len (drop j (blocks x ++ flat_map blocks xs))) more ∙ ap (take len) (drop_behind size (size * i + at) (blocks x) (flat_map blocks xs) long))

    pub length_all : (xs : List ℕ) → AreBlocks blocks xs → length (flat_map blocks xs) ≡ size * length xs
    length_all [] are = let e : 0 ≡ size * 0 = omega arith in e
    length_all (x ∷ xs) are =
        let long : length (blocks x) ≡ size = first_block x xs are in
        let ih : length (flat_map blocks xs) ≡ size * length xs = length_all xs (rest_blocks x xs are) in
        let both = length-append (blocks x) (flat_map blocks xs) in
        let e : size * suc (length xs) ≡ size + size * length xs = grind arith in
        omega (arith, long, ih, both, e)

    -- a page written in one of them
    module _ (new : ℕ → List ℕ) (n at : ℕ) (page : List ℕ) (here : new n ≡ with_page at page (blocks n)) (low : at + length page ≤ size) (others : (k : ℕ) → k ≢ n → new k ≡ blocks k) where
      rest_same : (xs : List ℕ) → times n xs ≡ 0 → flat_map new xs ≡ flat_map blocks xs
      rest_same [] none = refl
      rest_same (x ∷ xs) none =
          let parts : times n (x ∷ xs) ≡ 0 = none in
          ap₂ (λ (a b : List ℕ). a ++ b) (others x (λ e. absurd (first_counts x xs e parts))) (rest_same xs (omega (arith, parts)))
        where
          first_counts : (x : ℕ) (xs : List ℕ) → x ≡ n → times n (x ∷ xs) ≡ 0 → ⊥
          first_counts x xs e none = let h : times x (x ∷ xs) ≡ 1 + times x xs = grind arith in let g : times x (x ∷ xs) ≡ 0 = subst (λ (k : ℕ). times k (x ∷ xs) ≡ 0) (sym e) none in omega (arith, h, g)

      pub write_of : (xs : List ℕ) (i : ℕ) → AreBlocks blocks xs → times n xs ≤ 1 → slice_get xs i ≡ Some n → flat_map new xs ≡ with_page (size * i + at) page (flat_map blocks xs)
      write_of [] i are once is = absurd (none i is)
        where
          none : (i : ℕ) → slice_get [] i ≡ Some n → ⊥
          none zero e = cc
          none (suc i) e = cc
      write_of (x ∷ xs) zero are once is =
          let same : x ≡ n = cc in
          let long : length (blocks x) ≡ size = first_block x xs are in
          let none : size * zero + at ≡ at = omega arith in
          let one : times x (x ∷ xs) ≡ 1 + times x xs = grind arith in
          let once_x : times x (x ∷ xs) ≤ 1 = subst (λ (k : ℕ). times k (x ∷ xs) ≤ 1) (sym same) once in
          let left : times n xs ≡ 0 = subst (λ (k : ℕ). times k xs ≡ 0) same (omega (arith, one, once_x)) in
          ap₂ (λ (a b : List ℕ). a ++ b) (subst (λ (k : ℕ). new k ≡ with_page at page (blocks k)) (sym same) here) (rest_same xs left)
          ∙ sym (ap (λ (j : ℕ). with_page j page (blocks x ++ flat_map blocks xs)) none ∙ write_inside at page (blocks x) (flat_map blocks xs) (omega (arith, long, low)))
      write_of (x ∷ xs) (suc i) are once is =
          let long : length (blocks x) ≡ size = first_block x xs are in
          let more : size * suc i + at ≡ size + (size * i + at) = grind arith in
          let some : 0 < times n xs = get_has xs i is in
          ap₂ (λ (a b : List ℕ). a ++ b) (others x (λ e. absurd (twice x xs e once some))) (write_of xs i (rest_blocks x xs are) (omega (arith, once)) is)
          ∙ sym (ap (λ (j : ℕ). with_page j page (blocks x ++ flat_map blocks xs)) more ∙ write_behind size (size * i + at) page (blocks x) (flat_map blocks xs) long)
        where
          get_has : (xs : List ℕ) (i : ℕ) → slice_get xs i ≡ Some n → 0 < times n xs
          get_has [] zero e = cc
          get_has [] (suc i) e = cc
          get_has (y ∷ ys) zero e = let same : y ≡ n = cc in let h : times n (y ∷ ys) ≡ 1 + times n ys = grind arith in omega (arith, h)
          get_has (y ∷ ys) (suc i) e = let ih : 0 < times n ys = get_has ys i e in omega (arith, ih)

          twice : (x : ℕ) (xs : List ℕ) → x ≡ n → times n (x ∷ xs) ≤ 1 → 0 < times n xs → ⊥
          twice x xs e once some = let h : times n (x ∷ xs) ≡ 1 + times n xs = grind arith in omega (arith, h, once, some)
