-- The bytes of a list of equally long blocks, cut at a size, block by block.
use Rattle.std.proofs.Common.{◌≡◌, ⊎_elim, ℕ, zero, suc, ◌+◌, ◌-◌, ◌*◌, ◌≤◌, ◌<◌, min, true, false, List, [], ◌∷◌, ◌++◌, length, take, drop, Option, Some, None, IfSome, unwrap_or, sym, ◌∙◌, ap, ap₂, subst, arith, append_assoc}
use Rattle.std.specs.Prelude.{slice_get, IsSome}
use Rattle.std.specs.List.{flat_map, AllByRecursion}
use Rattle.std.proofs.lemmas.Bool.{cases_lt}
use Rattle.std.proofs.lemmas.List.{append-nil, take-append-le, take_all}
use Rattle.std.proofs.Math.Nat.{mul-le-mul_left}
use Rattle.std.proofs.Math.Seq.{take-append-add, drop-append-add, drop-append_seam}
use Rattle.bfs_base.specs.Lists.{Has}
use Rattle.bfs_stream.specs.Told.{contents, AreTold}
use Rattle.bfs_stream.proofs.Frames.{has_first, has_rest}
use Rattle.bfs_txn.specs.Told.{AreSized}

-- what is told of a block is as long as a block
pub told_long : (size : ℕ) (m : ℕ → Option (List ℕ)) (n : ℕ) → AreSized size (Some m) → IsSome (m n) → length (contents m n) ≡ size
told_long size m n sized some = by_block (m n) some (sized n)
  where
    by_block : (o : Option (List ℕ)) → IsSome o → IfSome o (λ bytes. length bytes ≡ size) → length (unwrap_or o []) ≡ size
    by_block None h e = let bad : false ≡ true = h in cc
    by_block (Some b) h e = e

pub sized_at : (size n : ℕ) (t : Option (ℕ → Option (List ℕ))) (m : ℕ → Option (List ℕ)) → n ≡ size → t ≡ Some m → AreSized n t → AreSized size (Some m)
sized_at size n t m e is sized = subst (λ (k : ℕ). AreSized k (Some m)) e (subst (λ (o : Option (ℕ → Option (List ℕ))). AreSized n o) is sized)

-- a block at a place of a list stands in it
pub counted_at : (xs : List ℕ) (i n : ℕ) → slice_get xs i ≡ Some n → Has xs n
counted_at [] i n e = let bad : None ≡ Some n = e in cc
counted_at (y ∷ ys) zero n e = let same : y ≡ n = let h : Some y ≡ Some n = e in cc in subst (λ (k : ℕ). Has (y ∷ ys) k) same (has_first y ys)
counted_at (y ∷ ys) (suc i) n e = has_rest y ys n (counted_at ys i n e)

-- each of these blocks is as long as a block
abbrev pub AreLong : (ℕ → List ℕ) → ℕ → List ℕ → Type 0
AreLong f k places = AllByRecursion (λ n. length (f n) ≡ k) places

pub told_all : (size : ℕ) (m : ℕ → Option (List ℕ)) (places : List ℕ) → AreSized size (Some m) → AreTold m places → AreLong (contents m) size places
told_all size m [] sized told = tt
told_all size m (n ∷ ns) sized told = (told_long size m n sized (told n (has_first n ns)), told_all size m ns sized (λ k h. told k (has_rest n ns k h)))

module _ (f : ℕ → List ℕ) (k : ℕ) where
  -- behind the blocks before an index stands the block of that index
  pub next_block : (places : List ℕ) (index n : ℕ) → AreLong f k places → slice_get places index ≡ Some n
      → drop (k * index) (flat_map f places) ≡ f n ++ drop (k * (index + 1)) (flat_map f places)
  next_block [] index n long is = let bad : None ≡ Some n = is in cc
  next_block (y ∷ ys) zero n long is =
      let here : y ≡ n = let e : Some y ≡ Some n = is in cc in
      let none : k * 0 ≡ 0 = omega arith in
      let one : k * (0 + 1) ≡ length (f y) = grind (arith, long.0) in
      ap (λ (i : ℕ). drop i (flat_map f (y ∷ ys))) none
      ∙ ap₂ (λ (a : ℕ) (b : List ℕ). f a ++ b) here (sym (ap (λ (i : ℕ). drop i (f y ++ flat_map f ys)) one ∙ drop-append_seam (f y) (flat_map f ys)))
  next_block (y ∷ ys) (suc i) n long is =
      let a : k * suc i ≡ length (f y) + k * i = grind (arith, long.0) in
      let b : k * (suc i + 1) ≡ length (f y) + k * (i + 1) = grind (arith, long.0) in
      ap (λ (j : ℕ). drop j (f y ++ flat_map f ys)) a ∙ drop-append-add (f y) (flat_map f ys) (k * i)
      ∙ next_block ys i n long.1 is
      ∙ ap (λ (l : List ℕ). f n ++ l) (sym (ap (λ (j : ℕ). drop j (f y ++ flat_map f ys)) b ∙ drop-append-add (f y) (flat_map f ys) (k * (i + 1))))

  long_at : (places : List ℕ) (index n : ℕ) → AreLong f k places → slice_get places index ≡ Some n → length (f n) ≡ k
  long_at [] index n long is = let bad : None ≡ Some n = is in cc
  long_at (y ∷ ys) zero n long is = let here : y ≡ n = let e : Some y ≡ Some n = is in cc in subst (λ (x : ℕ). length (f x) ≡ k) here long.0
  long_at (y ∷ ys) (suc i) n long is = long_at ys i n long.1 is

  -- Read are these bytes; with so many more from the block at an index on they are as many as are wanted; and the blocks
  -- have so many.
  pub record IsPartly (places : List ℕ) (index left size : ℕ) (bytes : List ℕ) : Type 0 where
    pub whole : bytes ++ take left (drop (k * index) (flat_map f places)) ≡ take size (flat_map f places)
    pub room : 0 < left → k * index + left ≤ k * length places

  pub partly_start : (places : List ℕ) (size : ℕ) → size ≤ k * length places → IsPartly places 0 size size []
  partly_start places size fits =
      let none : k * 0 ≡ 0 = omega arith in
      record { whole = ap (λ (i : ℕ). take size (drop i (flat_map f places))) none; room = λ some. omega (arith, none, fits) }

  pub partly_inside : (places : List ℕ) (index left size : ℕ) (bytes : List ℕ) → 0 < left → IsPartly places index left size bytes → index < length places
  partly_inside places index left size bytes some partly =
      ⊎_elim (λ low. low) (λ high.
      let more : k * length places ≤ k * index = mul-le-mul_left k high in
      absurd (omega (arith, more, some, partly.room some))) (cases_lt index (length places))

  cut : (left : ℕ) (part rest : List ℕ) → length part ≡ k → take left (part ++ rest) ≡ take (min left k) part ++ take (left - min left k) rest
  cut left part rest long =
      ⊎_elim
      (λ low.
      let least : min left k ≡ left = omega (arith, low) in
      let none : left - min left k ≡ 0 = omega (arith, low) in
      take-append-le left part rest (omega (arith, low, long))
      ∙ sym (append-nil (take left part))
      ∙ ap₂ (λ (a b : ℕ). take a part ++ take b rest) (sym least) (sym none))
      (λ high.
      let more : left ≡ length part + (left - k) = omega (arith, high, long) in
      let least : min left k ≡ length part = omega (arith, high, long) in
      let after : left - min left k ≡ left - k = omega (arith, high) in
      ap (λ (i : ℕ). take i (part ++ rest)) more ∙ take-append-add part rest (left - k)
      ∙ ap₂ (λ (a : List ℕ) (b : ℕ). a ++ take b rest) (sym (ap (λ (i : ℕ). take i part) least ∙ take_all (length part) part (omega arith))) (sym after))
      (cases_lt left k)

  pub partly_next : (places : List ℕ) (index left size n : ℕ) (bytes : List ℕ) → AreLong f k places → slice_get places index ≡ Some n → IsPartly places index left size bytes
      → IsPartly places (index + 1) (left - min left k) size (bytes ++ take (min left k) (f n))
  partly_next places index left size n bytes long is partly =
      let front = take (min left k) (f n) in
      let back = take (left - min left k) (drop (k * (index + 1)) (flat_map f places)) in
      let step : take left (drop (k * index) (flat_map f places)) ≡ front ++ back =
      ap (take left) (next_block places index n long is) ∙ cut left (f n) (drop (k * (index + 1)) (flat_map f places)) (long_at places index n long is) in
      record {
        whole = append_assoc bytes front back ∙ ap (λ (l : List ℕ). bytes ++ l) (sym step) ∙ partly.whole;
        room = λ some.
            let more : k * (index + 1) ≡ k * index + k = grind arith in
            let had : 0 < left = omega (arith, some) in
            omega (arith, some, more, partly.room had);
      }

  pub partly_end : (places : List ℕ) (index left size : ℕ) (bytes : List ℕ) → left ≡ 0 → IsPartly places index left size bytes → bytes ≡ take size (flat_map f places)
  partly_end places index left size bytes none partly =
      sym (append-nil bytes) ∙ ap (λ (i : ℕ). bytes ++ take i (drop (k * index) (flat_map f places))) (sym none) ∙ partly.whole
