-- What bits that were set or cleared leave of the bitmap.
use Rattle.std.proofs.Common.{◌≡◌, ◌≢◌, ◌≤◌, ◌<◌, ◌+◌, ◌-◌, ◌*◌, ◌/◌, ◌%◌, ℕ, List, [], length, Bool, true, false, cond, ◌&&◌, ◌||◌, ◌==◌, nat_le, nat_lt, Option, Some, unwrap_or, IfSome, refl, sym, ap, ◌∙◌, subst, arith, ◌⊎◌, inl, inr}
use Rattle.std.specs.Option.{option_map}
use Rattle.std.proofs.Math.Nat.{div-add-mod}
use Rattle.bfs_txn.specs.Told.{AreOfBlock, with_block, with_number}
use Rattle.bfs_bitmap.specs.Bits.{bit_of, in_run, Fills}
use Rattle.bfs_bitmap.specs.Runs.{Room, marked, HasBitmap, Marks, per_block}
use Rattle.bfs_bitmap.specs.Fills.{IsTold, IsBitmapBlock, HasBitOf}
use Rattle.bfs_bitmap.proofs.Looks.{quotient_is}

same : (j n : ℕ) → (j ≡ n) ⊎ (j ≢ n)
same j n = grind arith

pub in_it : (first len k : ℕ) → first ≤ k → k < first + len → in_run first len k ≡ true
in_it first len k a b =
    let p : nat_le first k ≡ true = grind (arith, a) in
    let q : nat_lt k (first + len) ≡ true = grind (arith, b) in
    rw (p, q) refl

pub below_it : (first len k : ℕ) → k < first → in_run first len k ≡ false
below_it first len k a = let p : nat_le first k ≡ false = grind (arith, a) in rw p refl

pub above_it : (first len k : ℕ) → first + len ≤ k → in_run first len k ≡ false
above_it first len k a = let q : nat_lt k (first + len) ≡ false = grind (arith, a) in rw q (no_more (nat_le first k))
  where
    no_more : (t : Bool) → (t && false) ≡ false
    no_more true = refl
    no_more false = refl

or_false : (t : Bool) → (t || false) ≡ t
or_false true = refl
or_false false = refl

-- one block of the bitmap with the bits between two places set or cleared
pub marks_part : (v : Room) (m : ℕ → Option (List ℕ)) (j from to bit : ℕ) (read new : List ℕ) → 0 < v.block_size → HasBitmap v m → per_block v * j < v.blocks → from ≤ to → to ≤ per_block v → per_block v * j + to ≤ v.blocks → AreOfBlock (Some m) (1 + j) read → Fills from to bit read new → length new ≡ v.block_size
    → Marks v (per_block v * j + from) (to - from) bit m (with_block (1 + j) new m)
marks_part v m j from to bit read new some has inside order bits end of fills long = record {
  marks = λ k h. by_block k (same (k / per_block v) j);
  past = λ k h. by_block k (same (k / per_block v) j) ∙ ap (λ t. cond t bit (marked (per_block v) m k)) (above_it (per_block v * j + from) (to - from) k (omega (arith, order, end, h)));
  others = λ b w. by_number b w (same b (1 + j));
  has = record { told = λ i h. cell_of i h (same i j) };
}
  where
    cell : (bytes : List ℕ) × (m (1 + j) ≡ Some bytes) × (length bytes ≡ v.block_size)
    cell = has.told j inside

    read_is : read ≡ unwrap_or (m (1 + j)) []
    read_is = let Q : Option (List ℕ) → Type 0 = λ o. IfSome o (λ b. read ≡ b) in subst Q cell.1 of ∙ ap (λ (o : Option (List ℕ)). unwrap_or o []) (sym cell.1)

    some_bits : 0 < per_block v
    some_bits = omega arith

    here_is : (b : ℕ) → b ≡ 1 + j → with_block (1 + j) new m b ≡ Some new
    here_is b e = let test : (b == 1 + j) ≡ true = grind (arith, e) in rw test refl

    else_is : (b : ℕ) → b ≢ 1 + j → with_block (1 + j) new m b ≡ m b
    else_is b ne = let test : (b == 1 + j) ≡ false = grind (arith, ne) in rw test refl

    by_block : (k : ℕ) → (k / per_block v ≡ j) ⊎ (k / per_block v ≢ j) → marked (per_block v) (with_block (1 + j) new m) k ≡ cond (in_run (per_block v * j + from) (to - from) k) bit (marked (per_block v) m k)
    by_block k (inl e) =
        let whole : per_block v * (k / per_block v) + k % per_block v ≡ k = div-add-mod k (per_block v) in
        let place : per_block v * j + k % per_block v ≡ k = ap (λ (n : ℕ). per_block v * n + k % per_block v) (sym e) ∙ whole in
        let test : (nat_le from (k % per_block v) && nat_lt (k % per_block v) to) ≡ in_run (per_block v * j + from) (to - from) k = grind (arith, place, order) in
        ap (λ (o : Option (List ℕ)). bit_of (unwrap_or o []) (k % per_block v)) (here_is (1 + k / per_block v) (omega arith))
        ∙ fills (k % per_block v)
        ∙ ap (λ t. cond t bit (bit_of read (k % per_block v))) test
        ∙ ap (λ (l : List ℕ). cond (in_run (per_block v * j + from) (to - from) k) bit (bit_of l (k % per_block v))) read_is
        ∙ ap (λ (n : ℕ). cond (in_run (per_block v * j + from) (to - from) k) bit (bit_of (unwrap_or (m (1 + n)) []) (k % per_block v))) (sym e)
    by_block k (inr ne) =
        let outside : in_run (per_block v * j + from) (to - from) k ≡ false = outside_of k ne in
        ap (λ (o : Option (List ℕ)). bit_of (unwrap_or o []) (k % per_block v)) (else_is (1 + k / per_block v) (λ e. ne (omega arith)))
        ∙ ap (λ t. cond t bit (marked (per_block v) m k)) (sym outside)
      where
        not_both : (k : ℕ) → k / per_block v ≢ j → per_block v * j + from ≤ k → k < per_block v * j + to → ⊥
        not_both n d low high =
            let p : n ≡ per_block v * j + (n - per_block v * j) = omega arith in
            let q : n / per_block v ≡ j = ap (λ (x : ℕ). x / per_block v) p ∙ quotient_is (per_block v) j (n - per_block v * j) (omega arith) in
            d q

        decide : (b : Bool) → (b ≡ true → ⊥) → b ≡ false
        decide true f = absurd (f refl)
        decide false f = refl

        outside_of : (k : ℕ) → k / per_block v ≢ j → in_run (per_block v * j + from) (to - from) k ≡ false
        outside_of n d =
            decide (in_run (per_block v * j + from) (to - from) n) (λ t. not_both n d (low_of n t) (high_of n t))
          where
            low_of : (n : ℕ) → in_run (per_block v * j + from) (to - from) n ≡ true → per_block v * j + from ≤ n
            low_of n t = grind (arith, t)

            high_of : (n : ℕ) → in_run (per_block v * j + from) (to - from) n ≡ true → n < per_block v * j + to
            high_of n t = grind (arith, t, order)

    by_number : (b : ℕ) → (b ≡ 0) ⊎ (v.blocks ≤ per_block v * (b - 1)) → (b ≡ 1 + j) ⊎ (b ≢ 1 + j) → with_block (1 + j) new m b ≡ m b
    by_number b w (inr ne) = else_is b ne
    by_number b (inl z) (inl e) = absurd (omega arith)
    by_number b (inr z) (inl e) = let f : b - 1 ≡ j = omega arith in let g : per_block v * (b - 1) ≡ per_block v * j = ap (λ (n : ℕ). per_block v * n) f in absurd (omega (arith, g, z, inside))

    cell_of : (i : ℕ) → per_block v * i < v.blocks → (i ≡ j) ⊎ (i ≢ j) → (bytes : List ℕ) × (with_block (1 + j) new m (1 + i) ≡ Some bytes) × (length bytes ≡ v.block_size)
    cell_of i h (inl e) = (new, here_is (1 + i) (omega arith), long)
    cell_of i h (inr ne) = let c = has.told i h in (c.0, else_is (1 + i) (λ e. ne (omega arith)) ∙ c.1, c.2)

-- nothing is marked yet
pub marks_none : (v : Room) (m : ℕ → Option (List ℕ)) (first bit n : ℕ) → n ≡ 0 → HasBitmap v m → Marks v first n bit m m
marks_none v m first bit n e has = record { marks = λ k h. none k; past = λ k h. refl; others = λ b w. refl; has = has }
  where
    none : (k : ℕ) → marked (per_block v) m k ≡ cond (in_run first n k) bit (marked (per_block v) m k)
    none k = let test : in_run first n k ≡ false = grind (arith, e) in rw test refl

-- and then a part more
pub marks_then : (v : Room) (m l n : ℕ → Option (List ℕ)) (first len at part whole bit : ℕ) → at ≡ first + len → whole ≡ len + part → Marks v first len bit m l → Marks v at part bit l n → Marks v first whole bit m n
marks_then v m l n first len at part whole bit place total one two = record {
  marks = λ k h. two.marks k h ∙ ap (λ (o : ℕ). cond (in_run at part k) bit o) (one.marks k h) ∙ merged k (marked (per_block v) m k);
  past = λ k h. two.past k h ∙ one.past k h;
  others = λ b w. two.others b w ∙ one.others b w;
  has = two.has;
}
  where
    chosen : (a b : Bool) (x y : ℕ) → cond a x (cond b x y) ≡ cond (a || b) x y
    chosen true b x y = refl
    chosen false b x y = refl

    tests : (k : ℕ) → (in_run at part k || in_run first len k) ≡ in_run first whole k
    tests k = by_place (split k first) (split k at) (split k (at + part))
      where
        split : (j n : ℕ) → (j < n) ⊎ (n ≤ j)
        split j n = grind arith

        by_place : (k < first) ⊎ (first ≤ k) → (k < at) ⊎ (at ≤ k) → (k < at + part) ⊎ (at + part ≤ k) → (in_run at part k || in_run first len k) ≡ in_run first whole k
        by_place (inl a) (inl b) c = rw (below_it at part k b, below_it first len k a, below_it first whole k a) refl
        by_place (inl a) (inr b) c = absurd (omega arith)
        by_place (inr a) (inl b) c = rw (below_it at part k b, in_it first len k a (omega arith), in_it first whole k a (omega arith)) refl
        by_place (inr a) (inr b) (inl c) = rw (in_it at part k b c, in_it first whole k a (omega arith)) refl
        by_place (inr a) (inr b) (inr c) = rw (above_it at part k c, above_it first len k (omega arith), above_it first whole k (omega arith)) refl

    merged : (k y : ℕ) → cond (in_run at part k) bit (cond (in_run first len k) bit y) ≡ cond (in_run first whole k) bit y
    merged k y = chosen (in_run at part k) (in_run first len k) bit y ∙ ap (λ t. cond t bit y) (tests k)

-- a write to a block of the bitmap
pub told_part : (v : Room) (told told' : Option (ℕ → Option (List ℕ))) (m : ℕ → Option (List ℕ)) (j from to bit : ℕ) (read new : List ℕ) → 0 < v.block_size → told ≡ Some m → HasBitmap v m → per_block v * j < v.blocks → from ≤ to → to ≤ per_block v → per_block v * j + to ≤ v.blocks → AreOfBlock told (1 + j) read
    → Fills from to bit read new → length new ≡ v.block_size → told' ≡ option_map (with_block (1 + j) new) told → IsTold (Marks v (per_block v * j + from) (to - from) bit m) told'
told_part v told told' m j from to bit read new some is has inside order bits end of fills long set = (
  with_block (1 + j) new m,
  set ∙ ap (option_map (with_block (1 + j) new)) is,
  marks_part v m j from to bit read new some has inside order bits end (let P : Option (ℕ → Option (List ℕ)) → Type 0 = λ t. AreOfBlock t (1 + j) read in subst P is of) fills long,
)

-- and the blocks that changed
pub changed_part : (old new : ℕ → Bool) (j : ℕ) → ((k : ℕ) → new k ≡ with_number (1 + j) old k) → (k : ℕ) → new k ≡ true → (old k ≡ true) ⊎ (k ≡ 1 + j)
changed_part old new j is k t = by_test (k == 1 + j) refl (sym (is k) ∙ t)
  where
    by_test : (b : Bool) → (k == 1 + j) ≡ b → (b || old k) ≡ true → (old k ≡ true) ⊎ (k ≡ 1 + j)
    by_test true e h = inr (grind (arith, e))
    by_test false e h = inl h

pub changed_same : (P : ℕ → Type 0) (old new : ℕ → Bool) → new ≡ old → (k : ℕ) → new k ≡ true → (old k ≡ true) ⊎ P k
changed_same P old new is k t = inl (sym (ap (λ (f : ℕ → Bool). f k) is) ∙ t)

pub changed_twice : (P : ℕ → Type 0) (a b c : ℕ → Bool) → ((k : ℕ) → b k ≡ true → (a k ≡ true) ⊎ P k) → ((k : ℕ) → c k ≡ true → (b k ≡ true) ⊎ P k) → (k : ℕ) → c k ≡ true → (a k ≡ true) ⊎ P k
changed_twice P a b c one two k t = by_case (two k t)
  where
    by_case : (b k ≡ true) ⊎ P k → (a k ≡ true) ⊎ P k
    by_case (inl h) = one k h
    by_case (inr h) = inr h

pub changed_as : (P Q : ℕ → Type 0) (a b : ℕ → Bool) → ((k : ℕ) → P k → Q k) → ((k : ℕ) → b k ≡ true → (a k ≡ true) ⊎ P k) → (k : ℕ) → b k ≡ true → (a k ≡ true) ⊎ Q k
changed_as P Q a b turn one k t = by_case (one k t)
  where
    by_case : (a k ≡ true) ⊎ P k → (a k ≡ true) ⊎ Q k
    by_case (inl h) = inl h
    by_case (inr h) = inr (turn k h)

-- the block with the bit of a block of the run
pub bit_here : (v : Room) (first len at b : ℕ) → b ≡ per_block v → first ≤ at → at < first + len → (k : ℕ) → k ≡ 1 + at / b → HasBitOf v first len k
bit_here v first len at b e low high k is = (at, low, high, is ∙ ap (λ (n : ℕ). 1 + at / n) e)

-- it is a block of the bitmap
pub bit_block : (v : Room) (first len : ℕ) → first + len ≤ v.blocks → (k : ℕ) → HasBitOf v first len k → IsBitmapBlock v k
bit_block v first len inside k has =
    let at : ℕ = has.0 in
    let whole : per_block v * (has.0 / per_block v) + has.0 % per_block v ≡ has.0 = div-add-mod has.0 (per_block v) in
    let place : k - 1 ≡ has.0 / per_block v = let e = has.3 in omega (arith, e) in
    let low : has.0 < first + len = has.2 in (
      (let e = has.3 in omega (arith, e)),
      subst (λ (n : ℕ). per_block v * n < v.blocks) (sym place) (omega (arith, whole, low, inside)),
    )

-- some parts, and one more
pub told_then : (v : Room) (told told' : Option (ℕ → Option (List ℕ))) (m : ℕ → Option (List ℕ)) (first len at part whole bit : ℕ) → at ≡ first + len → whole ≡ len + part → IsTold (Marks v first len bit m) told → ((l : ℕ → Option (List ℕ)) → told ≡ Some l → HasBitmap v l → IsTold (Marks v at part bit l) told')
    → IsTold (Marks v first whole bit m) told'
told_then v told told' m first len at part whole bit place total one two =
    let next = two one.0 one.1 one.2.has in (
      next.0,
      next.1,
      marks_then v m one.0 next.0 first len at part whole bit place total one.2 next.2,
    )
