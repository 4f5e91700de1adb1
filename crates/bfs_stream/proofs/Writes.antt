-- Which blocks several calls have changed.
use Rattle.std.proofs.Common.{◌≡◌, ◌<◌, ◌+◌, ◌*◌, ◌/◌, ◌∙◌, ◌⊎◌, inl, inr, ℕ, List, [], ◌∷◌, ◌++◌, Bool, true, false, ◌||◌, refl, sym, ap, subst, arith}
use Rattle.std.specs.Prelude.{◌==◌}
use Rattle.std.proofs.Math.Nat.{div-lt_iff_lt-mul}
use Rattle.bfs_base.specs.Lists.{Has}
use Rattle.bfs_bytes.specs.declared.Run.{Run}
use Rattle.bfs_super.specs.Conditions.{natural}
use Rattle.bfs_txn.specs.Told.{with_number}
use Rattle.bfs_txn.specs.Faults.{Counts, AreLater}
use Rattle.bfs_bitmap.specs.Runs.{Room, first_of}
use Rattle.bfs_bitmap.specs.Fills.{IsBitmapBlock, HasBitOf}
use Rattle.bfs_inode.specs.Inode.{Inode, inode_at}
use Rattle.bfs_stream.specs.Sizes.{Sizes, IsInVolume, first_block, runs_per_block}
use Rattle.bfs_stream.specs.Places.{run_blocks}
use Rattle.bfs_stream.specs.Grown.{IsOfVolume, HasWritten, HasBitIn, KeepsRest}
use Rattle.bfs_stream.proofs.Arrays.{has_counted}
use Rattle.bfs_stream.proofs.Frames.{has_first, has_rest, has_left, has_right}
use Rattle.bfs_stream.proofs.Taking.{counted_in}

-- nothing was changed
pub wrote_none : (B : ℕ → Type 0) (a b : ℕ → Bool) (xs : List ℕ) → b ≡ a → HasWritten B a b xs
wrote_none B a b xs e k is = inl (sym (ap (λ (f : ℕ → Bool). f k) e) ∙ is)

-- blocks with bits alone were changed
pub wrote_bits : (B : ℕ → Type 0) (a b : ℕ → Bool) (xs : List ℕ) → ((k : ℕ) → b k ≡ true → (a k ≡ true) ⊎ B k) → HasWritten B a b xs
wrote_bits B a b xs h k e = by_side (h k e)
  where
    by_side : (a k ≡ true) ⊎ B k → (a k ≡ true) ⊎ (B k ⊎ Has xs k)
    by_side (inl before) = inl before
    by_side (inr bits) = inr (inl bits)

-- blocks of a list alone were changed
pub wrote_these : (B : ℕ → Type 0) (a b : ℕ → Bool) (xs : List ℕ) → ((k : ℕ) → b k ≡ true → (a k ≡ true) ⊎ Has xs k) → HasWritten B a b xs
wrote_these B a b xs h k e = by_side (h k e)
  where
    by_side : (a k ≡ true) ⊎ Has xs k → (a k ≡ true) ⊎ (B k ⊎ Has xs k)
    by_side (inl before) = inl before
    by_side (inr has) = inr (inr has)

-- of a wider kind
pub wrote_wider : (B C : ℕ → Type 0) (a b : ℕ → Bool) (xs : List ℕ) → ((k : ℕ) → B k → C k) → HasWritten B a b xs → HasWritten C a b xs
wrote_wider B C a b xs wider h k e = by_side (h k e)
  where
    by_side : (a k ≡ true) ⊎ (B k ⊎ Has xs k) → (a k ≡ true) ⊎ (C k ⊎ Has xs k)
    by_side (inl before) = inl before
    by_side (inr (inl of)) = inr (inl (wider k of))
    by_side (inr (inr has)) = inr (inr has)

-- a block of the bitmap, and that which has the bit of one of these
abbrev pub IsBitBlockOf : Room → List ℕ → ℕ → Type 0
IsBitBlockOf v xs k = IsBitmapBlock v k × HasBitIn v (Has xs) k

-- blocks with the bits of a part of a list
pub part_bits : (v : Room) (xs ys : List ℕ) (a b : ℕ → Bool) → ((k : ℕ) → Has xs k → Has ys k) → ((k : ℕ) → b k ≡ true → (a k ≡ true) ⊎ IsBitmapBlock v k) → ((k : ℕ) → b k ≡ true → (a k ≡ true) ⊎ HasBitIn v (Has xs) k) → (k : ℕ) → b k ≡ true → (a k ≡ true) ⊎ IsBitBlockOf v ys k
part_bits v xs ys a b more blocks bits k e = by_side (blocks k e) (bits k e)
  where
    by_side : (a k ≡ true) ⊎ IsBitmapBlock v k → (a k ≡ true) ⊎ HasBitIn v (Has xs) k → (a k ≡ true) ⊎ IsBitBlockOf v ys k
    by_side (inl before) bit = inl before
    by_side (inr block) (inl before) = inl before
    by_side (inr block) (inr bit) = inr (block, (bit.0, more bit.0 bit.1, bit.2))

pub all_bits : (v : Room) (xs : List ℕ) (a b : ℕ → Bool) → ((k : ℕ) → b k ≡ true → (a k ≡ true) ⊎ IsBitmapBlock v k) → ((k : ℕ) → b k ≡ true → (a k ≡ true) ⊎ HasBitIn v (Has xs) k) → (k : ℕ) → b k ≡ true → (a k ≡ true) ⊎ IsBitBlockOf v xs k
all_bits v xs a b blocks bits = part_bits v xs xs a b (λ k has. has) blocks bits

-- the bits of a run are those of its blocks
pub bits_in_run : (s : Sizes) (v : Room) (run : Run) (a b : ℕ → Bool) → IsOfVolume s v → ((k : ℕ) → b k ≡ true → (a k ≡ true) ⊎ HasBitOf v (first_of v run) run.len k) → (k : ℕ) → b k ≡ true → (a k ≡ true) ⊎ HasBitIn v (Has (run_blocks s run)) k
bits_in_run s v run a b volume bits k e = by_side (bits k e)
  where
    first : first_block s run ≡ first_of v run
    first = ap (λ (n : ℕ). natural run.group * n + run.start) (sym volume.group_blocks)

    by_side : (a k ≡ true) ⊎ HasBitOf v (first_of v run) run.len k → (a k ≡ true) ⊎ HasBitIn v (Has (run_blocks s run)) k
    by_side (inl before) = inl before
    by_side (inr bit) =
        let low = bit.1 in
        let high = bit.2 in
        let at = first in
        inr (bit.0, has_counted (first_block s run) run.len bit.0 (omega (arith, low, at)) (omega (arith, high, at)), bit.3)

pub has_only : (k x : ℕ) → k ≡ x → Has (x ∷ []) k
has_only k x e = subst (λ (n : ℕ). Has (x ∷ []) n) (sym e) (has_first x [])

-- one block alone was changed
pub wrote_one : (B : ℕ → Type 0) (a b : ℕ → Bool) (x : ℕ) → ((k : ℕ) → b k ≡ true → (a k ≡ true) ⊎ (k ≡ x)) → HasWritten B a b (x ∷ [])
wrote_one B a b x h k e = by_side (h k e)
  where
    by_side : (a k ≡ true) ⊎ (k ≡ x) → (a k ≡ true) ⊎ (B k ⊎ Has (x ∷ []) k)
    by_side (inl before) = inl before
    by_side (inr is) = inr (inr (has_only k x is))

-- a block was set
pub number_set : (x : ℕ) (a : ℕ → Bool) (k : ℕ) → with_number x a k ≡ true → (a k ≡ true) ⊎ (k ≡ x)
number_set x a k e = by_test (k == x) refl e
  where
    by_test : (t : Bool) → (k == x) ≡ t → (t || a k) ≡ true → (a k ≡ true) ⊎ (k ≡ x)
    by_test true is f = inr (grind (arith, is))
    by_test false is f = inl f

pub wrote_more : (B : ℕ → Type 0) (a b : ℕ → Bool) (xs ys : List ℕ) → ((k : ℕ) → Has xs k → Has ys k) → HasWritten B a b xs → HasWritten B a b ys
wrote_more B a b xs ys more h k e = by_side (h k e)
  where
    by_side : (a k ≡ true) ⊎ (B k ⊎ Has xs k) → (a k ≡ true) ⊎ (B k ⊎ Has ys k)
    by_side (inl before) = inl before
    by_side (inr (inl bits)) = inr (inl bits)
    by_side (inr (inr has)) = inr (inr (more k has))

pub wrote_twice : (B : ℕ → Type 0) (a b c : ℕ → Bool) (xs : List ℕ) → HasWritten B a b xs → HasWritten B b c xs → HasWritten B a c xs
wrote_twice B a b c xs one two k e = by_side (two k e)
  where
    by_side : (b k ≡ true) ⊎ (B k ⊎ Has xs k) → (a k ≡ true) ⊎ (B k ⊎ Has xs k)
    by_side (inl before) = one k before
    by_side (inr now) = inr now

-- into the left or the right part of a joined list
pub wrote_left : (B : ℕ → Type 0) (a b : ℕ → Bool) (xs ys : List ℕ) → HasWritten B a b xs → HasWritten B a b (xs ++ ys)
wrote_left B a b xs ys h = wrote_more B a b xs (xs ++ ys) (λ k has. has_left xs ys k has) h

pub wrote_right : (B : ℕ → Type 0) (a b : ℕ → Bool) (xs ys : List ℕ) → HasWritten B a b ys → HasWritten B a b (xs ++ ys)
wrote_right B a b xs ys h = wrote_more B a b ys (xs ++ ys) (λ k has. has_right xs ys k has) h

-- a block of a run in the volume lies in the volume
pub run_low : (s : Sizes) (run : Run) (k : ℕ) → IsInVolume s run → Has (run_blocks s run) k → k < s.blocks
run_low s run k inside has = let at = counted_in (first_block s run) run.len k has in let le = inside.inside in let lt = at.1 in omega (arith, le, lt)

-- the inode alone, or blocks behind it alone
pub wrote_first : (B : ℕ → Type 0) (a b : ℕ → Bool) (x : ℕ) (ys : List ℕ) → ((k : ℕ) → b k ≡ true → (a k ≡ true) ⊎ (k ≡ x)) → HasWritten B a b (x ∷ ys)
wrote_first B a b x ys h = wrote_more B a b (x ∷ []) (x ∷ ys) (λ k has. has_left (x ∷ []) ys k has) (wrote_one B a b x h)

pub wrote_behind : (B : ℕ → Type 0) (a b : ℕ → Bool) (x : ℕ) (ys : List ℕ) → ((k : ℕ) → b k ≡ true → (a k ≡ true) ⊎ Has ys k) → HasWritten B a b (x ∷ ys)
wrote_behind B a b x ys h = wrote_more B a b ys (x ∷ ys) (λ k has. has_rest x ys k has) (wrote_these B a b ys h)

pub wrote_set : (B : ℕ → Type 0) (a b : ℕ → Bool) (x y : ℕ) → x ≡ y → ((k : ℕ) → b k ≡ with_number x a k) → HasWritten B a b (y ∷ [])
wrote_set B a b x y same h = wrote_one B a b y (λ k e. by_side k (number_set x a k (sym (h k) ∙ e)))
  where
    by_side : (k : ℕ) → (a k ≡ true) ⊎ (k ≡ x) → (a k ≡ true) ⊎ (k ≡ y)
    by_side k (inl before) = inl before
    by_side k (inr is) = inr (is ∙ same)

-- three calls, and four
pub wrote_thrice : (B : ℕ → Type 0) (a b c d : ℕ → Bool) (xs : List ℕ) → HasWritten B a b xs → HasWritten B b c xs → HasWritten B c d xs → HasWritten B a d xs
wrote_thrice B a b c d xs one two three = wrote_twice B a c d xs (wrote_twice B a b c xs one two) three

pub wrote_four : (B : ℕ → Type 0) (a b c d e : ℕ → Bool) (xs : List ℕ) → HasWritten B a b xs → HasWritten B b c xs → HasWritten B c d xs → HasWritten B d e xs → HasWritten B a e xs
wrote_four B a b c d e xs one two three four = wrote_twice B a d e xs (wrote_thrice B a b c d xs one two three) four

-- and with blocks of the volume in the place of a list
pub changed_twice : (s : Sizes) (v now : Room) (a b c : ℕ → Bool) → now ≡ record v { tally = now.tally } → ((k : ℕ) → b k ≡ true → (a k ≡ true) ⊎ (IsBitmapBlock v k ⊎ (k < s.blocks)))
    → ((k : ℕ) → c k ≡ true → (b k ≡ true) ⊎ (IsBitmapBlock now k ⊎ (k < s.blocks))) → (k : ℕ) → c k ≡ true → (a k ≡ true) ⊎ (IsBitmapBlock v k ⊎ (k < s.blocks))
changed_twice s v now a b c rest one two k e = by_side (two k e)
  where
    by_side : (b k ≡ true) ⊎ (IsBitmapBlock now k ⊎ (k < s.blocks)) → (a k ≡ true) ⊎ (IsBitmapBlock v k ⊎ (k < s.blocks))
    by_side (inl before) = one k before
    by_side (inr (inl bits)) = inr (inl (subst (λ (x : Room). IsBitmapBlock x k) rest bits))
    by_side (inr (inr low)) = inr (inr low)

pub later_none : (c : Counts) → AreLater c c
later_none c = record { faults = omega arith; stops = refl; stop = refl }

-- the block of a place in an array was set
pub put_written : (s : Sizes) (array : Run) (place first runs block : ℕ) (a b c : ℕ → Bool) → first ≡ first_block s array → runs ≡ runs_per_block s → 0 < runs → place < array.len * runs_per_block s → block ≡ first + place / runs
    → b ≡ a → ((k : ℕ) → c k ≡ with_number block b k) → (k : ℕ) → c k ≡ true → (a k ≡ true) ⊎ Has (run_blocks s array) k
put_written s array place first runs block a b c first_is runs_is some inside block_is same set k e = by_side (number_set block b k (sym (set k) ∙ e))
  where
    below : place / runs < array.len
    below = let iff = div-lt_iff_lt-mul {k = runs} {x = place} {y = array.len} some in iff.1 (subst (λ (n : ℕ). place < array.len * n) (sym runs_is) inside)

    by_side : (b k ≡ true) ⊎ (k ≡ block) → (a k ≡ true) ⊎ Has (run_blocks s array) k
    by_side (inl before) = inl (sym (ap (λ (f : ℕ → Bool). f k) same) ∙ before)
    by_side (inr is) = inr (has_counted (first_block s array) array.len k (omega (arith, is, block_is, first_is)) (omega (arith, is, block_is, first_is, below)))

-- the inode's other fields stay where nothing was written, and through two writes
pub keeps_none : (bytes : List ℕ) → KeepsRest bytes bytes
keeps_none bytes = (refl, refl, (refl, refl, refl))

pub keeps_twice : (a b c : List ℕ) → KeepsRest a b → KeepsRest b c → KeepsRest a c
keeps_twice a b c one two = (two.0 ∙ ap (λ (x : Inode). record x { stream_bytes = (inode_at c).stream_bytes }) one.0, two.1 ∙ one.1, (two.2.0 ∙ one.2.0, two.2.1 ∙ one.2.1, two.2.2 ∙ one.2.2))
