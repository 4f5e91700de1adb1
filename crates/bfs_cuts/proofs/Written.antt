-- Which blocks a step of a cut has changed.
use Rattle.std.proofs.Common.{◌≡◌, ◌<◌, ◌+◌, ◌/◌, ◌∙◌, ◌⊎◌, inl, inr, ℕ, List, ◌++◌, Bool, true, sym, subst, arith}
use Rattle.bfs_base.specs.Lists.{Has}
use Rattle.bfs_txn.specs.Told.{with_number}
use Rattle.bfs_bitmap.specs.Runs.{Room, per_block}
use Rattle.bfs_bitmap.specs.Fills.{IsBitmapBlock}
use Rattle.bfs_stream.specs.Sizes.{Sizes}
use Rattle.bfs_stream.specs.Grown.{HasBitIn}
use Rattle.bfs_stream.proofs.Frames.{has_left, has_right}
use Rattle.bfs_stream.proofs.Writes.{number_set}

-- the bits of some blocks, and then of more of them
pub bits_more : (v now : Room) (xs ys zs : List ℕ) (a b c : ℕ → Bool) → now ≡ record v { given = now.given; tally = now.tally } → xs ++ ys ≡ zs → ((k : ℕ) → b k ≡ true → (a k ≡ true) ⊎ HasBitIn v (Has xs) k) → ((k : ℕ) → c k ≡ true → (b k ≡ true) ⊎ HasBitIn now (Has ys) k)
    → (k : ℕ) → c k ≡ true → (a k ≡ true) ⊎ HasBitIn v (Has zs) k
bits_more v now xs ys zs a b c rest all one two k e = by_second (two k e)
  where
    by_first : (a k ≡ true) ⊎ HasBitIn v (Has xs) k → (a k ≡ true) ⊎ HasBitIn v (Has zs) k
    by_first (inl before) = inl before
    by_first (inr bit) = inr (bit.0, subst (λ (l : List ℕ). Has l bit.0) all (has_left xs ys bit.0 bit.1), bit.2)

    by_second : (b k ≡ true) ⊎ HasBitIn now (Has ys) k → (a k ≡ true) ⊎ HasBitIn v (Has zs) k
    by_second (inl before) = by_first (one k before)
    by_second (inr bit) = inr (bit.0, subst (λ (l : List ℕ). Has l bit.0) all (has_right xs ys bit.0 bit.1), subst (λ (x : Room). k ≡ 1 + bit.0 / per_block x) rest bit.2)

-- a block of the volume was set, and then blocks with bits changed
pub set_then_bits : (s : Sizes) (v : Room) (x y : ℕ) (a b c : ℕ → Bool) → x ≡ y → y < s.blocks → ((k : ℕ) → b k ≡ with_number x a k) → ((k : ℕ) → c k ≡ true → (b k ≡ true) ⊎ IsBitmapBlock v k) → (k : ℕ) → c k ≡ true → (a k ≡ true) ⊎ (IsBitmapBlock v k ⊎ (k < s.blocks))
set_then_bits s v x y a b c same low set bits k e = by_bits (bits k e)
  where
    by_set : (a k ≡ true) ⊎ (k ≡ x) → (a k ≡ true) ⊎ (IsBitmapBlock v k ⊎ (k < s.blocks))
    by_set (inl before) = inl before
    by_set (inr is) = inr (inr (omega (arith, is, same, low)))

    by_bits : (b k ≡ true) ⊎ IsBitmapBlock v k → (a k ≡ true) ⊎ (IsBitmapBlock v k ⊎ (k < s.blocks))
    by_bits (inl before) = by_set (number_set x a k (sym (set k) ∙ before))
    by_bits (inr bit) = inr (inl bit)
