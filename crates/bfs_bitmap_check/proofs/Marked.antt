-- From bits to the marked blocks of a volume.
use Rattle.std.proofs.Common.{◌≡◌, ◌≤◌, ◌<◌, ◌+◌, ◌-◌, ◌*◌, ◌/◌, ◌%◌, ℕ, List, [], Bool, true, false, not, cond, ◌==◌, Option, refl, sym, ap, ◌∙◌, subst, arith, inl, inr}
use Rattle.std.specs.Prelude.{◌↔◌, unwrap_or}
use Rattle.std.proofs.lemmas.Bool.{false≢true}
use Rattle.std.proofs.lemmas.Nat.{le-div}
use Rattle.bfs_base.specs.Lists.{times, Has}
use Rattle.bfs_super.specs.Conditions.{IsValid, natural, bitmap_blocks}
use Rattle.bfs_super.specs.Geometry.{IsBlockSize}
use Rattle.bfs_super.specs.declared.sup.Super.{Super}
use Rattle.bfs_bitmap.specs.Bits.{bit_of}
use Rattle.bfs_bitmap.specs.Runs.{marked}
use Rattle.bfs_stream.specs.Sizes.{sizes_of}
use Rattle.bfs_stream.specs.Told.{contents}
use Rattle.bfs_stream.proofs.Sized.{valid_sizes}
use Rattle.bfs_stream_check.specs.Known.{IsAllTold}
use Rattle.bfs_sound.specs.Volumes.{Volume, IsMarked}
use Rattle.bfs_sound.specs.Owners.{Marks}
use Rattle.bfs_sound.specs.Whole.{volume_of}
use Rattle.bfs_claims.specs.Claims.{Claimed, is_claimed, AreClaimed}
use Rattle.bfs_bitmap_check.specs.declared.fault.BitFault.{BitFault}
use Rattle.bfs_bitmap_check.specs.declared.fault.BitFault.TheVariants.{Unset, Extra, Block}
use Rattle.bfs_bitmap_check.specs.Bitmaps.{IsBitmapTold, is_set, AreSameIn, IsFirstIn}
use Rattle.bfs_bitmap_check.specs.Marks.{IsWrongBit, IsMarkFault}

by_size : (n : ℕ) → IsBlockSize n → (0 < n) × (n ≤ 8192)
by_size n (inl e) = (omega (arith, e), omega (arith, e))
by_size n (inr (inl e)) = (omega (arith, e), omega (arith, e))
by_size n (inr (inr (inl e))) = (omega (arith, e), omega (arith, e))
by_size n (inr (inr (inr e))) = (omega (arith, e), omega (arith, e))

pub block_bytes : (s : Super) → IsValid s → (0 < s.block_size) × (s.block_size ≤ 8192)
block_bytes s valid = by_size s.block_size (valid_sizes s valid).block_size

rounded : (n size j : ℕ) → 0 < size → 8 * size * j < n → j + 1 ≤ (n + (size * 8 - 1)) / (size * 8)
rounded n size j some inside =
    let e : (j + 1) * (size * 8) ≡ 8 * size * j + size * 8 = grind arith in
    le-div (j + 1) (n + (size * 8 - 1)) (size * 8) (omega (arith, some)) (omega (arith, e, inside, some))

-- the blocks of the bitmap are blocks of the volume
pub bitmap_told : (s : Super) (m : ℕ → Option (List ℕ)) (blocks : ℕ) → IsValid s → blocks ≡ natural s.num_blocks → IsAllTold (sizes_of s) m → IsBitmapTold (8 * s.block_size) m blocks
bitmap_told s m blocks valid blocks_is all j inside =
    let few : j + 1 ≤ bitmap_blocks s = rounded (natural s.num_blocks) s.block_size j (block_bytes s valid).0 (subst (λ (n : ℕ). 8 * s.block_size * j < n) blocks_is inside) in
    let before = valid.log.3 in
    let behind = valid.log.4 in
    all (1 + j) (omega (arith, few, before, behind))

bit_few : (bytes : List ℕ) (i : ℕ) → bit_of bytes i < 2
unfolding bit_of
bit_few bytes i = omega arith

one_is : (b : ℕ) → b < 2 → not (b == 0) ≡ true → b ≡ 1
one_is b few e = grind (arith, few, e)

none_is : (b : ℕ) → not (b == 0) ≡ false → b ≡ 1 → ⊥
none_is b e one = grind (arith, e, one)

claimed_times : (c : Claimed) (xs : List ℕ) (k : ℕ) → AreClaimed c xs → is_claimed c k ≡ true → Has xs k
claimed_times c xs k are e = let one : times k xs ≡ 1 = are.each k ∙ ap (λ (b : Bool). cond b 1 0) e in omega (arith, one)

times_claimed : (c : Claimed) (xs : List ℕ) (k : ℕ) → AreClaimed c xs → Has xs k → is_claimed c k ≡ true
times_claimed c xs k are has = by_test (is_claimed c k) refl
  where
    by_test : (b : Bool) → is_claimed c k ≡ b → is_claimed c k ≡ true
    by_test true e = e
    by_test false e = let none : times k xs ≡ 0 = are.each k ∙ ap (λ (b : Bool). cond b 1 0) e in absurd (omega (arith, none, has))

module _ (s : Super) (m : ℕ → Option (List ℕ)) (c : Claimed) (blocks_is : c.blocks ≡ natural s.num_blocks) (inside : (k : ℕ) → is_claimed c k ≡ true → k < c.blocks) where
  abbrev held : Volume
  held = volume_of s (contents m)

  marked_set : (k : ℕ) → IsMarked held k → is_set (8 * s.block_size) m k ≡ true
  marked_set k mark = ap (λ (b : ℕ). not (b == 0)) mark.1

  set_marked : (k : ℕ) → k < c.blocks → is_set (8 * s.block_size) m k ≡ true → IsMarked held k
  set_marked k lt e =
      (subst (λ (n : ℕ). k < n) blocks_is lt, one_is (marked (8 * s.block_size) m k) (bit_few (unwrap_or (m (1 + k / (8 * s.block_size))) []) (k % (8 * s.block_size))) e)

  below : (k n : ℕ) → n ≤ c.blocks → k < n → AreSameIn (8 * s.block_size) m c 0 n → IsMarked held k ↔ (is_claimed c k ≡ true)
  below k n few lt same =
      let e : is_set (8 * s.block_size) m k ≡ is_claimed c k = same k (omega arith) lt in
      (λ mark. sym e ∙ marked_set k mark, λ claim. set_marked k (omega (arith, few, lt)) (e ∙ claim))

  pub marked_all : AreSameIn (8 * s.block_size) m c 0 c.blocks → (k : ℕ) → IsMarked held k ↔ (is_claimed c k ≡ true)
  marked_all same k =
      (λ mark. (below k c.blocks (omega arith) (subst (λ (n : ℕ). k < n) (sym blocks_is) mark.0) same).0 mark, λ claim. (below k c.blocks (omega arith) (inside k claim) same).1 claim)

  pub marks_list : AreSameIn (8 * s.block_size) m c 0 c.blocks → (xs : List ℕ) → AreClaimed c xs → Marks held xs
  marks_list same xs are k =
      (λ mark. claimed_times c xs k are ((marked_all same k).0 mark), λ has. (marked_all same k).1 (times_claimed c xs k are has))

  unmarked : (k : ℕ) → is_set (8 * s.block_size) m k ≡ false → IsMarked held k → ⊥
  unmarked k e mark = false≢true (sym e ∙ marked_set k mark)

  pub wrong_bit : (fault : BitFault) → IsFirstIn (8 * s.block_size) m c 0 fault → IsWrongBit held c fault
  wrong_bit (Unset block) d = (d.claim, unmarked block d.bit, λ k lt. below k block (let few = d.inside in omega (arith, few)) lt d.same)
  wrong_bit (Extra block) d = (set_marked block d.inside d.bit, d.claim, λ k lt. below k block (let few = d.inside in omega (arith, few)) lt d.same)
  wrong_bit (Block fault) d = tt

  pub mark_fault : (fault : BitFault) → IsFirstIn (8 * s.block_size) m c 0 fault → (xs : List ℕ) → AreClaimed c xs → IsMarkFault held xs fault
  mark_fault (Unset block) d xs are = (claimed_times c xs block are d.claim, unmarked block d.bit)
  mark_fault (Extra block) d xs are = (set_marked block d.inside d.bit, λ has. false≢true (sym d.claim ∙ times_claimed c xs block are has))
  mark_fault (Block fault) d xs are = tt
