-- An image of blocks is whole just where its superblock with these blocks is.
use Rattle.std.proofs.Common.{◌≡◌, ◌≤◌, ◌<◌, ◌+◌, ◌*◌, ◌-◌, ℕ, zero, suc, List, ◌++◌, length, Bool, true, false, cond, sym, ap, ◌∙◌, subst, arith, take, drop, replicate, length-append}
use Rattle.std.proofs.lemmas.List.{length-replicate}
use Rattle.std.proofs.Math.Seq.{take-append_seam, drop-append-add}
use Rattle.std.specs.Prelude.{◌==◌}
use Rattle.std.specs.List.{flat_map}
use Rattle.bfs_base.specs.Images.{block}
use Rattle.bfs_base.specs.Lists.{times, counted_from}
use Rattle.bfs_super.specs.Conditions.{natural, IsValid}
use Rattle.bfs_super.specs.Geometry.{geometry_of}
use Rattle.bfs_super.specs.Layout.{super_at, sector_of}
use Rattle.bfs_super.specs.declared.sup.Super.{Super}
use Rattle.bfs_log.specs.Replay.{super_of, blocks_of, block_sectors, Valid}
use Rattle.bfs_tree.specs.Trees.{Tree}
use Rattle.bfs_sound.specs.Volumes.{log_blocks}
use Rattle.bfs_sound.specs.Whole.{Whole, IsWhole}
use Rattle.bfs_sound.proofs.Carried.{whole_carried, volume_is}
use Rattle.bfs_bytes.specs.declared.Run.{Run}
use Rattle.bfs_sound_tests.specs.Bytes.{run, address}
use Rattle.bfs_sound_tests.specs.Worked.{super_indexed, super_of_used, image_of, with_block, IsBroken}
use Rattle.bfs_sound_tests.proofs.Supers.{valid}

-- the blocks of a volume with one block changed are as long as before
pub with_long : (at : ℕ) (bytes : List ℕ) (blocks : ℕ → List ℕ) → length bytes ≡ 1024 → ((k : ℕ) → length (blocks k) ≡ 1024) → (k : ℕ) → length (with_block at bytes blocks k) ≡ 1024
with_long at bytes blocks here there k = by (k == at)
  where
    by : (b : Bool) → length (cond b bytes (blocks k)) ≡ 1024
    by true = here
    by false = there k

behind : (a m : ℕ) (xs ys : List ℕ) → length xs ≡ a → drop (a + m) (xs ++ ys) ≡ drop m ys
behind a m xs ys is = subst (λ n. drop (n + m) (xs ++ ys) ≡ drop m ys) is (drop-append-add xs ys m)

front : (n : ℕ) (xs ys : List ℕ) → length xs ≡ n → take n (xs ++ ys) ≡ xs
front n xs ys is = ap (λ k. take k (xs ++ ys)) (sym is) ∙ take-append_seam xs ys

not_first : (k m : ℕ) → cond (0 == k) 1 0 + m ≡ 0 → 1 ≤ k
not_first k m e = grind (arith, e)

zeros_long : length (replicate {A = ℕ} 512 0) ≡ 512
zeros_long = length-replicate {A = ℕ} 512 0

-- the superblock of an image is the one that it was made of
pub super_is_made : (s : Super) (blocks : ℕ → List ℕ) → super_at (sector_of s) ≡ s → length (sector_of s) ≡ 512 → super_of (image_of s blocks) ≡ s
unfolding image_of
super_is_made s blocks again full =
    let tail : List ℕ = flat_map blocks (counted_from 1 63) in
    ap (λ l. super_at (take 512 l)) (behind 512 0 (replicate 512 0) (sector_of s ++ tail) zeros_long) ∙ ap super_at (front 512 (sector_of s) tail full) ∙ again

module _ (indices log : Run) (start end used : ℕ) (blocks : ℕ → List ℕ) (long : (k : ℕ) → length (blocks k) ≡ 1024) (is_valid : IsValid (super_indexed indices log start end used)) (again : super_at (sector_of (super_indexed indices log start end used)) ≡ super_indexed indices log start end used)
    (full : length (sector_of (super_indexed indices log start end used)) ≡ 512) where
  abbrev s : Super
  s = super_indexed indices log start end used

  abbrev image : List ℕ
  image = image_of s blocks

  abbrev tail : List ℕ
  tail = flat_map blocks (counted_from 1 63)

  super_is : super_of image ≡ s
  super_is = super_is_made s blocks again full

  -- a block of the list that the image's blocks make
  nth : (first n j : ℕ) → j < n → take 1024 (drop (1024 * j) (flat_map blocks (counted_from first n))) ≡ blocks (first + j)
  nth first zero j h = absurd (omega (arith, h))
  nth first (suc n) zero h =
      let z : 1024 * 0 ≡ 0 = grind arith in
      ap (λ m. take 1024 (drop m (blocks first ++ flat_map blocks (counted_from (suc first) n)))) z
      ∙ front 1024 (blocks first) (flat_map blocks (counted_from (suc first) n)) (long first) ∙ ap blocks (let e : first ≡ first + 0 = omega arith in e)
  nth first (suc n) (suc j) h =
      let m : 1024 * suc j ≡ 1024 + 1024 * j = grind arith in
      ap (λ m. take 1024 (drop m (blocks first ++ flat_map blocks (counted_from (suc first) n)))) m
      ∙ ap (take 1024) (behind 1024 (1024 * j) (blocks first) (flat_map blocks (counted_from (suc first) n)) (long first))
      ∙ nth (suc first) n j (omega (arith, h)) ∙ ap blocks (let e : suc first + j ≡ first + suc j = omega arith in e)

  length-blocks : (first n : ℕ) → length (flat_map blocks (counted_from first n)) ≡ 1024 * n
  length-blocks first zero = let e : 0 ≡ 1024 * 0 = grind arith in e
  length-blocks first (suc n) =
      let m : 1024 * suc n ≡ 1024 + 1024 * n = grind arith in
      omega (arith, length-append (blocks first) (flat_map blocks (counted_from (suc first) n)), long first, length-blocks (suc first) n, m)

  length-image : length image ≡ 65536
  unfolding image_of
  length-image = omega (arith, length-append (replicate 512 0) (sector_of s ++ tail), zeros_long, length-append (sector_of s) tail, full, length-blocks 1 63)

  block_is : (k : ℕ) → 1 ≤ k → k < 64 → blocks_of image k ≡ blocks k
  unfolding image_of
  block_is k some few =
      let j : ℕ = k - 1 in
      let e : 512 * (2 * k) ≡ 512 + (512 + 1024 * j) = omega (arith, some) in
      ap (λ (t : Super). block (block_sectors t) k image) super_is
      ∙ ap (λ m. take 1024 (drop m image)) e
      ∙ ap (take 1024) (behind 512 (512 + 1024 * j) (replicate 512 0) (sector_of s ++ tail) zeros_long)
      ∙ ap (take 1024) (behind 512 (1024 * j) (sector_of s) tail full)
      ∙ nth 1 63 j (omega (arith, some, few)) ∙ ap blocks (let same : 1 + (k - 1) ≡ k = omega (arith, some) in same)

  pub image_valid : Valid image
  image_valid = record {
    sectors = let l = length-image in omega (arith, l);
    super = subst IsValid (sym super_is) is_valid;
    blocks = subst (λ (t : Super). natural t.num_blocks * t.block_size ≤ length image) (sym super_is) (let l = length-image in omega (arith, l));
  }

  -- where it is whole, the image is
  pub image_whole : (tree : Tree) → Whole s blocks tree → IsWhole image tree
  image_whole tree w = record {
    valid = image_valid;
    whole = whole_carried s (super_of image) blocks (blocks_of image) tree w (volume_is image image_valid) (ap (λ (t : Super). t.log_start) super_is ∙ w.emptied ∙ sym (ap (λ (t : Super). t.log_end) super_is)) (record {
      fields = ap geometry_of super_is;
      blocks = λ k m apart. block_is k (not_first k (times k (log_blocks (geometry_of s))) apart) ((w.sound.bits k).1 m.0).0;
    });
  }

  -- and where the image is, it is
  pub blocks_whole : (tree : Tree) → IsWhole image tree → Whole s blocks tree
  blocks_whole tree w = whole_carried (super_of image) s (blocks_of image) blocks tree w.whole (record { super = is_valid; long = λ k _. long k }) (sym (ap (λ (t : Super). t.log_start) super_is) ∙ w.whole.emptied ∙ ap (λ (t : Super). t.log_end) super_is) (record {
    fields = sym (ap geometry_of super_is);
    blocks = λ k m apart. sym (block_is k (not_first k (times k (log_blocks (geometry_of (super_of image)))) apart) (subst (λ (t : Super). k < natural t.num_blocks) super_is ((w.whole.sound.bits k).1 m.0).0));
  })

-- with an empty log in blocks 2 and 3
module _ (used : ℕ) (blocks : ℕ → List ℕ) (long : (k : ℕ) → length (blocks k) ≡ 1024) (again : super_at (sector_of (super_of_used used)) ≡ super_of_used used) (full : length (sector_of (super_of_used used)) ≡ 512) where
  pub to_image : (tree : Tree) → Whole (super_of_used used) blocks tree → IsWhole (image_of (super_of_used used) blocks) tree
  to_image tree w = image_whole (address 7) (run 2 2) 0 0 used blocks long (valid used) again full tree w

  pub from_image : (tree : Tree) → IsWhole (image_of (super_of_used used) blocks) tree → Whole (super_of_used used) blocks tree
  from_image tree w = blocks_whole (address 7) (run 2 2) 0 0 used blocks long (valid used) again full tree w

  -- where no tree stands on the blocks, the image is broken
  pub broken : ((tree : Tree) → Whole (super_of_used used) blocks tree → ⊥) → IsBroken used blocks
  broken none tree w = none tree (from_image tree w)
