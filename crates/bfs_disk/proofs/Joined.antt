-- What a read gives of a block, and that some image is left.
use Rattle.std.proofs.Common.{◌≡◌, ℕ, zero, suc, ◌+◌, ◌*◌, ◌<◌, ◌≤◌, List, ◌++◌, length, drop, refl, sym, ◌∙◌, ap, subst, arith, Option, Some, None, IfSome, length-drop}
use Rattle.std.proofs.lemmas.List.{length-take-le}
use Rattle.bfs_disk.specs.State.{State, Filled, IsImage, IsOneOf, IsQuiet, ReadsAs, newest}
use Rattle.bfs_disk.specs.Disk.{InRange, ReadsSectors}
use Rattle.bfs_disk.specs.Blocks.{AreRead, IsRead, Known, contents_of}
use Rattle.bfs_disk.proofs.Images.{one_of_one}
use Rattle.bfs_base.specs.Images.{block, joined, sector}
use Rattle.bfs_base.proofs.Sectors.{sector_part, same_sectors, length-joined, sector-joined}
use Rattle.bfs_disk.specs.StateLaws.{newest_one, newest_long}

-- a block as a read gives it
pub contents_read : (s : State) (r b : ℕ) → Filled s → r * b + r ≤ s.size → IsRead s r b (contents_of s r b)
contents_read s r b whole fits =
    let long : (j : ℕ) → j < r → length (newest s (r * b + j)) ≡ 512 = λ j lt. newest_long s (r * b + j) whole (omega (arith, lt, fits)) in
    record { long = length-joined r (λ j. newest s (r * b + j)) long; each = λ j lt. sector-joined r (λ i. newest s (r * b + i)) j long lt }

-- and only so
pub read_once : (s : State) (r b : ℕ) (c d : List ℕ) → IsRead s r b c → IsRead s r b d → c ≡ d
read_once s r b c d one two = same_sectors r c d (one.long ∙ sym two.long) (omega (arith, one.long)) (λ j lt. one.each j lt ∙ sym (two.each j lt))

-- sectors that were read are a block as the disk reads it
pub block_of_sectors : (told : Option State) (known : Option ℕ) (r b : ℕ) (bytes : List ℕ) → IfSome told Filled → IfSome told (λ s. known ≡ Some s.size) → InRange known (r * b) bytes → length bytes ≡ 512 * r
    → ReadsSectors told (r * b) bytes → AreRead told r b bytes
block_of_sectors None known r b bytes filled sized range long each = tt
block_of_sectors (Some s) None r b bytes filled sized range long each = absurd range
block_of_sectors (Some s) (Some size) r b bytes filled sized range long each =
    let same : size ≡ s.size = cc in
    let is : IsRead s r b bytes = record { long = long; each = λ j lt. each j (omega (arith, lt, long)) } in
    read_once s r b bytes (contents_of s r b) is (contents_read s r b filled (omega (arith, same, range, long)))

-- and the block's sectors are the disk's
pub sectors_of_block : (told : Option State) (known : Option ℕ) (r b : ℕ) (bytes : List ℕ) → IfSome told Filled → IfSome told (λ s. known ≡ Some s.size) → InRange known (r * b) bytes → length bytes ≡ 512 * r
    → AreRead told r b bytes → ReadsSectors told (r * b) bytes
sectors_of_block None known r b bytes filled sized range long read = tt
sectors_of_block (Some s) None r b bytes filled sized range long read = absurd range
sectors_of_block (Some s) (Some size) r b bytes filled sized range long read = λ j lt.
    let same : size ≡ s.size = cc in
    ap (sector j) read ∙ (contents_read s r b filled (omega (arith, same, range, long))).each j (omega (arith, lt, long))

pub joined_same : (n : ℕ) (f g : ℕ → List ℕ) → ((j : ℕ) → j < n → f j ≡ g j) → joined n f ≡ joined n g
joined_same zero f g same = refl
joined_same (suc n) f g same = ap (λ (x : List ℕ). x ++ joined n (λ j. f (suc j))) (same 0 (omega arith)) ∙ ap (λ (xs : List ℕ). g 0 ++ xs) (joined_same n (λ j. f (suc j)) (λ j. g (suc j)) (λ j lt. same (suc j) (omega arith)))

-- a crash leaves some image
pub some_image : (s : State) → Filled s → IsImage s (joined s.size (newest s))
some_image s whole =
    let long : (k : ℕ) → k < s.size → length (newest s k) ≡ 512 = λ k lt. newest_long s k whole lt in
    record { size = length-joined s.size (newest s) long; each = λ k lt. subst (IsOneOf (s.contents k)) (sym (sector-joined s.size (newest s) k long lt)) (newest_one (s.contents k) (whole.some k lt)) }

-- a quiet disk that reads as an image leaves its superblock and its blocks, and a read gives them
pub known_quiet : (s : State) (r : ℕ) (image : List ℕ) → IsQuiet s → ReadsAs s image → 1 < s.size
    → Known s r (λ c. c ≡ sector 1 image) (λ c. c ≡ sector 1 image) (λ b c. c ≡ block r b image) (λ b c. c ≡ block r b image)
known_quiet s r image quiet reads some =
    let only : (k : ℕ) (c : List ℕ) → k < s.size → IsOneOf (s.contents k) c → c ≡ sector k image = λ k c lt one. one_of_one (s.contents k) c (quiet k lt) one ∙ sym (reads.each k lt) in
    let whole : (b : ℕ) → r * b + r ≤ s.size → length (block r b image) ≡ 512 * r = λ b fits. length-take-le (512 * r) (drop (512 * (r * b)) image) (omega (arith, reads.size, length-drop (512 * (r * b)) image)) in
    record {
      super_leaves = λ c one. only 1 c some one;
      super_reads = sym (reads.each 1 some);
      leaves = λ b c pos fits may. same_sectors r c (block r b image) (may.long ∙ sym (whole b fits)) (omega (arith, may.long))
          (λ j lt. only (r * b + j) (sector j c) (omega (arith, lt, fits)) (may.each j lt) ∙ sym (sector_part (r * b) j (512 * r) image (omega arith)));
      reads = λ b c pos fits read. same_sectors r c (block r b image) (read.long ∙ sym (whole b fits)) (omega (arith, read.long))
          (λ j lt. read.each j lt ∙ sym (reads.each (r * b + j) (omega (arith, lt, fits))) ∙ sym (sector_part (r * b) j (512 * r) image (omega arith)));
    }
