-- What is known of a disk while homes are written, over writes, barriers and crashes.
use Rattle.std.proofs.Common.{◌≡◌, ◌≢◌, ◌⊎◌, inl, inr, ⊎_elim, ℕ, ◌+◌, ◌-◌, ◌*◌, ◌/◌, ◌<◌, ◌≤◌, List, [], ◌∷◌, ◌++◌, length, take, drop, refl, sym, ◌∙◌, ap, subst, arith, get_or, Bool, true, false, length-drop}
use Rattle.std.specs.Prelude.{All, if◌then◌else◌, ◌==◌, Option, Some, None}
use Rattle.std.specs.Option.{IfSome}
use Rattle.std.proofs.lemmas.Bool.{cases_lt, cond-true, cond-false, ne_eqb}
use Rattle.std.proofs.lemmas.List.{length-take-le}
use Rattle.std.proofs.lemmas.List.Elements.{All-head, All-tail}
use Rattle.std.proofs.Math.Nat.{mul-le-mul_left}
use Rattle.bfs_base.specs.Images.{sector, block, overwritten}
use Rattle.bfs_base.specs.Lists.{times, Has}
use Rattle.bfs_base.proofs.Sectors.{same_sectors, sector_part, sector_before, sector_inside, sector_after, length-pasted}
use Rattle.bfs_disk.specs.State.{State, Tells, Filled, IsImage, IsOneOf, ReadsAs, Holds, newest, written, settled, names}
use Rattle.bfs_disk.specs.StateLaws.{newest_one}
use Rattle.bfs_disk.specs.Blocks.{IsRead}
use Rattle.bfs_disk.specs.Disk.{ReadsSectors, HasSectors}
use Rattle.bfs_disk.proofs.Calls.{first_same}
use Rattle.bfs_disk.proofs.Names.{names_before, names_inside, names_after}
use Rattle.bfs_disk.proofs.Images.{one_of_one, written_image, settled_quiet, settled_reads}
use Rattle.bfs_super.specs.declared.geometry.Geometry.{Geometry}
use Rattle.bfs_super.specs.declared.sup.Super.{Super}
use Rattle.bfs_super.specs.Conditions.{natural, IsValid}
use Rattle.bfs_super.specs.Geometry.{geometry_of}
use Rattle.bfs_log.specs.Entry.{IsHome, log_first}
use Rattle.bfs_log.specs.Replay.{Home, AgreeBut, block_sectors, blocks_of, home_places, with_homes}
use Rattle.bfs_replay.specs.Homing.{Homing, Reads, IsLogOf}
use Rattle.bfs_replay.specs.Steps.{AreRead, sectors_of}
use Rattle.bfs_replay.proofs.Sizes.{fits_sectors, log_inside}

-- ---- sectors

nil_of : (a : List ℕ) → length a ≤ 0 → a ≡ []
nil_of [] h = refl
nil_of (x ∷ a) h = absurd (omega arith)

-- a sector past the end
no_sector : (k : ℕ) (a : List ℕ) → length a ≤ 512 * k → sector k a ≡ []
no_sector k a past = ap (take 512) (nil_of (drop (512 * k) a) (omega (arith, past, length-drop (512 * k) a)))

-- sectors that a write doesn't name
kept_contents : (s : State) (at k : ℕ) (bytes : List ℕ) → names at bytes k ≡ false → (written s at bytes).contents k ≡ s.contents k
kept_contents s at k bytes off = cond-false (names at bytes k) (sector (k - at) bytes ∷ s.contents k) (s.contents k) off

kept_newest : (s : State) (at k : ℕ) (bytes : List ℕ) → names at bytes k ≡ false → newest s k ≡ newest (written s at bytes) k
kept_newest s at k bytes off = ap (λ (cs : List (List ℕ)). get_or cs 0 []) (sym (kept_contents s at k bytes off))

-- a write of one block names no sector of another
block_others : (r a b j : ℕ) (bytes : List ℕ) → length bytes ≡ 512 * r → b ≢ a → j < r → names (r * a) bytes (r * b + j) ≡ false
block_others r a b j bytes long other lt =
    ⊎_elim (λ below. names_before (r * a) (r * b + j) bytes (let le : r * (b + 1) ≤ r * a = mul-le-mul_left r (let l : b + 1 ≤ a = omega (arith, below) in l) in omega (arith, le, lt)))
    (λ ge. names_after (r * a) (r * b + j) bytes (let le : r * (a + 1) ≤ r * b = mul-le-mul_left r (let l : a + 1 ≤ b = omega (arith, ge, other) in l) in omega (arith, le, long)))
    (cases_lt b a)

-- the disk reads as the image with the bytes that were written
pub reads_written : (s : State) (at n : ℕ) (bytes x : List ℕ) → ReadsAs s x → length bytes ≡ 512 * n → at + n ≤ s.size → ReadsAs (written s at bytes) (overwritten at bytes x)
reads_written s at n bytes x reads long fits =
    let room : 512 * at + length bytes ≤ length x = omega (arith, long, fits, reads.size) in
    let count : length bytes / 512 ≡ n = omega (arith, long) in
    record {
      size = length-pasted at n bytes x room long ∙ reads.size;
      each = λ k lt. ⊎_elim
          (λ before. sector_before at n bytes x room long k before ∙ reads.each k lt ∙ kept_newest s at k bytes (names_before at k bytes before))
          (λ low. ⊎_elim
          (λ high. sector_inside at n bytes x room long k low high
          ∙ sym (ap (λ (cs : List (List ℕ)). get_or cs 0 []) (cond-true (names at bytes k) (sector (k - at) bytes ∷ s.contents k) (s.contents k) (names_inside at k bytes low (omega (arith, high, count))))))
          (λ past. sector_after at n bytes x room long k past ∙ reads.each k lt ∙ kept_newest s at k bytes (names_after at k bytes (omega (arith, past, count))))
          (cases_lt k (at + n)))
          (cases_lt k at);
    }

-- ---- a disk that reads as an image

-- what a disk reads is an image that a crash may leave
pub image_of_reads : (s : State) (x : List ℕ) → Filled s → ReadsAs s x → IsImage s x
image_of_reads s x filled reads = record { size = reads.size; each = λ k lt. subst (IsOneOf (s.contents k)) (sym (reads.each k lt)) (newest_one (s.contents k) (filled.some k lt)) }

one_left : (xs : List (List ℕ)) → 0 < length xs → length (take 1 xs) ≡ 1
one_left [] some = absurd (omega arith)
one_left (x ∷ xs) some = refl

one_of_first : (xs : List (List ℕ)) (c : List ℕ) → IsOneOf (take 1 xs) c → IsOneOf xs c
one_of_first [] c one = one
one_of_first (x ∷ xs) c one = ⊎_elim (λ e. inl e) (λ none. absurd none) one

-- and after a barrier it holds that image
pub holds_settled : (s : State) (x : List ℕ) → Filled s → ReadsAs s x → Holds x (settled s)
holds_settled s x filled reads = record {
  quiet = λ k lt. one_left (s.contents k) (filled.some k lt);
  reads = record { size = reads.size; each = λ k lt. reads.each k lt ∙ first_same (s.contents k) };
}

-- a block of it, as it was read
pub reads_block : (s : State) (r b : ℕ) (image bytes : List ℕ) → ReadsAs s image → r * b + r ≤ s.size → IsRead s r b bytes → bytes ≡ block r b image
reads_block s r b image bytes reads fits is =
    same_sectors r bytes (block r b image) (is.long ∙ sym (length-take-le (512 * r) (drop (512 * (r * b)) image) (omega (arith, fits, reads.size, length-drop (512 * (r * b)) image)))) (omega (arith, is.long))
    (λ j lt. is.each j lt ∙ sym (reads.each (r * b + j) (omega (arith, lt, fits))) ∙ sym (sector_part (r * b) j (512 * r) image (omega (arith, lt))))

-- ---- homes

pub reads_of : (quiet : Bool) (image : List ℕ) (s : State) → Reads quiet image s → ReadsAs s image
reads_of false image s reads = reads
reads_of true image s held = held.reads

pub of_held : (quiet : Bool) (image : List ℕ) (s : State) → Holds image s → Reads quiet image s
of_held false image s held = held.reads
of_held true image s held = held

pub homing_start : (quiet : Bool) (r : ℕ) (all : List Home) (image : List ℕ) (s : State) → Reads quiet image s → Homing quiet r all [] image s
homing_start false r all image s reads = record {
  size = reads.size;
  reads = reads;
  outside = λ k j lt none inside. sym (reads.each (r * k + j) inside);
  others = λ is. absurd (cc is);
}
homing_start true r all image s held = record {
  size = held.reads.size;
  reads = held.reads;
  outside = λ k j lt none inside. sym (held.reads.each (r * k + j) inside);
  others = λ is. λ k j c lt none inside one. one_of_one (s.contents (r * k + j)) c (held.quiet (r * k + j) inside) one ∙ sym (held.reads.each (r * k + j) inside);
}

-- what a crash leaves differs from the image in the blocks of homes alone
pub homing_image : {quiet : Bool} → quiet ≡ true → (r : ℕ) (all done : List Home) (image c : List ℕ) (s : State) → Homing quiet r all done image s → IsImage s c → AgreeBut r all image c
homing_image is_quiet r all done image c s known left = record {
  size = left.size ∙ sym known.size;
  each = λ k j lt none. ⊎_elim
      (λ inside. known.others is_quiet k j (sector (r * k + j) c) lt none inside (left.each (r * k + j) inside))
      (λ past. no_sector (r * k + j) c (omega (arith, past, left.size)) ∙ sym (no_sector (r * k + j) image (omega (arith, past, known.size))))
      (cases_lt (r * k + j) s.size);
}

-- a block outside of the homes, as it was read
pub homing_block : {quiet : Bool} (r b : ℕ) (all done : List Home) (image bytes : List ℕ) (s : State) → Homing quiet r all done image s → times b (home_places all) ≡ 0 → r * b + r ≤ s.size → IsRead s r b bytes → bytes ≡ block r b image
homing_block r b all done image bytes s known none fits is =
    same_sectors r bytes (block r b image) (is.long ∙ sym (length-take-le (512 * r) (drop (512 * (r * b)) image) (omega (arith, fits, known.size, length-drop (512 * (r * b)) image)))) (omega (arith, is.long))
    (λ j lt.
    let inside : r * b + j < s.size = omega (arith, lt, fits) in
    is.each j lt ∙ known.outside b j lt none inside ∙ sym (sector_part (r * b) j (512 * r) image (omega (arith, lt))))

with_homes_more : (r : ℕ) (done : List Home) (home : Home) (image : List ℕ) → with_homes r (done ++ home ∷ []) image ≡ overwritten (r * home.place) home.bytes (with_homes r done image)
with_homes_more r [] home image = refl
with_homes_more r (first ∷ done) home image = with_homes_more r done home (overwritten (r * first.place) first.bytes image)

-- one home more is written
pub homing_written : {quiet : Bool} (r : ℕ) (all done : List Home) (home : Home) (image : List ℕ) (s : State) → Homing quiet r all done image s → Has (home_places all) home.place → length home.bytes ≡ 512 * r → r * home.place + r ≤ s.size
    → Homing quiet r all (done ++ home ∷ []) image (written s (r * home.place) home.bytes)
homing_written r all done home image s known has long fits = record {
  size = known.size;
  reads = subst (ReadsAs (written s (r * home.place) home.bytes)) (sym (with_homes_more r done home image)) (reads_written s (r * home.place) r home.bytes (with_homes r done image) known.reads long fits);
  outside = λ k j lt none inside.
      let other : k ≢ home.place = λ same. (let z : times home.place (home_places all) ≡ 0 = subst (λ (n : ℕ). times n (home_places all) ≡ 0) same none in omega (arith, z, has)) in
      sym (kept_newest s (r * home.place) (r * k + j) home.bytes (block_others r home.place k j home.bytes long other lt)) ∙ known.outside k j lt none inside;
  others = λ is k j c lt none inside one.
      let other : k ≢ home.place = λ same. (let z : times home.place (home_places all) ≡ 0 = subst (λ (n : ℕ). times n (home_places all) ≡ 0) same none in omega (arith, z, has)) in
      known.others is k j c lt none inside (subst (λ cs. IsOneOf cs c) (kept_contents s (r * home.place) (r * k + j) home.bytes (block_others r home.place k j home.bytes long other lt)) one);
}

-- ---- the superblock

module _ {quiet : Bool} (r : ℕ) (all : List Home) (image sup : List ℕ) (s : State) (known : Homing quiet r all all image s) (filled : Filled s) (long : length sup ≡ 512) (some : 1 < s.size) where
  abbrev pub done : List ℕ
  done = with_homes r all image

  held : Holds done (settled s)
  held = holds_settled s done filled known.reads

  -- during its write, behind the barrier
  pub closing : quiet ≡ true → (c : List ℕ) → IsImage (written (settled s) 1 sup) c → AgreeBut r all image c ⊎ (c ≡ overwritten 1 sup done)
  closing is_quiet c left =
      ⊎_elim (λ old. inl (subst (AgreeBut r all image) (sym old) (homing_image is_quiet r all all image done s known (image_of_reads s done filled known.reads)))) (λ new. inr new)
      (written_image (settled s) 1 sup done held.quiet held.reads long some c left)

  settled_image : (c : List ℕ) → IsImage (settled s) c → IsImage s c
  settled_image c left = record { size = left.size; each = λ k lt. one_of_first (s.contents k) (sector k c) (left.each k lt) }

  -- and before it
  pub before_closing : quiet ≡ true → (c : List ℕ) → IsImage (settled s) c → AgreeBut r all image c
  before_closing is_quiet c left = homing_image is_quiet r all all image c s known (settled_image c left)

  -- after the barrier behind it
  pub closed : Holds (overwritten 1 sup done) (settled (written (settled s) 1 sup))
  closed = record { quiet = settled_quiet (settled s) 1 sup done held.quiet held.reads long some; reads = settled_reads (settled s) 1 sup done held.quiet held.reads long some }

-- ---- reads and places

-- a block of the log is no home
pub not_home : (g : Geometry) (at : ℕ) (xs : List ℕ) → All (IsHome g) xs → at < g.log.len → times (log_first g + at) xs ≡ 0
not_home g at [] homes low = refl
not_home g at (x ∷ xs) homes low =
    let home = All-head (IsHome g) x xs homes in
    let apart : x ≢ log_first g + at = λ e. ⊎_elim (λ before. omega (arith, before, e)) (λ behind. omega (arith, behind, e, low)) home.apart in
    let first : ◌≡◌ {A = ℕ} (if x == log_first g + at then 1 else 0) 0 = cond-false {A = ℕ} (x == log_first g + at) 1 0 (ne_eqb x (log_first g + at) apart) in
    omega (arith, first, not_home g at xs (All-tail (IsHome g) x xs homes) low)

-- a read of sectors is one of a block
pub are_read : (told : Option State) (r b : ℕ) (bytes : List ℕ) → length bytes ≡ 512 * r → ReadsSectors told (r * b) bytes → AreRead told r b bytes
are_read None r b bytes long each = tt
are_read (Some s) r b bytes long each = record { long = long; each = λ j lt. each j (omega (arith, lt, long)) }

-- the number of sectors of a disk that tells
pub told_size : (told : Option State) (size : Option ℕ) (s : State) (n : ℕ) → told ≡ Some s → IfSome told (λ t. size ≡ Some t.size) → HasSectors size n → n ≤ s.size
told_size told size s n is sized has =
    let known : size ≡ Some s.size = subst (λ st. IfSome st (λ t. size ≡ Some t.size)) is sized in
    subst (λ z. HasSectors z n) known has

pub told_filled : (told : Option State) (s : State) → told ≡ Some s → IfSome told Filled → Filled s
told_filled told s is filled = subst (λ o. IfSome o Filled) is filled

pub told_read : (told : Option State) (r b : ℕ) (bytes : List ℕ) (s : State) → told ≡ Some s → AreRead told r b bytes → IsRead s r b bytes
told_read told r b bytes s is read = subst (λ o. IfSome o (λ t. IsRead t r b bytes)) is read

-- ---- one home, read from the log and written

module _ (s : Super) (valid : IsValid s) (told : Option State) (size : Option ℕ) (filled : IfSome told Filled) (sized : IfSome told (λ t. size ≡ Some t.size)) (on_disk : HasSectors size (sectors_of s))
    (at home : ℕ) (low : at < s.log_blocks.len) (inside : home < natural s.num_blocks) (bytes : List ℕ) (read : AreRead told (block_sectors s) (log_first (geometry_of s) + at) bytes) where
  abbrev pub homed : List ℕ → Home
  homed image = record { place = home; bytes = blocks_of image (log_first (geometry_of s) + at) }

  pub home_written : {quiet : Bool} (image : List ℕ) (all done : List Home) → IsLogOf image s all → Has (home_places all) home → (known : Tells told (Homing quiet (block_sectors s) all done image))
      → Homing quiet (block_sectors s) all (done ++ homed image ∷ []) image (written known.0 (block_sectors s * home) bytes)
  home_written {quiet} image all done log has known =
      let r = block_sectors s in
      let p = log_first (geometry_of s) + at in
      let room = told_size told size known.0 (sectors_of s) known.1 sized on_disk in
      let there = told_read told r p bytes known.0 known.1 read in
      let is : bytes ≡ blocks_of image p =
      homing_block r p all done image bytes known.0 known.2 (not_home (geometry_of s) at (home_places all) log.homes low) (omega (arith, room, fits_sectors s valid p (log_inside s valid at low))) there
      ∙ sym (ap (λ (t : Super). block (block_sectors t) p image) log.super) in
      subst (λ (l : List ℕ). Homing quiet r all (done ++ record { place = home; bytes = l } ∷ []) image (written known.0 (r * home) bytes)) is
      (homing_written r all done (record { place = home; bytes = bytes }) image known.0 known.2 has there.long (omega (arith, room, fits_sectors s valid home inside)))
