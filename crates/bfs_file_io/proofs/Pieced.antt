-- Where the bytes of a piece of a file are, by the blocks that have it.
use Rattle.std.proofs.Common.{◌≡◌, ◌<◌, ◌≤◌, ◌+◌, ◌-◌, ◌*◌, ◌/◌, ◌%◌, ◌==◌, ℕ, zero, suc, List, [], ◌∷◌, length, take, drop, Bool, false, cond, Option, Some, refl, sym, ◌∙◌, ap, subst, mod-lt, arith}
use Rattle.std.specs.Prelude.{slice_get, slice_index}
use Rattle.std.proofs.Math.Nat.{div-add-mod, mul_comm, mul-add-mod_self_left, mod-eq_of_lt, mul-le-mul_left}
use Rattle.std.proofs.lemmas.Nat.{div-mul-add}
use Rattle.std.proofs.lemmas.Option.{slice_get-get_or}
use Rattle.bfs_disk.specs.State.{State}
use Rattle.bfs_disk.specs.Blocks.{contents_of}
use Rattle.bfs_super.specs.Conditions.{ceil}
use Rattle.bfs_log.proofs.Bounds.{group_low}
use Rattle.bfs_tree.specs.Histories.{Mounted, after}
use Rattle.bfs_tree.specs.Trees.{Tree}
use Rattle.bfs_sound.specs.Inodes.{stream_blocks}
use Rattle.bfs_sound.specs.Volumes.{Volume}
use Rattle.bfs_device.specs.Layouts.{layout_of}
use Rattle.bfs_device.specs.Books.{Books}
use Rattle.bfs_commit.specs.Places.{piece_blocks, piece_of}
use Rattle.bfs_core.specs.Spaces.{SpaceView, face}
use Rattle.bfs_core.specs.Cores.{newest_map}
use Rattle.bfs_core.specs.KnownBytes.{HasByte}
use Rattle.bfs_pieces.specs.Pieces.{IsHeldPiece}
use Rattle.bfs_commit.specs.Held.{HasPlaces, IsOnDisk}
use Rattle.bfs_commit.proofs.Taken.{IsHeldFile}

-- ---- lists

get_drop : (m i : ℕ) (xs : List ℕ) → slice_get (drop m xs) i ≡ slice_get xs (m + i)
get_drop zero i xs = ap (slice_get xs) (let e : i ≡ 0 + i = omega arith in e)
get_drop (suc m) i [] = refl
get_drop (suc m) i (x ∷ xs) = get_drop m i xs ∙ ap (slice_get (x ∷ xs)) (let e : suc (m + i) ≡ suc m + i = omega arith in e)

get_take : (n i : ℕ) (xs : List ℕ) → i < length (take n xs) → slice_get (take n xs) i ≡ slice_get xs i
get_take zero i xs lt = absurd (omega (arith, lt))
get_take (suc n) i [] lt = absurd (omega (arith, lt))
get_take (suc n) zero (x ∷ xs) lt = refl
get_take (suc n) (suc i) (x ∷ xs) lt = get_take n i xs (omega (arith, lt))

-- ---- places and blocks

pub place_in : (size index low n : ℕ) → low < size → n ≡ size * index + low → (n / size ≡ index) × (n % size ≡ low)
place_in size index low n lt is =
    let turned : n ≡ index * size + low = is ∙ ap (λ (k : ℕ). k + low) (mul_comm size index) in (
      ap (λ (k : ℕ). k / size) turned ∙ div-mul-add index size low lt,
      ap (λ (k : ℕ). k % size) is ∙ mul-add-mod_self_left size index low ∙ mod-eq_of_lt {n = low} {m = size} lt,
    )

pub in_block : (size at k : ℕ) → 0 < size → ((at + k) / size ≡ at / size + (at % size + k) / size) × ((at + k) % size ≡ (at % size + k) % size)
in_block size at k some =
    let n : ℕ = at % size + k in
    let e : size * (at / size) + at % size ≡ at = div-add-mod at size in
    let f : size * ((at % size + k) / size) + (at % size + k) % size ≡ at % size + k = div-add-mod (at % size + k) size in
    let d : size * (at / size + (at % size + k) / size) ≡ size * (at / size) + size * ((at % size + k) / size) = omega arith in
    place_in size (at / size + (at % size + k) / size) ((at % size + k) % size) (at + k) (mod-lt (at % size + k) some) (omega (arith, e, f, d))

-- the blocks of a piece are those of the stream from the one in which it begins
pub place_at : (size at count : ℕ) (blocks places : List ℕ) → places ≡ piece_of size at count blocks → (i : ℕ) → i < length places → slice_get blocks (at / size + i) ≡ Some (slice_index places i)
place_at size at count blocks places is i lt =
    sym (get_drop (at / size) i blocks)
    ∙ sym (get_take (piece_blocks size at count) i (drop (at / size) blocks) (subst (λ (xs : List ℕ). i < length xs) is lt))
    ∙ ap (λ (xs : List ℕ). slice_get xs i) (sym is)
    ∙ slice_get-get_or places i 0 lt

some_blocks : (size at count n : ℕ) → 0 < count → n ≡ piece_blocks size at count → n ≡ ceil (at % size + count) size
some_blocks size at count n some is =
    let z : (count == 0) ≡ false = grind (arith, some) in
    is ∙ ap (λ (t : Bool). cond t 0 (ceil (at % size + count) size)) z

pub block_low : (size at count k n : ℕ) → 0 < size → k < count → n ≡ piece_blocks size at count → (at % size + k) / size < n
block_low size at count k n some lt is =
    let e = some_blocks size at count n (omega (arith, lt)) is in
    let g = group_low (at % size + k) (at % size + count) size some (omega (arith, lt)) in
    omega (arith, e, g)

-- they have all of its bytes
pub blocks_cover : (size at count n : ℕ) → 0 < size → 0 < count → n ≡ piece_blocks size at count → at % size + count ≤ size * n
blocks_cover size at count n some more is =
    let last : ℕ = at % size + (count - 1) in
    let low : (at % size + (count - 1)) / size < n = block_low size at count (count - 1) n some (omega (arith, more)) is in
    let e : size * ((at % size + (count - 1)) / size) + (at % size + (count - 1)) % size ≡ at % size + (count - 1) = div-add-mod (at % size + (count - 1)) size in
    let r : (at % size + (count - 1)) % size < size = mod-lt (at % size + (count - 1)) some in
    let m : size * ((at % size + (count - 1)) / size + 1) ≤ size * n = mul-le-mul_left size (let l : (at % size + (count - 1)) / size + 1 ≤ n = omega (arith, low) in l) in
    let d : size * ((at % size + (count - 1)) / size + 1) ≡ size * ((at % size + (count - 1)) / size) + size = omega arith in
    omega (arith, e, r, m, d, more)

-- so a piece that is held of a file has these blocks
pub held_piece : (t0 : Mounted) (sp : SpaceView) (b : Books) (told : Option State) (id at count : ℕ) (places : List ℕ) → IsHeldFile (after t0 sp.history).nodes id at count → HasPlaces sp b told id at count places → 0 < sp.sup.block_size → 0 < count → (st : State) → told ≡ Some st
    → IsHeldPiece t0 sp (newest_map b st) id at count (at % sp.sup.block_size) places
held_piece t0 sp b told id at count places file has some more st is = record {
  node = file.node;
  there = file.there;
  file = file.file;
  within = file.within;
  places_are = has.are st is;
  skip_is = refl;
  covers = blocks_cover sp.sup.block_size at count (length places) some more has.many;
}

-- ---- bytes

pub byte_there : (sp : SpaceView) (b : Books) (told : Option State) (id at : ℕ) (bytes : List ℕ) → IsOnDisk sp b told id at bytes → 0 < sp.sup.block_size → (st : State) → told ≡ Some st → (tree : Tree) → IsHeldFile tree.nodes id at (length bytes) → (k : ℕ) → k < length bytes
    → HasByte (face sp (newest_map b st)) tree (contents_of st (layout_of b.sup).sectors) id (at + k) (slice_index bytes k)
byte_there sp b told id at bytes on some st is tree file k lt =
    let size : ℕ = sp.sup.block_size in
    let in_it = in_block sp.sup.block_size at k some in
    let low = file.within in
    record {
      file = (file.node, file.there, file.file, omega (arith, low, lt));
      block = slice_index on.places ((at % sp.sup.block_size + k) / sp.sup.block_size);
      is = ap (slice_get (stream_blocks (face sp (newest_map b st)) id)) in_it.0
          ∙ on.has.are st is ((at % sp.sup.block_size + k) / sp.sup.block_size) (block_low sp.sup.block_size at (length bytes) k (length on.places) some lt on.has.many);
      byte_is = ap (slice_get (contents_of st (layout_of b.sup).sectors (slice_index on.places ((at % sp.sup.block_size + k) / sp.sup.block_size)))) in_it.1 ∙ on.bytes_are st is k lt;
    }

-- a place of a file has one byte
pub one_byte : (v : Volume) (tree : Tree) (contents : ℕ → List ℕ) (id place x y : ℕ) → HasByte v tree contents id place x → HasByte v tree contents id place y → x ≡ y
one_byte v tree contents id place x y a b =
    let e : Some a.block ≡ Some b.block = sym a.is ∙ b.is in
    let same : a.block ≡ b.block = cc in
    let f : Some x ≡ Some y = sym a.byte_is ∙ ap (λ (k : ℕ). slice_get (contents k) (place % v.geometry.block_size)) same ∙ b.byte_is in
    cc
