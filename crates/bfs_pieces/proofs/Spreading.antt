-- A piece over its blocks, one after the other.
use Rattle.std.proofs.Common.{◌≡◌, ◌≢◌, ◌⊎◌, inl, inr, ⊎_elim, ◌<◌, ◌≤◌, ◌+◌, ◌-◌, ◌*◌, ◌/◌, ◌%◌, min, ℕ, List, length, take, [], ◌++◌, Bool, Option, Some, None, refl, sym, ◌∙◌, ap, subst, arith, length-append}
use Rattle.std.specs.Prelude.{slice_get, slice_index, unwrap_or}
use Rattle.std.specs.FinMap.{get}
use Rattle.std.proofs.lemmas.Bool.{cases_lt}
use Rattle.std.proofs.lemmas.List.{get_or_append_left, get_or-append-add}
use Rattle.std.proofs.lemmas.Nat.{div-mul-add}
use Rattle.std.proofs.Math.Nat.{mul_comm, div-add-mod, div-lt_iff_lt-mul, lt_of_mul-lt-mul_left, mul-add-mod_self_left, mod-eq_of_lt}
use Rattle.bfs_disk.specs.State.{State}
use Rattle.bfs_txn.specs.Changed.{newest, or_else}
use Rattle.bfs_tree.specs.Histories.{Mounted, after, state_after}
use Rattle.bfs_sound.specs.Inodes.{stream_blocks}
use Rattle.bfs_device.specs.Books.{Books}
use Rattle.bfs_core.specs.Spaces.{SpaceView, IsFaceData, IsFaceMetadata, face, face_over}
use Rattle.bfs_core.specs.Cores.{Core, newest_map}
use Rattle.bfs_core.specs.KnownBytes.{HasKnown}
use Rattle.bfs_core.proofs.Files.{stream_stays}
use Rattle.bfs_core.proofs.Knowing.{file_data_of}
use Rattle.bfs_pieces.specs.Pieces.{IsPieceOf, IsHeldPiece, IsUnknown}
use Rattle.bfs_pieces.specs.Parts.{IsPartOf, IsClear}
use Rattle.bfs_pieces.proofs.Once.{same_file, same_place}

-- how far a loop over a piece's blocks is: so many bytes are done, and the next one is so far behind the start of this block
pub record IsAt (size skip count index from done : ℕ) : Type 0 where
  pub low : done ≤ count
  pub inside : from < size
  pub place : done < count → skip + done ≡ size * index + from
  pub begun : (done ≡ 0) ⊎ (from ≡ 0)

pub at_start : (size skip count : ℕ) → skip < size → IsAt size skip count 0 skip 0
at_start size skip count lt = record { low = omega arith; inside = lt; place = λ _. (let e : skip + 0 ≡ size * 0 + skip = omega arith in e); begun = inl refl }

pub index_low : (size skip count index from done n : ℕ) → IsAt size skip count index from done → done < count → skip + count ≤ size * n → index < n
index_low size skip count index from done n at lt covers =
    lt_of_mul-lt-mul_left size {m = index} {n = n} (let e = at.place lt in let h : size * index < size * n = omega (arith, e, lt, covers) in h)

pub at_next : (size skip count index from done n : ℕ) → IsAt size skip count index from done → done < count → n ≡ min (count - done) (size - from) → IsAt size skip count (index + 1) 0 (done + n)
at_next size skip count index from done n at lt is =
    let le : n ≤ count - done = grind (arith, is) in
    record {
      low = omega (arith, le, lt);
      inside = (let i = at.inside in omega (arith, i));
      place = λ more.
          let rest : n ≡ size - from = grind (arith, is, more) in
          let e = at.place lt in
          let i = at.inside in
          let m : size * (index + 1) ≡ size * index + size = omega arith in
          omega (arith, rest, e, i, m);
      begun = inr refl;
    }

pub part_inside : (size skip count index from done n : ℕ) → IsAt size skip count index from done → n ≡ min (count - done) (size - from) → (from + n ≤ size) × (n ≤ count - done)
part_inside size skip count index from done n at is =
    let le : n ≤ count - done = grind (arith, is) in
    let low : n ≤ size - from = grind (arith, is) in
    let i = at.inside in
    (omega (arith, low, i), le)

-- ---- where a byte of the piece is

-- so far behind the start of a block
pub place_in : (size index low n : ℕ) → low < size → n ≡ size * index + low → (n / size ≡ index) × (n % size ≡ low)
place_in size index low n lt is =
    let turned : n ≡ index * size + low = is ∙ ap (λ (k : ℕ). k + low) (mul_comm size index) in (
      ap (λ (k : ℕ). k / size) turned ∙ div-mul-add index size low lt,
      ap (λ (k : ℕ). k % size) is ∙ mul-add-mod_self_left size index low ∙ mod-eq_of_lt {n = low} {m = size} lt,
    )

-- a piece of no byte
pub piece_none : (contents : ℕ → List ℕ) (size : ℕ) (places : List ℕ) (skip : ℕ) (bytes : List ℕ) → IsPieceOf contents size places skip (take 0 bytes)
piece_none contents size places skip bytes k lt = absurd (omega (arith, lt))

-- one more part
module _ (contents : ℕ → List ℕ) (size : ℕ) (places : List ℕ) (skip index from : ℕ) (xs ys : List ℕ) (piece : IsPieceOf contents size places skip xs) (place : skip + length xs ≡ size * index + from)
    (fits : from + length ys ≤ size) (part : IsPartOf (contents (slice_index places index)) from ys) where
  new_byte : (j : ℕ) → j < length ys → slice_get (contents (slice_index places ((skip + (length xs + j)) / size))) ((skip + (length xs + j)) % size) ≡ Some (slice_index (xs ++ ys) (length xs + j))
  new_byte j lt =
      let is = place_in size index (from + j) (skip + (length xs + j)) (omega (arith, fits, lt)) (omega (arith, place)) in
      ap (λ (i : ℕ). slice_get (contents (slice_index places i)) ((skip + (length xs + j)) % size)) is.0
      ∙ ap (slice_get (contents (slice_index places index))) is.1
      ∙ part j lt
      ∙ ap (λ (b : ℕ). Some b) (sym (get_or-append-add xs ys j 0))

  by_side : (k : ℕ) → k < length (xs ++ ys) → (k < length xs) ⊎ (length xs ≤ k) → slice_get (contents (slice_index places ((skip + k) / size))) ((skip + k) % size) ≡ Some (slice_index (xs ++ ys) k)
  by_side k lt (inl low) = piece k low ∙ ap (λ (b : ℕ). Some b) (sym (get_or_append_left xs ys 0 k low))
  by_side k lt (inr high) =
      let e : length xs + (k - length xs) ≡ k = omega (arith, high) in
      subst (λ (i : ℕ). slice_get (contents (slice_index places ((skip + i) / size))) ((skip + i) % size) ≡ Some (slice_index (xs ++ ys) i)) e
      (new_byte (k - length xs) (omega (arith, high, lt, length-append xs ys)))

  pub piece_more : IsPieceOf contents size places skip (xs ++ ys)
  piece_more k lt = by_side k lt (cases_lt k (length xs))

-- ---- a write of the next part

module _ (t0 : Mounted) (sp : SpaceView) (b : Books) (t : ℕ → Bool) (st : State) (core : Core t0 sp b t st) (id at count skip : ℕ) (places : List ℕ) (held : IsHeldPiece t0 sp (newest_map b st) id at count skip places)
    (index from done : ℕ) (so : IsAt sp.sup.block_size skip count index from done) (left : done < count) where
  abbrev size : ℕ
  size = sp.sup.block_size

  pub this_low : index < length places
  this_low = index_low size skip count index from done (length places) so left held.covers

  pub file_here : IsFaceData t0 sp (newest_map b st) (slice_index places index)
  file_here = file_data_of t0 sp b t st id held.node (at / size + index) (slice_index places index) core held.there held.file (held.places_are index this_low)

  -- a place in this block is one of the piece
  at_place : (p : ℕ) → p / size ≡ at / size + index → from ≤ p % size → at + (done + (p % size - from)) ≡ p
  at_place p block low =
      let here = div-add-mod p size in
      let first = div-add-mod at size in
      let e = so.place left in
      let s = held.skip_is in
      let m : size * (p / size) ≡ size * (at / size) + size * index = ap (λ (k : ℕ). size * k) block ∙ (let d : size * (at / size + index) ≡ size * (at / size) + size * index = omega arith in d) in
      omega (arith, here, first, e, s, m, low)

  pub clear_here : (n : ℕ) → done + n ≤ count → HasKnown t0 sp b st → IsUnknown (state_after t0 sp.history).known id at count → IsClear t0 sp (newest_map b st) (slice_index places index) from n
  clear_here n fits known unknown other p byte is found = ⊎_elim
      (λ below. inl below)
      (λ above. ⊎_elim
      (λ inside. absurd (both inside above))
      (λ past. inr past)
      (cases_lt (p % size) (from + n)))
      (cases_lt (p % size) from)
    where
      both : p % size < from + n → from ≤ p % size → ⊥
      both inside above =
          let has = known other p byte is in
          let regular = has.file.2 in
          let same : other ≡ id = same_file (face sp (newest_map b st)) (after t0 sp.history) core.space.sound.nodes.once other id has.file.0 held.node (p / size) (at / size + index) (slice_index places index) has.file.1 regular held.there held.file found (held.places_are index this_low) in
          let again : slice_get (stream_blocks (face sp (newest_map b st)) id) (p / size) ≡ Some (slice_index places index) = ap (λ (i : ℕ). slice_get (stream_blocks (face sp (newest_map b st)) i) (p / size)) (sym same) ∙ found in
          let block : p / size ≡ at / size + index = same_place (face sp (newest_map b st)) (after t0 sp.history) core.space.sound.nodes.once id held.node (p / size) (at / size + index) (slice_index places index) held.there held.file again (held.places_are index this_low) in
          let place = at_place p block above in
          let none : get (state_after t0 sp.history).known (id, at + (done + (p % size - from))) ≡ None = unknown (done + (p % size - from)) (omega (arith, inside, above, fits)) in
          let some : get (state_after t0 sp.history).known (id, at + (done + (p % size - from))) ≡ Some byte = ap (λ (i : ℕ). get (state_after t0 sp.history).known (id, i)) place ∙ ap (λ (i : ℕ). get (state_after t0 sp.history).known (i, p)) (sym same) ∙ is in
          let bad : Some byte ≡ None = sym some ∙ none in
          absurd (cc)

  -- the blocks before this one are others
  before_other : (k : ℕ) → k < done → slice_index places ((skip + k) / size) ≢ slice_index places index
  before_other k lt same =
      let some : 0 < size = (let i = so.inside in omega (arith, i)) in
      let begun : from ≡ 0 = ⊎_elim (λ none. absurd (omega (arith, none, lt))) (λ e. e) so.begun in
      let e = so.place left in
      let low : (skip + k) / size < index = (div-lt_iff_lt-mul {k = size} {x = skip + k} {y = index} some).1 (let m : index * size ≡ size * index = mul_comm index size in let h : skip + k < index * size = omega (arith, e, begun, lt, m) in h) in
      let there = held.places_are ((skip + k) / size) (omega (arith, low, this_low)) in
      let here = held.places_are index this_low in
      let one : at / size + (skip + k) / size ≡ at / size + index =
      same_place (face sp (newest_map b st)) (after t0 sp.history) core.space.sound.nodes.once id held.node (at / size + (skip + k) / size) (at / size + index) (slice_index places index) held.there held.file (there ∙ ap (λ (i : ℕ). Some i) same) here in
      omega (arith, one, low)

  -- so what was written of the piece stays
  pub piece_still : (old next : ℕ → List ℕ) (bytes : List ℕ) → length bytes ≡ done → ((k : ℕ) → k ≢ slice_index places index → next k ≡ old k) → IsPieceOf old size places skip bytes → IsPieceOf next size places skip bytes
  piece_still old next bytes long same piece k lt =
      ap (λ (xs : List ℕ). slice_get xs ((skip + k) % size)) (same (slice_index places ((skip + k) / size)) (before_other k (omega (arith, long, lt)))) ∙ piece k lt

  -- and the file has its blocks still
  pub held_still : (m : ℕ → Option (List ℕ)) → ((k : ℕ) → k ≢ slice_index places index → m k ≡ newest_map b st k) → IsHeldPiece t0 sp m id at count skip places
  held_still m same =
      let stream : stream_blocks (face sp m) id ≡ stream_blocks (face sp (newest_map b st)) id =
      stream_stays (face sp (newest_map b st)) (face_over sp.group m) (after t0 sp.history) core.space.sound
      (λ k meta fixed. ap (λ (o : Option (List ℕ)). unwrap_or (or_else (newest sp.group k) o) []) (same k (λ e. file_here.1 (subst (IsFaceMetadata t0 sp (newest_map b st)) e meta)))) id held.node held.there held.file in
      record {
        node = held.node;
        there = held.there;
        file = held.file;
        within = held.within;
        places_are = λ i lt. ap (λ (xs : List ℕ). slice_get xs (at / size + i)) stream ∙ held.places_are i lt;
        skip_is = held.skip_is;
        covers = held.covers;
      }
