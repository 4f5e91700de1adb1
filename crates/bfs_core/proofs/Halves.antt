-- A write of a block of which each sector is old or new.
use Rattle.std.proofs.Common.{◌≡◌, ◌⊎◌, inl, inr, ⊎_elim, ◌<◌, ◌≤◌, ◌+◌, ◌-◌, ◌*◌, ◌/◌, ◌%◌, ℕ, zero, suc, List, [], ◌∷◌, length, take, drop, get_or, Bool, true, false, cond, Some, refl, sym, ◌∙◌, ap, subst, arith, length-drop}
use Rattle.std.specs.Prelude.{IsTrue, slice_get}
use Rattle.std.proofs.Math.Nat.{div-add-mod, mod-lt}
use Rattle.std.proofs.lemmas.List.{length-take-le}
use Rattle.std.proofs.lemmas.Option.{slice_get_within}
use Rattle.bfs_base.specs.Images.{joined, sector}
use Rattle.bfs_base.proofs.Sectors.{sector-joined}
use Rattle.bfs_disk.specs.State.{State, Filled, IsHalfWritten, names, newest, written}
use Rattle.bfs_disk.specs.StateLaws.{newest_long}
use Rattle.bfs_disk.specs.Blocks.{contents_of}
use Rattle.bfs_tree.specs.Histories.{Mounted}
use Rattle.bfs_device.specs.Layouts.{layout_of, IsData}
use Rattle.bfs_device.specs.Books.{Books, IsOnDisk}
use Rattle.bfs_device.proofs.Sizes.{fits_sectors}
use Rattle.bfs_core.specs.Spaces.{SpaceView, IsFaceData}
use Rattle.bfs_core.specs.Cores.{Core, newest_map}
use Rattle.bfs_core.specs.KnownBytes.{HasKnown, HasKnownIn}
use Rattle.bfs_core.proofs.Pieces.{piece_is_data}

get_drop : (m i : ℕ) (xs : List ℕ) → slice_get (drop m xs) i ≡ slice_get xs (m + i)
get_drop zero i xs = ap (slice_get xs) (let e : i ≡ 0 + i = omega arith in e)
get_drop (suc m) i [] = refl
get_drop (suc m) i (x ∷ xs) = get_drop m i xs ∙ ap (slice_get (x ∷ xs)) (let e : suc (m + i) ≡ suc m + i = omega arith in e)

get_take : (n i : ℕ) (xs : List ℕ) → i < n → slice_get (take n xs) i ≡ slice_get xs i
get_take zero i xs lt = absurd (omega (arith, lt))
get_take (suc n) i [] lt = refl
get_take (suc n) zero (x ∷ xs) lt = refl
get_take (suc n) (suc i) (x ∷ xs) lt = get_take n i xs (omega (arith, lt))

-- a byte stands in its sector
pub get_sector : (xs : List ℕ) (at : ℕ) → slice_get xs at ≡ slice_get (sector (at / 512) xs) (at % 512)
get_sector xs at =
    let small : at % 512 < 512 = mod-lt at (let some : 0 < 512 = omega arith in some) in
    sym (get_take 512 (at % 512) (drop (512 * (at / 512)) xs) small ∙ get_drop (512 * (at / 512)) (at % 512) xs ∙ ap (slice_get xs) (div-add-mod at 512))

pub get_joined : (r : ℕ) (f : ℕ → List ℕ) (at : ℕ) → ((j : ℕ) → j < r → length (f j) ≡ 512) → at / 512 < r → slice_get (joined r f) at ≡ slice_get (f (at / 512)) (at % 512)
get_joined r f at long inside = get_sector (joined r f) at ∙ ap (λ (xs : List ℕ). slice_get xs (at % 512)) (sector-joined r f (at / 512) long inside)

module _ (st next : State) (r block : ℕ) (bytes : List ℕ) (filled : Filled st) (fits : r * block + r ≤ st.size) (long : length bytes ≡ 512 * r) (half : IsHalfWritten st (r * block) bytes next) where
  old_long : (j : ℕ) → j < r → length (newest st (r * block + j)) ≡ 512
  old_long j lt = newest_long st (r * block + j) filled (omega (arith, lt, fits))

  sector_long : (j : ℕ) → j < r → length (sector j bytes) ≡ 512
  sector_long j lt = length-take-le 512 (drop (512 * j) bytes) (omega (arith, lt, long, length-drop (512 * j) bytes))

  -- each sector reads as before, or as written
  each : (j : ℕ) → (newest next (r * block + j) ≡ newest st (r * block + j)) ⊎ (newest next (r * block + j) ≡ sector j bytes)
  each j = ⊎_elim
      (λ same. inl (ap (λ (cs : List (List ℕ)). get_or cs 0 []) same))
      (λ new. inr (ap (λ (cs : List (List ℕ)). get_or cs 0 []) new.1 ∙ ap (λ (k : ℕ). sector k bytes) (let e : r * block + j - r * block ≡ j = omega arith in e)))
      (half.each (r * block + j))

  new_long : (j : ℕ) → j < r → length (newest next (r * block + j)) ≡ 512
  new_long j lt = ⊎_elim (λ same. ap length same ∙ old_long j lt) (λ new. ap length new ∙ sector_long j lt) (each j)

  pub half_byte : (at byte : ℕ) → slice_get (contents_of st r block) at ≡ Some byte → slice_get bytes at ≡ Some byte → slice_get (contents_of next r block) at ≡ Some byte
  half_byte at byte was is =
      let lt : at < length bytes = slice_get_within bytes at byte is in
      let e : 512 * (at / 512) + at % 512 ≡ at = div-add-mod at 512 in
      let inside : at / 512 < r = omega (arith, lt, long, e) in
      get_joined r (λ j. newest next (r * block + j)) at new_long inside
      ∙ ⊎_elim
      (λ same. ap (λ (xs : List ℕ). slice_get xs (at % 512)) same ∙ sym (get_joined r (λ j. newest st (r * block + j)) at old_long inside) ∙ was)
      (λ new. ap (λ (xs : List ℕ). slice_get xs (at % 512)) new ∙ sym (get_sector bytes at) ∙ is)
      (each (at / 512))

-- a write that succeeded is one of which each sector is new
pub written_half : (st : State) (at : ℕ) (bytes : List ℕ) → IsHalfWritten st at bytes (written st at bytes)
written_half st at bytes = record { size = refl; each = λ k. by_test k (names at bytes k) refl }
  where
    by_test : (k : ℕ) (d : Bool) → names at bytes k ≡ d → (cond d (sector (k - at) bytes ∷ st.contents k) (st.contents k) ≡ st.contents k) ⊎ (IsTrue (names at bytes k) × (cond d (sector (k - at) bytes ∷ st.contents k) (st.contents k) ≡ sector (k - at) bytes ∷ st.contents k))
    by_test k true is = inr (is, refl)
    by_test k false is = inl refl

pub known_half : (t0 : Mounted) (sp : SpaceView) (b : Books) (t : ℕ → Bool) (st next : State) (block : ℕ) (bytes : List ℕ) → Core t0 sp b t st → IsFaceData t0 sp (newest_map b st) block → Filled st → IsOnDisk (Some st.size) b.sup
    → length bytes ≡ 512 * (layout_of b.sup).sectors → IsHalfWritten st ((layout_of b.sup).sectors * block) bytes next → HasKnown t0 sp b st → HasKnownIn t0 sp (newest_map b st) block bytes
    → HasKnownIn t0 sp (newest_map b st) block (contents_of next (layout_of b.sup).sectors block)
known_half t0 sp b t st next block bytes core file filled on long half known in_block id place byte is found =
    let has = known id place byte is in
    let d : IsData (layout_of b.sup) block = piece_is_data t0 sp b t st core block file in
    let fits : (layout_of b.sup).sectors * block + (layout_of b.sup).sectors ≤ st.size = (let f = fits_sectors b.sup core.steady.valid block d.1 in omega (arith, f, on)) in
    let same : has.block ≡ block = (let e : Some has.block ≡ Some block = sym has.is ∙ found in cc) in
    half_byte st next (layout_of b.sup).sectors block bytes filled fits long half (place % sp.sup.block_size) byte
    (subst (λ (k : ℕ). slice_get (contents_of st (layout_of b.sup).sectors k) (place % sp.sup.block_size) ≡ Some byte) same has.byte_is)
    (in_block id place byte is found)
