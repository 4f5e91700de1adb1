-- Homes written over an image.
use Rattle.std.proofs.Common.{◌≡◌, ⊎_elim, ℕ, ◌+◌, ◌-◌, ◌*◌, ◌/◌, ◌%◌, ◌<◌, ◌≤◌, ◌==◌, List, [], ◌∷◌, length, drop, refl, sym, ◌∙◌, ap, subst, arith, length-drop, min}
use Rattle.std.specs.Prelude.{All, if◌then◌else◌}
use Rattle.std.proofs.lemmas.Bool.{cases_eq, cases_order, cond-true, cond-false, eq-eqb, ne_eqb}
use Rattle.std.proofs.lemmas.List.{length-take-le, length-take}
use Rattle.std.proofs.lemmas.List.Elements.{All-head, All-tail}
use Rattle.std.proofs.Math.Nat.{mul-le-mul_left, mod-lt, div-add-mod}
use Rattle.bfs_base.specs.Images.{sector, block, overwritten}
use Rattle.bfs_base.specs.Lists.{times}
use Rattle.bfs_base.proofs.Sectors.{sector_before, sector_inside, sector_after, length-pasted, sector_part, same_sectors}
use Rattle.bfs_log.specs.Replay.{Home, home_places, with_homes, put, over, AgreeBut}

-- places of blocks of r sectors
pub place_below : (r k p j : ℕ) → k < p → j < r → r * k + j < r * p
place_below r k p j low inside = let m : r * (k + 1) ≤ r * p = mul-le-mul_left r (omega arith) in omega (arith, m)

pub place_above : (r k p : ℕ) → p < k → r * p + r ≤ r * k
place_above r k p high = let m : r * (p + 1) ≤ r * k = mul-le-mul_left r (omega arith) in omega (arith, m)

-- a home of r sectors inside an image of so many bytes
pub record IsInside (r size : ℕ) (home : Home) : Type 0 where
  pub long : length home.bytes ≡ 512 * r
  pub fits : 512 * (r * home.place) + 512 * r ≤ size

module _ (r : ℕ) (home : Home) (image : List ℕ) (good : IsInside r (length image) home) where
  abbrev pub with_home : List ℕ
  with_home = overwritten (r * home.place) home.bytes image

  fits_all : 512 * (r * home.place) + length home.bytes ≤ length image
  fits_all = omega (arith, good.long, good.fits)

  pub length-with_home : length with_home ≡ length image
  length-with_home = length-pasted (r * home.place) r home.bytes image fits_all good.long

  -- a sector of the home
  pub sector_here : (j : ℕ) → j < r → sector (r * home.place + j) with_home ≡ sector j home.bytes
  sector_here j low =
      sector_inside (r * home.place) r home.bytes image fits_all good.long (r * home.place + j) (omega arith) (omega arith)
      ∙ (let back : r * home.place + j - r * home.place ≡ j = omega arith in ap (λ (i : ℕ). sector i home.bytes) back)

  -- a sector of another block
  pub sector_there : (k j : ℕ) → j < r → (k ≡ home.place → ⊥) → sector (r * k + j) with_home ≡ sector (r * k + j) image
  sector_there k j low other =
      ⊎_elim (λ same. absurd (other same))
      (λ order. ⊎_elim
      (λ before. sector_before (r * home.place) r home.bytes image fits_all good.long (r * k + j) (place_below r k home.place j before low))
      (λ behind. sector_after (r * home.place) r home.bytes image fits_all good.long (r * k + j) (omega (arith, place_above r k home.place behind)))
      order)
      (cases_order k home.place)

-- sectors of a block
sector_of_block : (r k j : ℕ) (image : List ℕ) → j < r → sector j (block r k image) ≡ sector (r * k + j) image
sector_of_block r k j image low = sector_part (r * k) j (512 * r) image (omega arith)

-- blocks with the same sectors are the same
pub same_block : (r k : ℕ) (a b : List ℕ) → length b ≡ length a → ((j : ℕ) → j < r → sector (r * k + j) b ≡ sector (r * k + j) a) → block r k b ≡ block r k a
same_block r k a b size same =
    let long : (c : List ℕ) → length (block r k c) ≡ min (512 * r) (length c - 512 * (r * k)) =
    λ c. length-take (512 * r) (drop (512 * (r * k)) c) ∙ ap (min (512 * r)) (length-drop (512 * (r * k)) c) in
    same_sectors r (block r k b) (block r k a) (omega (arith, long a, long b, size)) (omega (arith, long b))
    (λ j low. sector_of_block r k j b low ∙ same j low ∙ sym (sector_of_block r k j a low))

-- a block that a home was written to
pub block_here : (r : ℕ) (home : Home) (image : List ℕ) → IsInside r (length image) home → block r home.place (overwritten (r * home.place) home.bytes image) ≡ home.bytes
block_here r home image good =
    let size = length-with_home r home image good in
    let long : length (block r home.place (overwritten (r * home.place) home.bytes image)) ≡ 512 * r =
    length-take-le (512 * r) (drop (512 * (r * home.place)) (overwritten (r * home.place) home.bytes image)) (omega (arith, size, good.fits, length-drop (512 * (r * home.place)) (overwritten (r * home.place) home.bytes image))) in
    same_sectors r (block r home.place (overwritten (r * home.place) home.bytes image)) home.bytes (long ∙ sym good.long) (omega (arith, long))
    (λ j low. sector_of_block r home.place j (overwritten (r * home.place) home.bytes image) low ∙ sector_here r home image good j low)

-- homes written in order, block by block
put_step : (r : ℕ) (home : Home) (image : List ℕ) → IsInside r (length image) home → (k : ℕ) → block r k (overwritten (r * home.place) home.bytes image) ≡ put home (λ b. block r b image) k
put_step r home image good k =
    ⊎_elim
    (λ here. ap (λ (b : ℕ). block r b (overwritten (r * home.place) home.bytes image)) here ∙ block_here r home image good ∙ sym (cond-true (k == home.place) home.bytes (block r k image) (eq-eqb k home.place here)))
    (λ other. same_block r k image (overwritten (r * home.place) home.bytes image) (length-with_home r home image good) (λ j low. sector_there r home image good k j low other)
    ∙ sym (cond-false (k == home.place) home.bytes (block r k image) (ne_eqb k home.place other)))
    (cases_eq k home.place)

put_same : (home : Home) (f g : ℕ → List ℕ) (k : ℕ) → f k ≡ g k → put home f k ≡ put home g k
put_same home f g k same = ap (λ (l : List ℕ). if k == home.place then home.bytes else l) same

pub over_same : (homes : List Home) (f g : ℕ → List ℕ) (k : ℕ) → f k ≡ g k → over homes f k ≡ over homes g k
over_same [] f g k same = same
over_same (home ∷ homes) f g k same = over_same homes (put home f) (put home g) k (put_same home f g k same)

pub inside_again : (r : ℕ) (homes : List Home) (home : Home) (image : List ℕ) → IsInside r (length image) home → All (IsInside r (length image)) homes → All (IsInside r (length (overwritten (r * home.place) home.bytes image))) homes
inside_again r homes home image good all = subst (λ (n : ℕ). All (IsInside r n) homes) (sym (length-with_home r home image good)) all

pub length-with_homes : (r : ℕ) (homes : List Home) (image : List ℕ) → All (IsInside r (length image)) homes → length (with_homes r homes image) ≡ length image
length-with_homes r [] image all = refl
length-with_homes r (home ∷ homes) image all =
    let good = All-head (IsInside r (length image)) home homes all in
    length-with_homes r homes (overwritten (r * home.place) home.bytes image) (inside_again r homes home image good (All-tail (IsInside r (length image)) home homes all))
    ∙ length-with_home r home image good

pub block-with_homes : (r : ℕ) (homes : List Home) (image : List ℕ) → All (IsInside r (length image)) homes → (k : ℕ) → block r k (with_homes r homes image) ≡ over homes (λ b. block r b image) k
block-with_homes r [] image all k = refl
block-with_homes r (home ∷ homes) image all k =
    let good = All-head (IsInside r (length image)) home homes all in
    block-with_homes r homes (overwritten (r * home.place) home.bytes image) (inside_again r homes home image good (All-tail (IsInside r (length image)) home homes all)) k
    ∙ over_same homes (λ b. block r b (overwritten (r * home.place) home.bytes image)) (put home (λ b. block r b image)) k (put_step r home image good k)

-- images that agree but for some blocks agree wholly once these are written
all_agree : (r : ℕ) (a b : List ℕ) → 0 < r → AgreeBut r [] a b → b ≡ a
all_agree r a b some agree =
    same_sectors (length a) b a agree.size (omega (arith, agree.size))
    (λ k low. let at : r * (k / r) + k % r ≡ k = div-add-mod k r in
    subst (λ (i : ℕ). sector i b ≡ sector i a) at (agree.each (k / r) (k % r) (mod-lt k some) refl))

agree_on : (r : ℕ) (home : Home) (homes : List Home) (a b : List ℕ) → IsInside r (length a) home → AgreeBut r (home ∷ homes) a b
    → AgreeBut r homes (overwritten (r * home.place) home.bytes a) (overwritten (r * home.place) home.bytes b)
agree_on r home homes a b good agree =
    let good_b : IsInside r (length b) home = subst (λ (n : ℕ). IsInside r n home) (sym agree.size) good in
    record {
      size = length-with_home r home b good_b ∙ agree.size ∙ sym (length-with_home r home a good);
      each = λ k j low none. ⊎_elim
          (λ here. subst (λ (i : ℕ). sector (r * i + j) (overwritten (r * home.place) home.bytes b) ≡ sector (r * i + j) (overwritten (r * home.place) home.bytes a)) (sym here)
          (sector_here r home b good_b j low ∙ sym (sector_here r home a good j low)))
          (λ other.
          let first : ◌≡◌ {A = ℕ} (if home.place == k then 1 else 0) 0 = cond-false {A = ℕ} (home.place == k) 1 0 (ne_eqb home.place k (λ e. other (sym e))) in
          sector_there r home b good_b k j low other ∙ agree.each k j low (omega (arith, first, none)) ∙ sym (sector_there r home a good k j low other))
          (cases_eq k home.place);
    }

pub with_same : (r : ℕ) (homes : List Home) (a b : List ℕ) → 0 < r → All (IsInside r (length a)) homes → AgreeBut r homes a b → with_homes r homes b ≡ with_homes r homes a
with_same r [] a b some all agree = all_agree r a b some agree
with_same r (home ∷ homes) a b some all agree =
    let good = All-head (IsInside r (length a)) home homes all in
    with_same r homes (overwritten (r * home.place) home.bytes a) (overwritten (r * home.place) home.bytes b) some
    (inside_again r homes home a good (All-tail (IsInside r (length a)) home homes all)) (agree_on r home homes a b good agree)

-- a sector of a block that is no home
pub sector-with_homes : (r : ℕ) (homes : List Home) (image : List ℕ) → All (IsInside r (length image)) homes → (k j : ℕ) → j < r → times k (home_places homes) ≡ 0
    → sector (r * k + j) (with_homes r homes image) ≡ sector (r * k + j) image
sector-with_homes r [] image all k j low none = refl
sector-with_homes r (home ∷ homes) image all k j low none =
    let good = All-head (IsInside r (length image)) home homes all in
    let other : k ≡ home.place → ⊥ = λ here. let first : ◌≡◌ {A = ℕ} (if home.place == k then 1 else 0) 1 = cond-true {A = ℕ} (home.place == k) 1 0 (eq-eqb home.place k (sym here)) in omega (arith, first, none) in
    sector-with_homes r homes (overwritten (r * home.place) home.bytes image) (inside_again r homes home image good (All-tail (IsInside r (length image)) home homes all)) k j low (omega (arith, none))
    ∙ sector_there r home image good k j low other
