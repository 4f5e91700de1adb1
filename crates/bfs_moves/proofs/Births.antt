-- A loose block was written.
use Rattle.std.proofs.Common.{◌≡◌, ◌≢◌, ◌≤◌, ◌<◌, ◌+◌, ◌-◌, ◌*◌, ◌⊎◌, inl, inr, ℕ, zero, suc, List, [], ◌∷◌, ◌++◌, refl, sym, ap, subst, arith, Bool, true, cond, Option, Some}
use Rattle.std.specs.Prelude.{unwrap_or}
use Rattle.bfs_base.specs.Lists.{times, Has, ChangesAt}
use Rattle.bfs_super.specs.Conditions.{IsValid}
use Rattle.bfs_super.specs.Geometry.{geometry_of}
use Rattle.bfs_super.specs.declared.geometry.Geometry.{Geometry}
use Rattle.bfs_super.specs.declared.sup.Super.{Super}
use Rattle.bfs_bitmap.specs.Fills.{IsBitmapBlock}
use Rattle.bfs_bitmap.specs.Runs.{Room, marked, per_block}
use Rattle.bfs_txn.specs.Told.{with_block}
use Rattle.bfs_stream.specs.Told.{contents}
use Rattle.bfs_stream.proofs.Doubles.{times-append}
use Rattle.bfs_stream.proofs.Finish.{counted_same, fits_same, marked_same}
use Rattle.bfs_tree.specs.Trees.{Tree}
use Rattle.bfs_sound.specs.Volumes.{Volume, bitmap_blocks, IsMarked}
use Rattle.bfs_sound.specs.Owners.{fixed_blocks, reach}
use Rattle.bfs_shift.specs.Lists.{Lists}
use Rattle.bfs_shift.specs.Stocked.{Shifts}
use Rattle.bfs_shift.specs.Shifts.{volume_in}
use Rattle.bfs_shift.proofs.Bits.{writes_shift}
use Rattle.bfs_shift.proofs.Bridge.{outside_bitmap}
use Rattle.bfs_shift.proofs.Following.{same_or_not}
use Rattle.bfs_shift.proofs.Moving.{all_parts}
use Rattle.bfs_shift.proofs.Renewed.{same_test, other_test}
use Rattle.bfs_txn.specs.Told.{StaysChanged}
use Rattle.bfs_shift.specs.Work.{IsAtWork, GoesOn}
use Rattle.bfs_shift.proofs.Basics.{some_bytes}
use Rattle.bfs_moves.proofs.Loosened.{loose_work, loose_goes}
use Rattle.bfs_shift.proofs.AtWork.{not_one, just_one, not_there, zero_fixed}

once_one : (k b : ℕ) → times k (b ∷ []) ≤ 1
once_one k b = by_id (same_or_not k b)
  where
    by_id : (k ≡ b) ⊎ (k ≢ b) → times k (b ∷ []) ≤ 1
    by_id (inr apart) = let none = not_one k b apart in omega (arith, none)
    by_id (inl e) = subst (λ (j : ℕ). times j (b ∷ []) ≤ 1) (sym e) (let one = just_one b in omega (arith, one))

pub only_one : (k b : ℕ) → Has (b ∷ []) k → k ≡ b
only_one k b h = by_id (same_or_not k b)
  where
    by_id : (k ≡ b) ⊎ (k ≢ b) → k ≡ b
    by_id (inl e) = e
    by_id (inr apart) = let some : 0 < times k (b ∷ []) = h in let none = not_one k b apart in absurd (omega (arith, some, none))

module _ (s : Super) (v : Room) (m : ℕ → Option (List ℕ)) (tree : Tree) (lists : Lists) (rest : List ℕ) (b : ℕ) (bytes : List ℕ) (valid : IsValid s) (work : IsAtWork (geometry_of s) v m tree lists (b ∷ rest)) where
  abbrev g : Geometry
  g = geometry_of s

  abbrev was : Volume
  was = volume_in g m

  abbrev map : ℕ → Option (List ℕ)
  map = with_block b bytes m

  some : 0 < s.block_size
  some = some_bytes s valid

  pub set_here : map b ≡ Some bytes
  set_here = ap (λ (t : Bool). cond t (Some bytes) (m b)) (same_test b)

  pub bytes_here : contents map b ≡ bytes
  bytes_here = ap (λ (o : Option (List ℕ)). unwrap_or o []) set_here

  elsewhere : (k : ℕ) → k ≢ b → map k ≡ m k
  elsewhere k apart = ap (λ (t : Bool). cond t (Some bytes) (m k)) (other_test k b apart)

  changes : ChangesAt was.blocks (contents map) (b ∷ [])
  changes k none = ap (λ (o : Option (List ℕ)). unwrap_or o []) (elsewhere k (not_there k b none))

  -- where the block stands among all
  place : (k : ℕ) → times k (fixed_blocks was) + (times k (bitmap_blocks g) + times k (b ∷ [])) ≤ times k (reach was tree ++ (b ∷ rest))
  place k = let p = all_parts was tree lists (b ∷ rest) work.stocked k in let a : times k (b ∷ rest) ≡ times k (b ∷ []) + times k rest = times-append k (b ∷ []) rest in omega (arith, p, a)

  apart_of_all : (times b (fixed_blocks was) ≡ 0) × (times b (bitmap_blocks g) ≡ 0)
  apart_of_all = let p = place b in let one = just_one b in let most : times b (reach was tree ++ (b ∷ rest)) ≤ 1 = work.stocked.once b in (omega (arith, p, one, most), omega (arith, p, one, most))

  not_zero : 1 ≤ b
  not_zero = by_place b apart_of_all.0
    where
      by_place : (x : ℕ) → times x (fixed_blocks was) ≡ 0 → 1 ≤ x
      by_place (suc x) none = omega arith
      by_place zero none = absurd (let z : 0 < times 0 (fixed_blocks was) = zero_fixed _ in omega (arith, z, none))

  are : (k : ℕ) → Has (b ∷ []) k → IsMarked was k × (times k (bitmap_blocks g) ≡ 0)
  are k h =
      let has : 0 < times k (b ∷ []) = h in
      let p = place k in
      let most : times k (reach was tree ++ (b ∷ rest)) ≤ 1 = work.stocked.once k in
      ((work.stocked.marks k).1 (let r : 0 < times k (reach was tree ++ (b ∷ rest)) = omega (arith, has, p) in r), omega (arith, has, p, most))

  shift : Shifts was (contents map) (b ∷ []) (b ∷ [])
  shift = writes_shift was (contents map) (b ∷ []) some changes (λ k. once_one k b) are

  stays : (k : ℕ) → per_block v * (k - 1) < v.blocks → map k ≡ m k
  stays k low = elsewhere k (λ e.
      let out : v.blocks ≤ per_block v * (b - 1) = outside_bitmap g v b work.volume some not_zero apart_of_all.1 in
      let at : per_block v * (b - 1) < v.blocks = subst (λ (j : ℕ). per_block v * (j - 1) < v.blocks) e low in
      omega (arith, out, at))

  same_bits : (k : ℕ) → k < v.blocks → marked (per_block v) map k ≡ marked (per_block v) m k
  same_bits k low = marked_same v m map stays k low

  module _ (old new : ℕ → Bool) (changed : (k : ℕ) → new k ≡ true → (old k ≡ true) ⊎ (k ≡ b)) (kept_changed : StaysChanged old new) where
    by_cause : (k : ℕ) → (old k ≡ true) ⊎ (k ≡ b) → (old k ≡ true) ⊎ (IsBitmapBlock v k ⊎ Has (b ∷ []) k)
    by_cause k (inl e) = inl e
    by_cause k (inr e) = inr (inr (subst (λ (j : ℕ). Has (b ∷ []) j) (sym e) (let one = just_one b in let h : 0 < times b (b ∷ []) = omega (arith, one) in h)))

    pub written_work : IsAtWork g v map tree lists (b ∷ rest)
    written_work =
        loose_work g v v m map tree lists (b ∷ []) (b ∷ []) rest old new some work shift refl (fits_same v m map stays work.fits) (counted_same v m map same_bits work.counted)
        (λ k none. inl (elsewhere k (not_there k b none))) (λ k h. h) (λ k h. by_cause k (changed k h)) kept_changed (λ k h none. let has : 0 < times k (b ∷ []) = h in absurd (omega (arith, has, none)))

    pub written_goes : GoesOn g v v m map tree tree old new
    written_goes =
        loose_goes g v v m map tree lists (b ∷ []) (b ∷ []) rest old new some work shift refl (fits_same v m map stays work.fits) (counted_same v m map same_bits work.counted)
        (λ k none. inl (elsewhere k (not_there k b none))) (λ k h. h) (λ k h. by_cause k (changed k h)) kept_changed (λ k h none. let has : 0 < times k (b ∷ []) = h in absurd (omega (arith, has, none)))
