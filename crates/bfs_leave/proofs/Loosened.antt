-- Inodes whose blocks are loose, of which the first is given back: the others are loose still.
use Rattle.std.proofs.Common.{◌≡◌, ◌≤◌, ◌<◌, ◌+◌, ◌⊎◌, inl, inr, ℕ, List, [], ◌∷◌, ◌++◌, refl, sym, ap, ◌∙◌, subst, arith, Bool, Option}
use Rattle.std.specs.Prelude.{IsSome}
use Rattle.std.specs.List.{flat_map}
use Rattle.bfs_base.specs.Lists.{times, Has, Agree}
use Rattle.bfs_super.specs.declared.geometry.Geometry.{Geometry}
use Rattle.bfs_bitmap.specs.Runs.{Room, Fits, HasBitmap}
use Rattle.bfs_stream.specs.Grown.{IsOfVolume, Owns}
use Rattle.bfs_stream.specs.Sizes.{Origin}
use Rattle.bfs_stream.specs.Told.{contents}
use Rattle.bfs_stream.proofs.Doubles.{times-append}
use Rattle.bfs_sound.specs.Volumes.{Volume, sizes}
use Rattle.bfs_sound.specs.Inodes.{frame_blocks, stream_blocks, inode_blocks}
use Rattle.bfs_sound.specs.Owners.{reach, In}
use Rattle.bfs_sound.proofs.Counts.{agree_member, flat_same}
use Rattle.bfs_sound.proofs.Streams.{frame_of_whole, frame_stays, blocks_stay, stream_stays}
use Rattle.bfs_shift.specs.Stocked.{Stocked, Shifts}
use Rattle.bfs_shift.specs.Shifts.{volume_in}
use Rattle.bfs_shift.proofs.Basics.{or_told}
use Rattle.bfs_shift.proofs.Frees.{in_order}
use Rattle.bfs_shift.proofs.Loose.{loose_changed}
use Rattle.bfs_shift.proofs.Moving.{all_parts, part_stays}
use Rattle.bfs_shift.proofs.Owning.{loose_owns}
use Rattle.bfs_make.proofs.Emptying.{full, fits_full, owns_told}
use Rattle.bfs_leave.specs.Given.{AreGivenBack, AreLoose}
use Rattle.bfs_leave.proofs.Returned.{given_shift}

-- the inodes and array blocks are among all blocks
frames_few : (v : Volume) (ids : List ℕ) (k : ℕ) → times k (flat_map (frame_blocks v) ids) ≤ times k (flat_map (inode_blocks v) ids)
frames_few v [] k = omega arith
frames_few v (id ∷ ids) k =
    let rest = frames_few v ids k in
    let a = times-append k (frame_blocks v id) (flat_map (frame_blocks v) ids) in
    let b = times-append k (inode_blocks v id) (flat_map (inode_blocks v) ids) in
    let c : times k (inode_blocks v id) ≡ times k (frame_blocks v id) + times k (stream_blocks v id) = times-append k (frame_blocks v id) (stream_blocks v id) in
    omega (arith, rest, a, b, c)

module _ (g : Geometry) (v : Room) (m : ℕ → Option (List ℕ)) (id : ℕ) (ids : List ℕ) (some : 0 < g.block_size) (volume : IsOfVolume (sizes g) v) (loose : AreLoose g m (id ∷ ids)) where
  abbrev was : Volume
  was = volume_in g m

  abbrev o : Origin
  o = record { id = id; sizes = sizes g }

  abbrev xs : List ℕ
  xs = inode_blocks was id

  abbrev ys : List ℕ
  ys = flat_map (inode_blocks was) ids

  stocked : Stocked was loose.tree loose.lists (xs ++ (ys ++ loose.rest))
  stocked = in_order was loose.tree loose.lists ((xs ++ ys) ++ loose.rest) (xs ++ (ys ++ loose.rest)) (λ k.
      let a = times-append k (xs ++ ys) loose.rest in
      let b = times-append k xs ys in
      let c = times-append k xs (ys ++ loose.rest) in
      let d = times-append k ys loose.rest in
      omega (arith, a, b, c, d)) loose.stocked

  -- the stream of the first owns its blocks
  pub first_owns : Fits v m → Owns o v [] m
  first_owns fits = owns_told o v m
      (loose_owns g v (full m) loose.tree loose.lists xs (ys ++ loose.rest) id volume some (fits_full v m fits) stocked (λ k. refl) (loose.streams id (inl refl)) (λ k h. refl))
      (λ k h. loose.told k (
      let has : 0 < times k (frame_blocks was id) = h in
      let a = times-append k (frame_blocks was id) (flat_map (frame_blocks was) ids) in
      let r : 0 < times k (frame_blocks was id ++ flat_map (frame_blocks was) ids) = omega (arith, has, a) in r))
      fits.has

  module _ (now : Room) (told : Option (ℕ → Option (List ℕ))) (old new : ℕ → Bool) (rest : now ≡ record v { given = now.given; tally = now.tally }) (gave : AreGivenBack v now (inode_blocks (volume_in g m) id) m told old new) where
    abbrev map : ℕ → Option (List ℕ)
    map = gave.map

    abbrev is_now : Volume
    is_now = volume_in g map

    shift : Shifts was (contents map) xs []
    shift = given_shift g v now m xs told old new some volume gave

    agree : Agree was.blocks (contents map) ys
    agree = part_stays was loose.tree loose.lists (xs ++ (ys ++ loose.rest)) stocked (contents map) xs [] shift ys (λ k.
        let p = all_parts was loose.tree loose.lists (xs ++ (ys ++ loose.rest)) stocked k in
        let c = times-append k xs (ys ++ loose.rest) in
        let d = times-append k ys loose.rest in
        omega (arith, p, c, d))

    each : (j : ℕ) → In j ids → Agree was.blocks (contents map) (frame_blocks was j)
    each j i = frame_of_whole was (contents map) g.used j (agree_member was.blocks (contents map) (inode_blocks was) ids j i agree)

    pub others_same : flat_map (inode_blocks is_now) ids ≡ flat_map (inode_blocks was) ids
    others_same = flat_same was.blocks (contents map) (inode_blocks was) (inode_blocks is_now) ids (λ j i a. blocks_stay was (contents map) g.used j (each j i)) agree

    frames_same : flat_map (frame_blocks is_now) ids ≡ flat_map (frame_blocks was) ids
    frames_same = flat_same was.blocks (contents map) (frame_blocks was) (frame_blocks is_now) ids (λ j i a. frame_stays was (contents map) g.used j a)
        (λ k h. agree k (let has : 0 < times k (flat_map (frame_blocks was) ids) = h in let f = frames_few was ids k in let r : 0 < times k ys = omega (arith, has, f) in r))

    bitmap_now : HasBitmap v map
    bitmap_now = let h : HasBitmap (record v { given = now.given; tally = now.tally }) map = subst (λ (x : Room). HasBitmap x map) rest gave.fits.has in record { told = h.told }

    told_still : (k : ℕ) → Has (flat_map (frame_blocks was) ids) k → IsSome (map k)
    told_still k h = by_stay (or_told v m map k bitmap_now (λ out. gave.others k out none) (λ at. ap map at ∙ gave.first (subst (λ (j : ℕ). times j xs ≡ 0) at none) ∙ sym (ap m at)))
      where
        has : 0 < times k (flat_map (frame_blocks was) ids)
        has = h

        none : times k xs ≡ 0
        none =
            let f = frames_few was ids k in
            let o : times k (reach was loose.tree ++ (xs ++ (ys ++ loose.rest))) ≤ 1 = stocked.once k in
            let a = times-append k (reach was loose.tree) (xs ++ (ys ++ loose.rest)) in
            let c = times-append k xs (ys ++ loose.rest) in
            let d = times-append k ys loose.rest in
            omega (arith, has, f, o, a, c, d)

        by_stay : (map k ≡ m k) ⊎ IsSome (map k) → IsSome (map k)
        by_stay (inl e) = subst IsSome (sym e) (loose.told k (
            let a = times-append k (frame_blocks was id) (flat_map (frame_blocks was) ids) in
            let r : 0 < times k (frame_blocks was id ++ flat_map (frame_blocks was) ids) = omega (arith, has, a) in r))
        by_stay (inr s) = s

    pub others_loose : AreLoose g gave.map ids
    others_loose = record {
      tree = loose.tree;
      lists = loose.lists;
      rest = loose.rest;
      stocked = subst (λ (l : List ℕ). Stocked is_now loose.tree loose.lists (l ++ loose.rest)) (sym others_same) (loose_changed was loose.tree loose.lists xs [] (ys ++ loose.rest) (contents map) stocked shift);
      streams = λ j i. stream_stays was (contents map) g.used j (each j i) (loose.streams j (inr i));
      told = λ k h. told_still k (subst (λ (l : List ℕ). Has l k) frames_same h);
    }

    pub other_same : (j : ℕ) → In j ids → inode_blocks is_now j ≡ inode_blocks was j
    other_same j i = blocks_stay was (contents map) g.used j (each j i)
