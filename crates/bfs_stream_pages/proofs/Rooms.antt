-- A stream has grown by a block, and its fresh blocks are told.
use Rattle.std.proofs.Common.{◌≡◌, ◌≤◌, ◌<◌, ◌+◌, ◌*◌, ◌∙◌, inl, inr, ◌≤ℤ◌, pos, ℕ, ℤ, zero, suc, List, [], ◌∷◌, ◌++◌, length, take, drop, Bool, true, Option, Some, unwrap_or, refl, sym, ap, subst, arith, length-append}
use Rattle.std.specs.Prelude.{IsSome, slice_get, Result, Ok, Err, OnOk, IfErr}
use Rattle.std.specs.List.{flat_map}
use Rattle.std.proofs.lemmas.Int.{ints}
use Rattle.std.proofs.lemmas.List.{append-nil}
use Rattle.std.proofs.lemmas.Grind.{flat_map-append}
use Rattle.std.proofs.Math.Nat.{le_of_mul-le-mul_left}
use Rattle.std.proofs.Math.Seq.{take-append_seam, drop-append_seam, take-length}
use Rattle.bfs_base.specs.Lists.{times, Has, Agree}
use Rattle.bfs_super.specs.Conditions.{natural}
use Rattle.bfs_super.specs.Geometry.{IsBlockSize}
use Rattle.bfs_bitmap.specs.Fills.{IsBitmapBlock}
use Rattle.bfs_bitmap.specs.Runs.{Room}
use Rattle.bfs_stream.specs.Sizes.{Origin, HasSizes, array_length}
use Rattle.bfs_stream.specs.Places.{Levels, levels_at, arrays_at, fields, places_at, frame_at, whole_at}
use Rattle.bfs_stream.specs.Told.{contents, AreTold}
use Rattle.bfs_stream.specs.Faults.{IsGrowFault}
use Rattle.bfs_stream.specs.declared.fault.GrowFault.{GrowFault}
use Rattle.bfs_stream.specs.declared.fault.GrowFault.TheVariants as grow
use Rattle.bfs_stream.specs.Grown.{Owns, AreWritten, HasGrownBy, IsOutside}
use Rattle.bfs_stream.proofs.Doubles.{times-append}
use Rattle.bfs_stream.proofs.Frames.{has_first, has_right, joined_same, levels_same}
use Rattle.bfs_stream.proofs.Writes.{wrote_none, wrote_left, wrote_more, wrote_these, wrote_twice}
use Rattle.bfs_stream_pages.specs.Held.{Held}
use Rattle.bfs_stream_pages.specs.Moves.{ChangesFresh, KeepsInode}
use Rattle.bfs_stream_pages.specs.Steps.{HasRoom, IsToldWhole, IsUndamaged, all_of}
use Rattle.bfs_stream_pages.specs.MovesLaws.{with_size, fresh_none, keeps_inode_none, moved_none, moved_grown, moved_rewritten, moved_twice, owns_now, places_same, stays_same, stays_twice, whole_same}
use Rattle.bfs_stream_pages.specs.GoesLaws.{long_fits}

got_inside : (xs : List ℕ) (i n : ℕ) → slice_get xs i ≡ Some n → i < length xs
got_inside [] zero n e = cc
got_inside [] (suc i) n e = cc
got_inside (x ∷ xs) zero n e = omega arith
got_inside (x ∷ xs) (suc i) n e = let ih : i < length xs = got_inside xs i n e in omega (arith, ih)

-- the stream has a block there already
pub room_there : (o : Origin) (v : Room) (long : ℕ) (m : ℕ → Option (List ℕ)) (index n : ℕ) (told : Option (ℕ → Option (List ℕ))) (old new : ℕ → Bool) → Held o v long m → slice_get (places_at o.sizes (contents m) o.id) index ≡ Some n → told ≡ Some m → new ≡ old → HasRoom o v v long m index told old new
room_there o v long m index n told old new held at is same = record {
  comes = record { map = m; is = is; held = held; moved = moved_none o v m held.owns; written = wrote_none (IsBitmapBlock v) old new (whole_at o.sizes (contents m) o.id) same; stays = stays_same old new same; fresh = fresh_none o m m new refl };
  inside = got_inside (places_at o.sizes (contents m) o.id) index n at;
  rest = [];
  bytes = sym (append-nil (all_of o m));
}

-- what is in a list's rest is in the list
pub dropped_less : (k n : ℕ) (xs : List ℕ) → times k (drop n xs) ≤ times k xs
dropped_less k zero xs = omega arith
dropped_less k (suc n) [] = omega arith
dropped_less k (suc n) (x ∷ xs) = let ih = dropped_less k n xs in grind (arith, ih)

module _ (o : Origin) (v now : Room) (long : ℕ) (m : ℕ → Option (List ℕ)) (held : Held o v long m) (rest : now ≡ record v { tally = now.tally }) (told : Option (ℕ → Option (List ℕ))) (old mid : ℕ → Bool) (index : ℕ) (grown : HasGrownBy o v now m 1 told old mid) (low : o.sizes.block_size * index ≤ long) (some : 0 < o.sizes.block_size)
    (past : length (places_at o.sizes (contents m) o.id) ≤ index) where
  pub owns : Owns o now [] grown.grown.2.map
  owns = grown.grown.2.owns

  -- one of its blocks now is none of its inode and arrays
  place_apart : (k : ℕ) → Has (places_at o.sizes (contents grown.grown.2.map) o.id) k → times k (frame_at o.sizes (contents grown.grown.2.map) o.id) ≡ 0
  place_apart k has =
      let once = grown.grown.2.owns.once k in
      let parts = times-append k (frame_at o.sizes (contents grown.grown.2.map) o.id) (places_at o.sizes (contents grown.grown.2.map) o.id) in
      let h : 0 < times k (places_at o.sizes (contents grown.grown.2.map) o.id) = has in
      omega (arith, once, parts, h)

  frame_apart : (k : ℕ) → Has (frame_at o.sizes (contents grown.grown.2.map) o.id) k → times k (places_at o.sizes (contents grown.grown.2.map) o.id) ≡ 0
  frame_apart k has =
      let once = grown.grown.2.owns.once k in
      let parts = times-append k (frame_at o.sizes (contents grown.grown.2.map) o.id) (places_at o.sizes (contents grown.grown.2.map) o.id) in
      let h : 0 < times k (frame_at o.sizes (contents grown.grown.2.map) o.id) = has in
      omega (arith, once, parts, h)

  whole_has : (k : ℕ) → Has (places_at o.sizes (contents grown.grown.2.map) o.id) k → Has (whole_at o.sizes (contents grown.grown.2.map) o.id) k
  whole_has k has = has_right (frame_at o.sizes (contents grown.grown.2.map) o.id) (places_at o.sizes (contents grown.grown.2.map) o.id) k has

  -- and holds what it held
  place_same : (k : ℕ) → Has (places_at o.sizes (contents grown.grown.2.map) o.id) k → grown.grown.2.map k ≡ m k
  place_same k has = grown.grown.2.others k (subst (λ (x : Room). IsOutside x k) rest (grown.grown.2.owns.outside k (whole_has k has))) (place_apart k has)

  longer : length (places_at o.sizes (contents grown.grown.2.map) o.id) ≡ length (places_at o.sizes (contents m) o.id) + grown.count
  longer = ap length grown.grown.2.places ∙ length-append (places_at o.sizes (contents m) o.id) grown.grown.0 ∙ ap (λ (n : ℕ). length (places_at o.sizes (contents m) o.id) + n) grown.grown.1

  -- the place is just behind the blocks that it had
  behind : index ≡ length (places_at o.sizes (contents m) o.id)
  behind = let le : index ≤ length (places_at o.sizes (contents m) o.id) = le_of_mul-le-mul_left {m = index} {n = length (places_at o.sizes (contents m) o.id)} {k = o.sizes.block_size} (let fits = long_fits o v long m held in omega (arith, low, fits)) some in omega (arith, le, past)

  had : take index (places_at o.sizes (contents grown.grown.2.map) o.id) ≡ places_at o.sizes (contents m) o.id
  had = ap (take index) grown.grown.2.places ∙ ap (λ (n : ℕ). take n (places_at o.sizes (contents m) o.id ++ grown.grown.0)) behind ∙ take-append_seam (places_at o.sizes (contents m) o.id) grown.grown.0

  came : drop index (places_at o.sizes (contents grown.grown.2.map) o.id) ≡ grown.grown.0
  came = ap (drop index) grown.grown.2.places ∙ ap (λ (n : ℕ). drop n (places_at o.sizes (contents m) o.id ++ grown.grown.0)) behind ∙ drop-append_seam (places_at o.sizes (contents m) o.id) grown.grown.0

  was_there : (k : ℕ) → Has (places_at o.sizes (contents m) o.id) k → Has (places_at o.sizes (contents grown.grown.2.map) o.id) k
  was_there k has = subst (λ (l : List ℕ). Has l k) (sym grown.grown.2.places) (let parts = times-append k (places_at o.sizes (contents m) o.id) grown.grown.0 in let h : 0 < times k (places_at o.sizes (contents m) o.id) = has in let g : 0 < times k (places_at o.sizes (contents m) o.id ++ grown.grown.0) = omega (arith, h, parts) in g)

  -- what it had is told
  pub told_before : AreTold grown.grown.2.map (take index (places_at o.sizes (contents grown.grown.2.map) o.id))
  told_before k has =
      let mine : Has (places_at o.sizes (contents m) o.id) k = subst (λ (l : List ℕ). Has l k) had has in
      subst (λ (x : Option (List ℕ)). IsSome x) (sym (place_same k (was_there k mine))) (held.told k mine)

  pub few : length (places_at o.sizes (contents grown.grown.2.map) o.id) ≤ index + array_length o.sizes
  few = let most = grown.most in omega (arith, longer, most, behind)

  module _ (told2 : Option (ℕ → Option (List ℕ))) (new : ℕ → Bool) (filled : IsToldWhole o grown.grown.2.map index told2 mid new) where
    none_dropped : (k : ℕ) → times k (places_at o.sizes (contents grown.grown.2.map) o.id) ≡ 0 → times k (drop index (places_at o.sizes (contents grown.grown.2.map) o.id)) ≡ 0
    none_dropped k none = let less = dropped_less k index (places_at o.sizes (contents grown.grown.2.map) o.id) in omega (arith, none, less)

    agree_frame : Agree (contents grown.grown.2.map) (contents filled.map) (frame_at o.sizes (contents grown.grown.2.map) o.id)
    agree_frame k has = ap (λ (x : Option (List ℕ)). unwrap_or x []) (filled.same k (none_dropped k (frame_apart k has)))

    size_is : (fields o.sizes (contents grown.grown.2.map) o.id).size ≡ pos long
    size_is = grown.grown.2.kept.1 ∙ held.size

    levels : levels_at o.sizes (contents filled.map) o.id ≡ with_size (levels_at o.sizes (contents grown.grown.2.map) o.id) (pos long)
    levels = levels_same (contents grown.grown.2.map) (contents filled.map) o.sizes o.id agree_frame ∙ ap (λ (z : ℤ). with_size (levels_at o.sizes (contents grown.grown.2.map) o.id) z) size_is

    same : (k : ℕ) → times k (whole_at o.sizes (contents grown.grown.2.map) o.id) ≡ 0 → filled.map k ≡ grown.grown.2.map k
    same k none = filled.same k (none_dropped k (let parts = times-append k (frame_at o.sizes (contents grown.grown.2.map) o.id) (places_at o.sizes (contents grown.grown.2.map) o.id) in omega (arith, none, parts)))

    are_places : AreTold filled.map (places_at o.sizes (contents grown.grown.2.map) o.id)
    are_places k has = filled.are k (subst (λ (l : List ℕ). Has l k) (sym (take-length (places_at o.sizes (contents grown.grown.2.map) o.id))) has)

    are : AreTold filled.map (whole_at o.sizes (contents grown.grown.2.map) o.id)
    are k has = by_frame (times k (frame_at o.sizes (contents grown.grown.2.map) o.id)) refl
      where
        by_frame : (j : ℕ) → times k (frame_at o.sizes (contents grown.grown.2.map) o.id) ≡ j → IsSome (filled.map k)
        by_frame zero e = are_places k (let h : 0 < times k (whole_at o.sizes (contents grown.grown.2.map) o.id) = has in let parts = times-append k (frame_at o.sizes (contents grown.grown.2.map) o.id) (places_at o.sizes (contents grown.grown.2.map) o.id) in let p : 0 < times k (places_at o.sizes (contents grown.grown.2.map) o.id) = omega (arith, h, parts, e) in p)
        by_frame (suc j) e = filled.kept k (grown.grown.2.owns.stands.told k (let p : 0 < times k (frame_at o.sizes (contents grown.grown.2.map) o.id) = omega (arith, e) in p))

    kept : KeepsInode (contents grown.grown.2.map o.id) (contents filled.map o.id)
    kept = let e = agree_frame o.id (has_first o.id (arrays_at o.sizes (contents grown.grown.2.map) o.id)) in subst (KeepsInode (contents grown.grown.2.map o.id)) (sym e) (keeps_inode_none (contents grown.grown.2.map o.id))

    low_size : pos 0 ≤ℤ pos long
    low_size = omega (arith, ints)

    high_size : natural (pos long) ≤ o.sizes.block_size * length (places_at o.sizes (contents grown.grown.2.map) o.id)
    high_size = subst (λ (z : ℤ). natural z ≤ o.sizes.block_size * length (places_at o.sizes (contents grown.grown.2.map) o.id)) size_is grown.grown.2.owns.stands.sound.size_high

    places_are : places_at o.sizes (contents filled.map) o.id ≡ places_at o.sizes (contents grown.grown.2.map) o.id
    places_are = places_same o now grown.grown.2.map filled.map owns same are (pos long) levels low_size high_size kept

    whole_is : whole_at o.sizes (contents filled.map) o.id ≡ whole_at o.sizes (contents grown.grown.2.map) o.id
    whole_is = whole_same o now grown.grown.2.map filled.map owns same are (pos long) levels low_size high_size kept

    -- what it had holds what it held
    agree : Agree (contents m) (contents filled.map) (places_at o.sizes (contents m) o.id)
    agree k has = ap (λ (x : Option (List ℕ)). unwrap_or x []) (filled.same k (subst (λ (l : List ℕ). times k l ≡ 0) (sym came) none) ∙ place_same k (was_there k has))
      where
        none : times k grown.grown.0 ≡ 0
        none =
            let once = grown.grown.2.owns.once k in
            let parts = times-append k (frame_at o.sizes (contents grown.grown.2.map) o.id) (places_at o.sizes (contents grown.grown.2.map) o.id) in
            let split : times k (places_at o.sizes (contents grown.grown.2.map) o.id) ≡ times k (places_at o.sizes (contents m) o.id) + times k grown.grown.0 = ap (times k) grown.grown.2.places ∙ times-append k (places_at o.sizes (contents m) o.id) grown.grown.0 in
            let h : 0 < times k (places_at o.sizes (contents m) o.id) = has in
            omega (arith, once, parts, split, h)

    written_first : AreWritten v old mid (whole_at o.sizes (contents grown.grown.2.map) o.id)
    written_first = wrote_left (IsBitmapBlock v) old mid (frame_at o.sizes (contents grown.grown.2.map) o.id) (places_at o.sizes (contents grown.grown.2.map) o.id) grown.grown.2.written

    written_then : AreWritten v mid new (whole_at o.sizes (contents grown.grown.2.map) o.id)
    written_then = wrote_more (IsBitmapBlock v) mid new (places_at o.sizes (contents grown.grown.2.map) o.id) (whole_at o.sizes (contents grown.grown.2.map) o.id) whole_has (wrote_these (IsBitmapBlock v) mid new (places_at o.sizes (contents grown.grown.2.map) o.id) filled.written)

    -- what it has and had not is an array's, or was written over
    fresh : ChangesFresh o m filled.map new
    fresh k has none = by_frame (times k (frame_at o.sizes (contents grown.grown.2.map) o.id)) refl (subst (λ (l : List ℕ). Has l k) whole_is has)
      where
        none_before : times k (take index (places_at o.sizes (contents grown.grown.2.map) o.id)) ≡ 0
        none_before =
            let parts = times-append k (frame_at o.sizes (contents m) o.id) (places_at o.sizes (contents m) o.id) in
            let few : times k (places_at o.sizes (contents m) o.id) ≡ 0 = omega (arith, parts, none) in
            ap (times k) had ∙ few

        by_frame : (j : ℕ) → times k (frame_at o.sizes (contents grown.grown.2.map) o.id) ≡ j → Has (whole_at o.sizes (contents grown.grown.2.map) o.id) k → new k ≡ true
        by_frame zero e some =
            let h : 0 < times k (whole_at o.sizes (contents grown.grown.2.map) o.id) = some in
            let parts = times-append k (frame_at o.sizes (contents grown.grown.2.map) o.id) (places_at o.sizes (contents grown.grown.2.map) o.id) in
            let p : Has (places_at o.sizes (contents grown.grown.2.map) o.id) k = let q : 0 < times k (places_at o.sizes (contents grown.grown.2.map) o.id) = omega (arith, h, parts, e) in q in
            filled.set k (subst (λ (l : List ℕ). Has l k) (sym (take-length (places_at o.sizes (contents grown.grown.2.map) o.id))) p) none_before
        by_frame (suc j) e some = filled.stays k (grown.grown.2.entered k (let p : 0 < times k (frame_at o.sizes (contents grown.grown.2.map) o.id) = omega (arith, e) in p) none)

    pub room_grown : HasRoom o v now long m index told2 old new
    room_grown = record {
      comes = record {
        map = filled.map;
        is = filled.is;
        held = record {
          owns = owns_now o now grown.grown.2.map filled.map owns same are (pos long) levels low_size high_size kept;
          told = λ k has. are_places k (subst (λ (l : List ℕ). Has l k) places_are has);
          size = ap (λ (l : Levels). l.stream.size) levels;
        };
        moved = moved_twice o v now now m grown.grown.2.map filled.map (moved_grown o v now m grown.grown.0 told old mid grown.grown.2 rest) (moved_rewritten o now grown.grown.2.map filled.map owns same are (pos long) levels low_size high_size kept);
        written = subst (AreWritten v old new) (sym whole_is) (wrote_twice (IsBitmapBlock v) old mid new (whole_at o.sizes (contents grown.grown.2.map) o.id) written_first written_then);
        stays = stays_twice old mid new grown.grown.2.stays filled.stays;
        fresh = fresh;
      };
      inside = subst (λ (l : List ℕ). index < length l) (sym places_are) (let enough = grown.enough in omega (arith, behind, longer, enough));
      rest = flat_map (contents filled.map) grown.grown.0;
      bytes =
          ap (flat_map (contents filled.map)) (places_are ∙ grown.grown.2.places)
          ∙ joined (places_at o.sizes (contents m) o.id) grown.grown.0
          ∙ ap (λ (l : List ℕ). l ++ flat_map (contents filled.map) grown.grown.0) (joined_same (contents m) (contents filled.map) (λ b. b) (places_at o.sizes (contents m) o.id) agree);
    }
      where
        joined : (xs ys : List ℕ) → flat_map (contents filled.map) (xs ++ ys) ≡ flat_map (contents filled.map) xs ++ flat_map (contents filled.map) ys
        joined xs ys = flat_map-append (contents filled.map) xs ys

-- the same of a result
pub room_ok : (o : Origin) (v now : Room) (long : ℕ) (m : ℕ → Option (List ℕ)) (held : Held o v long m) (rest : now ≡ record v { tally = now.tally }) (told : Option (ℕ → Option (List ℕ))) (old mid : ℕ → Bool) (index : ℕ) (grown : HasGrownBy o v now m 1 told old mid) → o.sizes.block_size * index ≤ long → 0 < o.sizes.block_size
    → length (places_at o.sizes (contents m) o.id) ≤ index → (told2 : Option (ℕ → Option (List ℕ))) (new : ℕ → Bool) (r : Result (Unit {0}) GrowFault) → OnOk r (IsToldWhole o grown.grown.2.map index told2 mid new) → OnOk r (HasRoom o v now long m index told2 old new)
room_ok o v now long m held rest told old mid index grown low some past told2 new (Ok u) filled = room_grown o v now long m held rest told old mid index grown low some past told2 new filled
room_ok o v now long m held rest told old mid index grown low some past told2 new (Err fault) filled = tt

-- no block is damaged, which is a reason for a fault of a block
pub fill_fault : (o : Origin) (v : Room) (m : ℕ → Option (List ℕ)) (r : Result (Unit {0}) GrowFault) → IfErr r IsUndamaged → IfErr r (IsGrowFault o v m 1)
fill_fault o v m (Ok u) none = tt
fill_fault o v m (Err (grow.NoRun wanted free)) none = absurd none
fill_fault o v m (Err (grow.Full room)) none = absurd none
fill_fault o v m (Err (grow.Block fault)) none = none

-- a block has bytes
pub some_size : (o : Origin) → HasSizes o.sizes → 0 < o.sizes.block_size
some_size o sizes = by_size sizes.block_size
  where
    by_size : IsBlockSize o.sizes.block_size → 0 < o.sizes.block_size
    by_size (inl e) = omega (arith, e)
    by_size (inr (inl e)) = omega (arith, e)
    by_size (inr (inr (inl e))) = omega (arith, e)
    by_size (inr (inr (inr e))) = omega (arith, e)
