-- Loose blocks were given back, and the tree stays.
use Rattle.std.proofs.Common.{◌≡◌, ◌≤◌, ◌<◌, ◌+◌, ◌*◌, ◌⊎◌, inl, inr, ℕ, zero, suc, List, [], ◌∷◌, ◌++◌, append-nil, refl, sym, ap, ◌∙◌, subst, arith, Bool, true, false, not, Option}
use Rattle.std.specs.Prelude.{IsSome, ◌==◌, ◌||◌}
use Rattle.std.specs.List.{flat_map}
use Rattle.std.specs.FinMap.{entries}
use Rattle.bfs_base.specs.Lists.{times, Has}
use Rattle.bfs_super.specs.declared.geometry.Geometry.{Geometry}
use Rattle.bfs_bitmap.specs.Fills.{IsBitmapBlock}
use Rattle.bfs_bitmap.specs.Runs.{Room, HasBitmap, per_block, is_reserved, marked}
use Rattle.bfs_txn.specs.Told.{StaysChanged}
use Rattle.bfs_stream.specs.Standing.{standing}
use Rattle.bfs_stream.specs.Places.{HasStream}
use Rattle.bfs_stream.specs.Told.{contents, Stands}
use Rattle.bfs_stream.specs.Grown.{IsOfVolume, Owns}
use Rattle.bfs_stream.proofs.Doubles.{times-append}
use Rattle.bfs_stream.proofs.Taking.{zero_test, some_test}
use Rattle.bfs_tree.specs.Trees.{Node, Tree, is_file}
use Rattle.bfs_sound.specs.Volumes.{Volume, sizes, bitmap_blocks, IsMarked}
use Rattle.bfs_sound.specs.Inodes.{frame_blocks, inode_blocks}
use Rattle.bfs_sound.specs.Owners.{node_blocks, file_data, fixed_blocks, reach, IsMetadata}
use Rattle.bfs_sound.proofs.Counts.{In, times_member}
use Rattle.bfs_shift.specs.Lists.{Lists}
use Rattle.bfs_shift.specs.Stocked.{Stocked, Shifts}
use Rattle.bfs_shift.specs.Shifts.{volume_in}
use Rattle.bfs_shift.specs.Work.{IsAtWork, MayBeWritten}
use Rattle.bfs_shift.proofs.Basics.{bitmap_has, or_told}
use Rattle.bfs_shift.proofs.Files.{unfiled, files_same, stream_same, bytes_same}
use Rattle.bfs_shift.proofs.Loose.{loose_changed}
use Rattle.bfs_shift.proofs.Moving.{all_parts}
use Rattle.bfs_leave.specs.Given.{AreGivenBack, AreLoose}
use Rattle.bfs_leave.specs.Leaving.{IsClear, IsGivenSince, GivesBack, IsLeft}
use Rattle.bfs_leave.proofs.Loosened.{first_owns}
use Rattle.bfs_leave.proofs.Returned.{given_shift}

-- the stream of an inode whose blocks are loose owns them
pub alone_owns : (g : Geometry) (v : Room) (m : ℕ → Option (List ℕ)) (tree : Tree) (lists : Lists) (loose : List ℕ) (id : ℕ) → 0 < g.block_size → IsAtWork g v m tree lists (inode_blocks (volume_in g m) id ++ loose)
    → Stands (record { id = id; sizes = sizes g }) m → Owns (record { id = id; sizes = sizes g }) v [] m
alone_owns g v m tree lists loose id some work stands = first_owns g v m id [] some work.volume alone work.fits
  where
    by_place : (j : ℕ) → In j (id ∷ []) → HasStream (sizes g) (contents m) j
    by_place j (inl e) = subst (HasStream (sizes g) (contents m)) (sym e) stands.sound
    by_place j (inr bad) = absurd bad

    alone : AreLoose g m (id ∷ [])
    alone = record {
      tree = tree;
      lists = lists;
      rest = loose;
      stocked = subst (λ (l : List ℕ). Stocked (volume_in g m) tree lists (l ++ loose)) (sym (append-nil (inode_blocks (volume_in g m) id))) work.stocked;
      streams = by_place;
      told = λ k h. stands.told k (subst (λ (l : List ℕ). Has l k) (append-nil (frame_blocks (volume_in g m) id)) h);
    }

module _ (g : Geometry) (v now : Room) (m : ℕ → Option (List ℕ)) (tree : Tree) (lists : Lists) (loose xs : List ℕ) (told : Option (ℕ → Option (List ℕ))) (old new : ℕ → Bool)
    (some : 0 < g.block_size) (work : IsAtWork g v m tree lists (xs ++ loose)) (clear : IsClear g v m)
    (gave : AreGivenBack v now xs m told old new) (rest : now ≡ record v { given = now.given; tally = now.tally }) (stands : standing now ≡ standing v) (kept : StaysChanged old new) where
  abbrev was : Volume
  was = volume_in g m

  abbrev map : ℕ → Option (List ℕ)
  map = gave.map

  abbrev is_now : Volume
  is_now = volume_in g map

  owned : Stocked was tree lists (xs ++ loose)
  owned = work.stocked

  parts : (k : ℕ) → times k (reach was tree) + (times k xs + times k loose) ≤ 1
  parts k =
      let o : times k (reach was tree ++ (xs ++ loose)) ≤ 1 = owned.once k in
      let a = times-append k (reach was tree) (xs ++ loose) in
      let b = times-append k xs loose in
      omega (arith, o, a, b)

  bits_in : (x : ℕ → Option (List ℕ)) (k : ℕ) → marked (per_block v) x k ≡ marked (8 * g.block_size) x k
  bits_in x k = ap (λ (s : ℕ). marked (8 * s) x k) work.volume.block_size

  shift : Shifts was (contents map) xs []
  shift = given_shift g v now m xs told old new some work.volume gave

  stocked : Stocked is_now tree lists loose
  stocked = loose_changed was tree lists xs [] loose (contents map) owned shift

  was_marked : (k : ℕ) → 0 < times k xs → IsMarked was k
  was_marked k has = (owned.marks k).1 (
      let a = times-append k (reach was tree) (xs ++ loose) in
      let b = times-append k xs loose in
      let r : 0 < times k (reach was tree ++ (xs ++ loose)) = omega (arith, has, a, b) in r)

  apart : (e : ℕ × Node) → In e (entries tree.nodes) → is_file e.1.kind ≡ true → (k : ℕ) → times k (node_blocks was e) + (times k xs + times k (bitmap_blocks g)) ≤ times k (reach was tree ++ (xs ++ loose))
  apart e i f k =
      let p = all_parts was tree lists (xs ++ loose) owned k in
      let n : times k (node_blocks was e) ≤ times k (flat_map (node_blocks was) (entries tree.nodes)) = times_member k (node_blocks was) (entries tree.nodes) e i in
      let b = times-append k xs loose in
      omega (arith, p, n, b)

  same : file_data is_now tree ≡ file_data was tree
  same = files_same was tree lists (xs ++ loose) owned (contents map) xs [] shift apart

  bitmap_now : HasBitmap v map
  bitmap_now = let h : HasBitmap (record v { given = now.given; tally = now.tally }) map = subst (λ (x : Room). HasBitmap x map) rest gave.fits.has in record { told = h.told }

  -- what is metadata since was so before, and is none of these blocks
  metadata_stays : (k : ℕ) → IsMetadata is_now tree k → IsMetadata was tree k × (times k xs ≡ 0)
  metadata_stays k h = by_mark ((shift.marks k).0 ((stocked.marks k).1 (let a = times-append k (reach is_now tree) loose in let r : 0 < times k (reach is_now tree ++ loose) = omega (arith, a, there) in r)))
    where
      there : 0 < times k (reach is_now tree)
      there = h.0

      no_data : times k (file_data was tree) ≡ 0
      no_data = let e : times k (file_data is_now tree) ≡ times k (file_data was tree) = ap (times k) same in let z = h.1 in omega (arith, e, z)

      by_mark : Has [] k ⊎ (IsMarked was k × (times k xs ≡ 0)) → IsMetadata was tree k × (times k xs ≡ 0)
      by_mark (inl has) = absurd (let bad : 0 < 0 = has in omega (arith, bad))
      by_mark (inr old_mark) = ((reached, no_data), old_mark.1)
        where
          reached : 0 < times k (reach was tree)
          reached =
              let r : 0 < times k (reach was tree ++ (xs ++ loose)) = (owned.marks k).0 old_mark.0 in
              let a = times-append k (reach was tree) (xs ++ loose) in
              let b = times-append k xs loose in
              let none = old_mark.1 in
              let o : times k (reach is_now tree ++ loose) ≤ 1 = stocked.once k in
              let c = times-append k (reach is_now tree) loose in
              omega (arith, r, a, b, none, o, c, there)

  told_now : (k : ℕ) → IsMetadata is_now tree k → times k (fixed_blocks is_now) ≡ 0 → IsSome (map k)
  told_now k h out = by_stay (or_told v m map k bitmap_now (λ o. gave.others k o before.1) (λ at. ap map at ∙ gave.first (subst (λ (j : ℕ). times j xs ≡ 0) at before.1) ∙ sym (ap m at)))
    where
      before : IsMetadata was tree k × (times k xs ≡ 0)
      before = metadata_stays k h

      by_stay : (map k ≡ m k) ⊎ IsSome (map k) → IsSome (map k)
      by_stay (inl e) = subst IsSome (sym e) (work.told k before.0 out)
      by_stay (inr s) = s

  work_now : IsAtWork g now map tree lists loose
  work_now = record {
    volume = subst (IsOfVolume (sizes g)) (sym rest) (record { block_size = work.volume.block_size; blocks = work.volume.blocks; group_blocks = work.volume.group_blocks });
    fits = gave.fits;
    counted = gave.counted (λ k. let p = parts k in omega (arith, p)) (λ k low has. let h : 0 < times k xs = has in let one : marked (8 * g.block_size) m k ≡ 1 = (was_marked k h).1 in bits_in m k ∙ one) work.counted;
    stocked = stocked;
    told = told_now;
  }

  reserved_now : (k : ℕ) → 0 < times k xs → is_reserved now.given k ≡ true
  reserved_now k has = gave.reserved k ∙ ap (λ (t : Bool). is_reserved v.given k || not t) (some_test (times k xs) has) ∙ or_true (is_reserved v.given k)
    where
      or_true : (b : Bool) → (b || true) ≡ true
      or_true true = refl
      or_true false = refl

  reserved_still : (k : ℕ) → is_reserved v.given k ≡ true → is_reserved now.given k ≡ true
  reserved_still k r = gave.reserved k ∙ ap (λ (t : Bool). t || not (times k xs == 0)) r

  unreserved : (k : ℕ) → IsMarked was k → is_reserved v.given k ≡ false
  unreserved k h = by_test (is_reserved v.given k) refl
    where
      by_test : (t : Bool) → is_reserved v.given k ≡ t → is_reserved v.given k ≡ false
      by_test true e = absurd (clear k e h)
      by_test false e = e

  clear_now : IsClear g now map
  clear_now k r marked_now = by_mark ((shift.marks k).0 marked_now)
    where
      by_mark : Has [] k ⊎ (IsMarked was k × (times k xs ≡ 0)) → ⊥
      by_mark (inl has) = let bad : 0 < 0 = has in omega (arith, bad)
      by_mark (inr h) =
          let none : (times k xs == 0) ≡ true = zero_test (times k xs) h.1 in
          let same_given : is_reserved now.given k ≡ (is_reserved v.given k || not true) = gave.reserved k ∙ ap (λ (t : Bool). is_reserved v.given k || not t) none in
          clear k (or_false (is_reserved v.given k) (sym same_given ∙ r)) h.0
        where
          or_false : (b : Bool) → (b || false) ≡ true → b ≡ true
          or_false true e = refl
          or_false false e = e

  gives : GivesBack g v now m map tree tree old new
  gives = record {
    rest = rest;
    standing_is = stands;
    holds = reserved_still;
    clear = clear_now;
    marked = λ k h. by_count k h (times k xs) refl;
    files = λ b x there f. inl (record { node = x; there = there; kind = refl; size = refl }, stream_same was tree lists (xs ++ loose) owned (contents map) xs [] shift apart b x there f);
    no_more = λ k. let e : times k (file_data is_now tree) ≡ times k (file_data was tree) = ap (times k) same in omega (arith, e);
    left = λ k h. inl (
        let had : 0 < times k (file_data was tree) = h in
        let q : times k (file_data is_now tree) ≡ times k (file_data was tree) = ap (times k) same in
        let r : 0 < times k (file_data is_now tree) = omega (arith, had, q) in r);
    bytes = λ k h. bytes_same was tree lists (xs ++ loose) owned (contents map) xs [] shift apart k (
        let some_data : 0 < times k (file_data is_now tree) = h in
        let e : times k (file_data is_now tree) ≡ times k (file_data was tree) = ap (times k) same in
        let r : 0 < times k (file_data was tree) = omega (arith, some_data, e) in r);
    written = λ k h. by_cause k (gave.written k h);
    kept = kept;
    entered = λ k h. inl (metadata_stays k h).0;
  }
    where
      by_count : (k : ℕ) → IsMarked was k → (c : ℕ) → times k xs ≡ c → IsMarked is_now k ⊎ (is_reserved now.given k ≡ true)
      by_count k h zero e = inl ((shift.marks k).1 (inr (h, e)))
      by_count k h (suc c) e = inr (reserved_now k (omega (arith, e)))

      no_log : (k : ℕ) → 0 < times k xs → times k (fixed_blocks was) ≡ 0
      no_log k h =
          let p = all_parts was tree lists (xs ++ loose) owned k in
          let o : times k (reach was tree ++ (xs ++ loose)) ≤ 1 = owned.once k in
          let b = times-append k xs loose in
          omega (arith, p, o, b, h)

      by_cause : (k : ℕ) → (old k ≡ true) ⊎ (IsBitmapBlock v k ⊎ Has xs k) → (old k ≡ true) ⊎ (MayBeWritten is_now tree k ⊎ IsGivenSince g v now k)
      by_cause k (inl e) = inl e
      by_cause k (inr (inl bit)) = inr (inl (unfiled is_now tree lists loose stocked k (let b : 0 < times k (bitmap_blocks g) = bitmap_has g v k work.volume some bit in omega (arith, b))))
      by_cause k (inr (inr has)) =
          let h : 0 < times k xs = has in
          let mark = was_marked k h in
          inr (inr (unreserved k mark, reserved_now k h, (mark.0, no_log k h)))

  pub loose_given : IsLeft g v now m tree tree lists loose told old new
  loose_given = record { map = map; is = gave.is; work = work_now; gives = gives }
