-- Loose blocks were written, and have perhaps grown.
use Rattle.std.proofs.Common.{◌≡◌, ◌≤◌, ◌<◌, ◌+◌, ◌⊎◌, inl, inr, ℕ, List, ◌++◌, refl, sym, ap, subst, arith, Bool, true, Option, Some}
use Rattle.std.specs.Prelude.{IsSome}
use Rattle.std.specs.List.{flat_map}
use Rattle.std.specs.FinMap.{entries}
use Rattle.bfs_base.specs.Lists.{times, Has}
use Rattle.bfs_super.specs.declared.geometry.Geometry.{Geometry}
use Rattle.bfs_bitmap.specs.Fills.{IsBitmapBlock}
use Rattle.bfs_bitmap.specs.Runs.{Room, Fits, IsCounted, is_free}
use Rattle.bfs_stream.specs.Told.{contents}
use Rattle.bfs_stream.specs.Grown.{IsOfVolume}
use Rattle.bfs_stream.proofs.Doubles.{times-append}
use Rattle.bfs_tree.specs.Trees.{Node, Tree, is_file}
use Rattle.bfs_sound.specs.Volumes.{Volume, sizes, bitmap_blocks, IsMarked}
use Rattle.bfs_sound.specs.Owners.{node_blocks, file_data, reach}
use Rattle.bfs_sound.proofs.Counts.{In, times_member}
use Rattle.bfs_shift.specs.Lists.{Lists}
use Rattle.bfs_shift.specs.Stocked.{Stocked, Shifts}
use Rattle.bfs_shift.specs.Shifts.{volume_in}
use Rattle.bfs_shift.proofs.Loose.{loose_changed}
use Rattle.bfs_shift.proofs.Moving.{all_parts}
use Rattle.bfs_txn.specs.Told.{StaysChanged}
use Rattle.bfs_shift.specs.Work.{IsAtWork, GoesOn, IsStepped, MayBeWritten}
use Rattle.bfs_shift.proofs.Basics.{bitmap_has}
use Rattle.bfs_shift.proofs.Files.{unfiled, files_same, stream_same, bytes_same, marks_stay, told_since, entered_since, reserved_stays}

module _ (g : Geometry) (v now : Room) (m map : ℕ → Option (List ℕ)) (tree : Tree) (lists : Lists) (xs ys rest : List ℕ) (old new : ℕ → Bool) (some : 0 < g.block_size) (work : IsAtWork g v m tree lists (xs ++ rest))
    (shift : Shifts (volume_in g m) (contents map) xs ys) (same_room : now ≡ record v { tally = now.tally }) (fits : Fits now map) (counted : IsCounted now map) (stays : (k : ℕ) → times k ys ≡ 0 → (map k ≡ m k) ⊎ IsSome (map k))
    (kept : (k : ℕ) → Has xs k → Has ys k) (written : (k : ℕ) → new k ≡ true → (old k ≡ true) ⊎ (IsBitmapBlock v k ⊎ Has ys k)) (kept_changed : StaysChanged old new)
    (free : (k : ℕ) → Has ys k → times k xs ≡ 0 → is_free v m k ≡ true) where
  abbrev was : Volume
  was = volume_in g m

  abbrev is_now : Volume
  is_now = volume_in g map

  pub loose_since : Stocked is_now tree lists (ys ++ rest)
  loose_since = loose_changed was tree lists xs ys rest (contents map) work.stocked shift

  apart : (e : ℕ × Node) → In e (entries tree.nodes) → is_file e.1.kind ≡ true → (k : ℕ) → times k (node_blocks was e) + (times k xs + times k (bitmap_blocks g)) ≤ times k (reach was tree ++ (xs ++ rest))
  apart e i f k =
      let p = all_parts was tree lists (xs ++ rest) work.stocked k in
      let a = times-append k xs rest in
      let o : times k (node_blocks was e) ≤ times k (flat_map (node_blocks was) (entries tree.nodes)) = times_member k (node_blocks was) (entries tree.nodes) e i in
      omega (arith, p, a, o)

  same : file_data is_now tree ≡ file_data was tree
  same = files_same was tree lists (xs ++ rest) work.stocked (contents map) xs ys shift apart

  pub loose_work : IsAtWork g now map tree lists (ys ++ rest)
  loose_work = record {
    volume = subst (IsOfVolume (sizes g)) (sym same_room) (record { block_size = work.volume.block_size; blocks = work.volume.blocks; group_blocks = work.volume.group_blocks });
    fits = fits;
    counted = counted;
    stocked = loose_since;
    told = told_since g m map tree tree lists lists (xs ++ rest) (ys ++ rest) xs ys work.stocked loose_since shift (λ k. ap (times k) (sym same)) work.told stays
        (λ k h none. let has : 0 < times k ys = h in let a = times-append k ys rest in absurd (omega (arith, has, a, none)))
        (λ k. let a = times-append k xs rest in let b = times-append k ys rest in omega (arith, a, b));
  }

  xs_marked : (k : ℕ) → Has xs k → IsMarked was k
  xs_marked k h = (work.stocked.marks k).1 (
      let has : 0 < times k xs = h in
      let a = times-append k xs rest in
      let b = times-append k (reach was tree) (xs ++ rest) in
      let r : 0 < times k (reach was tree ++ (xs ++ rest)) = omega (arith, has, a, b) in r)

  pub loose_goes : GoesOn g v now m map tree tree old new
  loose_goes = record {
    rest = same_room;
    marked = marks_stay was (contents map) xs ys shift kept;
    files = λ id n is f. (record { node = n; there = is; kind = refl; size = refl }, stream_same was tree lists (xs ++ rest) work.stocked (contents map) xs ys shift apart id n is f);
    same_data = λ k. ap (times k) (sym same);
    bytes = bytes_same was tree lists (xs ++ rest) work.stocked (contents map) xs ys shift apart;
    written = λ k h. by_cause k (written k h);
    kept = kept_changed;
    entered = entered_since g m map tree tree lists lists (xs ++ rest) (ys ++ rest) xs ys work.stocked loose_since shift (λ k. ap (times k) (sym same)) work.told stays
        (λ k h none. let has : 0 < times k ys = h in let a = times-append k ys rest in absurd (omega (arith, has, a, none)))
        (λ k. let a = times-append k xs rest in let b = times-append k ys rest in omega (arith, a, b)) new
        (λ k h left none. let has : 0 < times k ys = h in let a = times-append k ys rest in absurd (omega (arith, has, a, left)))
        (λ k h left. let has : 0 < times k ys = kept k h in let a = times-append k ys rest in absurd (omega (arith, has, a, left)));
    reserved = reserved_stays was (contents map) xs ys v m shift xs_marked free;
  }
    where
      by_cause : (k : ℕ) → (old k ≡ true) ⊎ (IsBitmapBlock v k ⊎ Has ys k) → (old k ≡ true) ⊎ (MayBeWritten is_now tree k)
      by_cause k (inl e) = inl e
      by_cause k (inr (inl bit)) = inr (unfiled is_now tree lists (ys ++ rest) loose_since k (let b : 0 < times k (bitmap_blocks g) = bitmap_has g v k work.volume some bit in omega (arith, b)))
      by_cause k (inr (inr h)) = inr (unfiled is_now tree lists (ys ++ rest) loose_since k (let has : 0 < times k ys = h in let a = times-append k ys rest in omega (arith, has, a)))

  pub loose_step : (told : Option (ℕ → Option (List ℕ))) → told ≡ Some map → IsStepped g v now m tree tree lists (ys ++ rest) told old new
  loose_step told is = record { map = map; is = is; work = loose_work; goes_on = loose_goes }
