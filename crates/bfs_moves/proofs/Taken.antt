-- A block was taken from the bitmap.
use Rattle.std.proofs.Common.{◌≡◌, ◌≤◌, ◌<◌, ◌+◌, ◌*◌, ◌⊎◌, inl, inr, ℕ, List, [], ◌∷◌, ◌++◌, refl, sym, ap, ◌∙◌, subst, arith, Bool, true, Option, None}
use Rattle.std.specs.Prelude.{IsSome}
use Rattle.std.specs.List.{flat_map}
use Rattle.std.specs.FinMap.{entries, get}
use Rattle.bfs_base.specs.Lists.{times, Has, counted_from}
use Rattle.bfs_bytes.specs.declared.Run.{Run}
use Rattle.bfs_super.specs.Conditions.{IsValid, natural, block_of_run}
use Rattle.bfs_super.specs.Geometry.{geometry_of}
use Rattle.bfs_super.specs.declared.geometry.Geometry.{Geometry}
use Rattle.bfs_super.specs.declared.sup.Super.{Super}
use Rattle.bfs_bitmap.specs.Fills.{IsBitmapBlock, IsTold}
use Rattle.bfs_bitmap.specs.Runs as bits
use Rattle.bfs_bitmap.specs.Runs.{Room, IsInside, IsTaken, IsCounted, first_of}
use Rattle.bfs_stream.specs.Told.{contents}
use Rattle.bfs_stream.specs.Grown.{IsOfVolume}
use Rattle.bfs_stream.proofs.Doubles.{times-append}
use Rattle.bfs_stream.proofs.Taking.{of_told}
use Rattle.bfs_tree.specs.Trees.{Node, Tree, is_file}
use Rattle.bfs_sound.specs.Volumes.{Volume, sizes, bitmap_blocks, IsMarked}
use Rattle.bfs_sound.specs.Owners.{node_blocks, file_data, reach}
use Rattle.bfs_sound.proofs.Counts.{In, times_member}
use Rattle.bfs_shift.specs.Lists.{Lists}
use Rattle.bfs_shift.specs.Stocked.{Stocked, Shifts}
use Rattle.bfs_shift.specs.Shifts.{volume_in}
use Rattle.bfs_shift.proofs.Bits.{taken_shifts}
use Rattle.bfs_shift.proofs.Loose.{loose_changed}
use Rattle.bfs_shift.proofs.Moving.{all_parts}
use Rattle.bfs_txn.specs.Told.{StaysChanged}
use Rattle.bfs_shift.specs.Work.{IsAtWork, GoesOn, IsStepped, MayBeWritten}
use Rattle.bfs_shift.proofs.Basics.{some_bytes, bitmap_has, or_told}
use Rattle.bfs_shift.proofs.Files.{unfiled, none_there, files_same, stream_same, bytes_same, marks_stay, told_since, entered_since, reserved_stays}
use Rattle.bfs_moves.proofs.Births.{only_one}

one_more : (d : ℕ) (l : List ℕ) → times d (d ∷ l) ≡ 1 + times d l
one_more d l = grind arith

module _ (s : Super) (v now : Room) (run : Run) (m : ℕ → Option (List ℕ)) (tree : Tree) (lists : Lists) (loose : List ℕ) (told : Option (ℕ → Option (List ℕ))) (old new : ℕ → Bool) (valid : IsValid s) (work : IsAtWork (geometry_of s) v m tree lists loose)
    (inside : IsInside v run) (low : 1 ≤ run.len) (high : run.len ≤ 1) (taken : IsTaken v m 1 1 (first_of v run) run.len) (mark : bits.IsMarked v now (first_of v run) run.len 1 m told) (rest : now ≡ record v { tally = now.tally })
    (changed : (k : ℕ) → new k ≡ true → (old k ≡ true) ⊎ IsBitmapBlock v k) (kept : StaysChanged old new) (count : IsCounted v m → IsTold (IsCounted now) told) where
  abbrev g : Geometry
  g = geometry_of s

  abbrev was : Volume
  was = volume_in g m

  abbrev is_now : Volume
  is_now = volume_in g mark.map

  abbrev first : ℕ
  first = first_of v run

  some : 0 < s.block_size
  some = some_bytes s valid

  one : run.len ≡ 1
  one = omega (arith, low, high)

  shift : Shifts was (contents mark.map) [] (first ∷ [])
  shift = subst (λ (n : ℕ). Shifts was (contents mark.map) [] (counted_from first n)) one (taken_shifts g v now m first run.len told work.volume some inside.inside taken.free mark)

  since : Stocked is_now tree lists (first ∷ loose)
  since = loose_changed was tree lists [] (first ∷ []) loose (contents mark.map) work.stocked shift

  apart : (e : ℕ × Node) → In e (entries tree.nodes) → is_file e.1.kind ≡ true → (k : ℕ) → times k (node_blocks was e) + (times k [] + times k (bitmap_blocks g)) ≤ times k (reach was tree ++ loose)
  apart e i f k =
      let p = all_parts was tree lists loose work.stocked k in
      let o : times k (node_blocks was e) ≤ times k (flat_map (node_blocks was) (entries tree.nodes)) = times_member k (node_blocks was) (entries tree.nodes) e i in
      omega (arith, p, o)

  same : file_data is_now tree ≡ file_data was tree
  same = files_same was tree lists loose work.stocked (contents mark.map) [] (first ∷ []) shift apart

  or_is : (k : ℕ) → (mark.map k ≡ m k) ⊎ IsSome (mark.map k)
  or_is k = or_told v m mark.map k mark.marks.has (λ out. mark.marks.others k (inr out)) (λ none. mark.marks.others k (inl none))

  loose_is : (k : ℕ) → times k (first ∷ loose) ≡ times k (first ∷ []) + times k loose
  loose_is k = times-append k (first ∷ []) loose

  work_now : IsAtWork g now mark.map tree lists (first ∷ loose)
  work_now = record {
    volume = subst (IsOfVolume (sizes g)) (sym rest) (record { block_size = work.volume.block_size; blocks = work.volume.blocks; group_blocks = work.volume.group_blocks });
    fits = mark.fits;
    counted = of_told (IsCounted now) mark.map told mark.is (count work.counted);
    stocked = since;
    told = told_since g m mark.map tree tree lists lists loose (first ∷ loose) [] (first ∷ []) work.stocked since shift (λ k. ap (times k) (sym same)) work.told (λ k none. or_is k)
        (λ k h none. let has : 0 < times k (first ∷ []) = h in let l = loose_is k in absurd (omega (arith, has, l, none)))
        (λ k. let l = loose_is k in omega (arith, l));
  }

  goes_on : GoesOn g v now m mark.map tree tree old new
  goes_on = record {
    rest = rest;
    marked = marks_stay was (contents mark.map) [] (first ∷ []) shift (λ k h. let bad : 0 < 0 = h in absurd (omega (arith, bad)));
    files = λ id n is f. (record { node = n; there = is; kind = refl; size = refl }, stream_same was tree lists loose work.stocked (contents mark.map) [] (first ∷ []) shift apart id n is f);
    same_data = λ k. ap (times k) (sym same);
    bytes = bytes_same was tree lists loose work.stocked (contents mark.map) [] (first ∷ []) shift apart;
    written = λ k h. by_cause k (changed k h);
    kept = kept;
    entered = entered_since g m mark.map tree tree lists lists loose (first ∷ loose) [] (first ∷ []) work.stocked since shift (λ k. ap (times k) (sym same)) work.told (λ k none. or_is k)
        (λ k h none. let has : 0 < times k (first ∷ []) = h in let l = loose_is k in absurd (omega (arith, has, l, none)))
        (λ k. let l = loose_is k in omega (arith, l)) new
        (λ k h left none. let has : 0 < times k (first ∷ []) = h in let l = loose_is k in absurd (omega (arith, has, l, left)))
        (λ k h left. let bad : 0 < 0 = h in absurd (omega (arith, bad)));
    reserved = reserved_stays was (contents mark.map) [] (first ∷ []) v m shift (λ k h. let bad : 0 < 0 = h in absurd (omega (arith, bad)))
        (λ k h none. let e = only_one k first h in taken.free.free k (omega (arith, e)) (omega (arith, e, low)));
  }
    where
      by_cause : (k : ℕ) → (old k ≡ true) ⊎ IsBitmapBlock v k → (old k ≡ true) ⊎ (MayBeWritten is_now tree k)
      by_cause k (inl e) = inl e
      by_cause k (inr bit) = inr (unfiled is_now tree lists (first ∷ loose) since k (let b : 0 < times k (bitmap_blocks g) = bitmap_has g v k work.volume some bit in omega (arith, b)))

  block_is : block_of_run s run ≡ first
  block_is = ap (λ (n : ℕ). natural run.group * n + run.start) (sym work.volume.group_blocks)

  pub taken_step : (block : ℕ) → block ≡ block_of_run s run → IsStepped g v now m tree tree lists (block ∷ loose) told old new
  taken_step block is = subst (λ (b : ℕ). IsStepped g v now m tree tree lists (b ∷ loose) told old new) (sym (is ∙ block_is)) (record { map = mark.map; is = mark.is; work = work_now; goes_on = goes_on })

  pub taken_new : (block : ℕ) → block ≡ block_of_run s run → get tree.nodes block ≡ None
  taken_new block is = subst (λ (b : ℕ). get tree.nodes b ≡ None) (sym (is ∙ block_is)) (none_there is_now tree lists (first ∷ loose) since first (let e = one_more first loose in omega (arith, e)))
