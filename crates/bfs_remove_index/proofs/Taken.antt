-- The name of an index was taken out of the index directory.
use Rattle.std.proofs.Common.{◌≡◌, ◌≢◌, ◌≤◌, ◌<◌, ◌+◌, ◌⊎◌, inl, inr, ℕ, ℤ, zero, suc, pos, List, [], ◌++◌, refl, sym, ap, ◌∙◌, subst, arith, Bool, true, map, Option, Some, None}
use Rattle.std.specs.Prelude.{IsSome}
use Rattle.std.specs.List.{flat_map}
use Rattle.std.specs.FinMap.{entries}
use Rattle.std.proofs.lemmas.List.Folds.{flat_map-map}
use Rattle.bfs_base.specs.Lists.{times, Has, Agree}
use Rattle.bfs_base.specs.declared.kind.KeyKind.TheVariants.{Text}
use Rattle.bfs_super.specs.Conditions.{IsValid, natural}
use Rattle.bfs_super.specs.Geometry.{geometry_of}
use Rattle.bfs_super.specs.declared.geometry.Geometry.{Geometry}
use Rattle.bfs_super.specs.declared.sup.Super.{Super}
use Rattle.bfs_bitmap.specs.Fills.{IsBitmapBlock}
use Rattle.bfs_bitmap.specs.Runs.{Room, HasBitmap}
use Rattle.bfs_node.specs.Page.{Row}
use Rattle.bfs_pages.specs.Maps.{assoc, without}
use Rattle.bfs_stream.specs.Grown.{IsOfVolume}
use Rattle.bfs_stream.specs.Places.{frame_at, places_at}
use Rattle.bfs_stream.specs.Sizes.{Origin, sizes_of}
use Rattle.bfs_stream.specs.Told.{contents, Stands}
use Rattle.bfs_stream.proofs.Doubles.{times-append}
use Rattle.bfs_stream_pages.specs.Moves.{Moved}
use Rattle.bfs_stream_pages.specs.MovesLaws.{whole_moves}
use Rattle.bfs_tree.specs.Trees.{Node, Tree, is_file}
use Rattle.bfs_maps.specs.Laws.{DiffersAt}
use Rattle.bfs_maps.specs.Mapped.{HasHeld, rows_of}
use Rattle.bfs_maps.specs.RowTrees.{IsRowTree}
use Rattle.bfs_sound.specs.Volumes.{Volume, sizes, bitmap_blocks, IsMarked}
use Rattle.bfs_sound.specs.Inodes.{frame_blocks, stream_blocks, inode_blocks, inodes_of, index_directory, id_of, proper_rows}
use Rattle.bfs_sound.specs.Owners.{node_blocks, index_blocks, file_data, reach}
use Rattle.bfs_sound.proofs.Counts.{In, times_member}
use Rattle.bfs_sound.proofs.Streams.{frame_of_whole, frame_stays, blocks_stay, stream_stays}
use Rattle.bfs_shift.specs.Inodes.{HasBytes}
use Rattle.bfs_shift.specs.Lists.{Lists, with_names}
use Rattle.bfs_shift.specs.Stocked.{Stocked, Shifts}
use Rattle.bfs_shift.specs.Shifts.{volume_in}
use Rattle.bfs_shift.specs.StreamLaws.{IsDirectoryNow}
use Rattle.bfs_shift.specs.Work.{IsAtWork, GoesOn, IsStepped, MayBeWritten}
use Rattle.bfs_shift.proofs.Basics.{some_bytes, bitmap_has, or_told}
use Rattle.bfs_shift.proofs.Files.{unfiled, files_same, stream_same, bytes_same, marks_stay, told_since, entered_since, reserved_stays}
use Rattle.bfs_shift.proofs.Frees.{other_indices}
use Rattle.bfs_shift.proofs.IndexMoves.{index_left, left_differs}
use Rattle.bfs_shift.proofs.Moves.{moved_shifts}
use Rattle.bfs_shift.proofs.Moving.{all_parts, part_stays}
use Rattle.bfs_shift.proofs.Names.{is_there, names_before}
use Rattle.bfs_shift.proofs.OneIndex.{found_row}
use Rattle.bfs_moves.specs.Written.{HasBlockWords, HasStreamSince}
use Rattle.bfs_moves.proofs.Found.{none_found}
use Rattle.bfs_moves.proofs.Listed.{index_held}
use Rattle.bfs_remove_index.specs.Removed.{HasIndexTaken, without_index}

-- the blocks of the index directory are among those of all indices
pub directory_few : (v : Volume) → v.geometry.indices ≢ 0 → (k : ℕ) → times k (inode_blocks v v.geometry.indices) ≤ times k (index_blocks v)
unfolding index_blocks
directory_few v there k = times_member k (inode_blocks v) (inodes_of v (index_directory v)) v.geometry.indices (subst (λ (o : Option ℕ). In v.geometry.indices (inodes_of v o)) (sym (is_there v there)) (inl refl))

-- beside them are those of an index that a row names
both_few : (v : Volume) (tree : Tree) (lists : Lists) (loose : List ℕ) → Stocked v tree lists loose → v.geometry.indices ≢ 0 → (name : List ℕ) (inode : ℕ) → assoc Text lists.names name ≡ Some (pos inode)
    → (k : ℕ) → times k (inode_blocks v v.geometry.indices) + times k (inode_blocks v inode) ≤ times k (index_blocks v)
unfolding index_blocks
both_few v tree lists loose stocked there name inode row k =
    let d = v.geometry.indices in
    let f : Row → List ℕ = λ (r : Row). inode_blocks v (id_of r) in
    let all : times k (flat_map (inode_blocks v) (inodes_of v (index_directory v))) ≡ times k (inode_blocks v d) + times k (flat_map f lists.names) =
    ap (λ (o : Option ℕ). times k (flat_map (inode_blocks v) (inodes_of v o))) (is_there v there)
    ∙ times-append k (inode_blocks v d) (flat_map (inode_blocks v) (map id_of (proper_rows v d)))
    ∙ ap (λ (l : List ℕ). times k (inode_blocks v d) + times k l) (flat_map-map (inode_blocks v) id_of (proper_rows v d) ∙ ap (flat_map f) (names_before v tree lists loose stocked there)) in
    let found : (r : Row) × In r lists.names × (r.0 ≡ name) × (r.1 ≡ pos inode) = found_row lists.names name (pos inode) row in
    let member : times k (inode_blocks v (natural found.0.1)) ≤ times k (flat_map f lists.names) = times_member k f lists.names found.0 found.1 in
    let one : times k (inode_blocks v inode) ≤ times k (flat_map f lists.names) = subst (λ (z : ℤ). times k (inode_blocks v (natural z)) ≤ times k (flat_map f lists.names)) found.3 member in
    omega (arith, all, one)

module _ (s : Super) (v now : Room) (m : ℕ → Option (List ℕ)) (tree : Tree) (lists : Lists) (name : List ℕ) (inode : ℕ) (told : Option (ℕ → Option (List ℕ))) (old new : ℕ → Bool) (valid : IsValid s)
    (work : IsAtWork (geometry_of s) v m tree lists []) (row : assoc Text lists.names name ≡ Some (pos inode))
    (written : HasStreamSince (record { id = (geometry_of s).indices; sizes = sizes_of s }) v now m (IsRowTree Text (without Text (rows_of Text (record { id = (geometry_of s).indices; sizes = sizes_of s }) m) name)) told old new)
    (words : HasBlockWords (contents written.since.map (geometry_of s).indices)) where
  abbrev g : Geometry
  g = geometry_of s

  abbrev d : ℕ
  d = g.indices

  abbrev o : Origin
  o = record { id = d; sizes = sizes_of s }

  abbrev was : Volume
  was = volume_in g m

  abbrev map_now : ℕ → Option (List ℕ)
  map_now = written.since.map

  abbrev is_now : Volume
  is_now = volume_in g map_now

  abbrev xs : List ℕ
  xs = inode_blocks was d

  abbrev ys : List ℕ
  ys = inode_blocks is_now d

  abbrev zs : List ℕ
  zs = inode_blocks was inode

  abbrev after : Tree
  after = without_index tree name

  abbrev names_now : List Row
  names_now = proper_rows is_now d

  abbrev since : Lists
  since = with_names lists names_now

  some : 0 < s.block_size
  some = some_bytes s valid

  there : d ≢ 0
  there none = let gone = none_found s v m tree lists [] valid work name none in let bad : Some (pos inode) ≡ None = sym row ∙ gone in cc

  moved : Moved o v now m map_now
  moved = written.since.moved

  both : (k : ℕ) → times k xs + times k zs ≤ times k (index_blocks was)
  both = both_few was tree lists [] work.stocked there name inode row

  directory_marked : (k : ℕ) → Has xs k → IsMarked was k
  directory_marked k h = (work.stocked.marks k).1 (
      let has : 0 < times k xs = h in
      let f = both k in
      let p = all_parts was tree lists [] work.stocked k in
      let r : 0 < times k (reach was tree ++ []) = omega (arith, has, f, p) in r)

  shift : Shifts was (contents map_now) xs ys
  shift = moved_shifts g d v now m map_now work.volume some moved directory_marked

  bytes : HasBytes (contents m d) (contents map_now d)
  bytes = record { long = (let l = written.before.long in omega (arith, l)); before = written.before.words; after = words.words }

  directory_now : IsDirectoryNow was (contents map_now) d
  directory_now = record { kept = moved.kept; bytes = bytes; stream = moved.owns.stands.sound; tree = written.since.bytes.tree }

  left : Stocked is_now tree since (zs ++ [])
  left = index_left was tree lists [] (contents map_now) name (pos inode) work.stocked there row shift directory_now written.since.bytes.rows_are

  differs : DiffersAt Text lists.names names_now name None
  differs = left_differs was tree lists [] (contents map_now) name (pos inode) work.stocked there row shift directory_now written.since.bytes.rows_are

  stocked : Stocked is_now after since (zs ++ [])
  stocked = other_indices is_now tree after since (zs ++ []) refl left

  apart : (e : ℕ × Node) → In e (entries tree.nodes) → is_file e.1.kind ≡ true → (k : ℕ) → times k (node_blocks was e) + (times k xs + times k (bitmap_blocks g)) ≤ times k (reach was tree ++ [])
  apart e i f k =
      let p = all_parts was tree lists [] work.stocked k in
      let n : times k (node_blocks was e) ≤ times k (flat_map (node_blocks was) (entries tree.nodes)) = times_member k (node_blocks was) (entries tree.nodes) e i in
      let b = both k in
      omega (arith, p, n, b)

  same : file_data is_now tree ≡ file_data was tree
  same = files_same was tree lists [] work.stocked (contents map_now) xs ys shift apart

  bitmap_now : HasBitmap v map_now
  bitmap_now = let h : HasBitmap (record v { tally = now.tally }) map_now = subst (λ (x : Room). HasBitmap x map_now) moved.rest moved.owns.fits.has in record { told = h.told }

  or_is : (k : ℕ) → times k ys ≡ 0 → (map_now k ≡ m k) ⊎ IsSome (map_now k)
  or_is k none = or_told v m map_now k bitmap_now (λ out. moved.others k out none) (λ at. ap map_now at ∙ moved.first (subst (λ (j : ℕ). times j ys ≡ 0) at none) ∙ sym (ap m at))

  ours : (k : ℕ) → Has ys k → IsSome (map_now k)
  ours k h = by_count (times k (frame_at (sizes g) (contents map_now) d)) refl
    where
      has : 0 < times k ys
      has = h

      by_count : (c : ℕ) → times k (frame_at (sizes g) (contents map_now) d) ≡ c → IsSome (map_now k)
      by_count zero e = written.since.held.1.told k (let p = times-append k (frame_at (sizes g) (contents map_now) d) (places_at (sizes g) (contents map_now) d) in let r : 0 < times k (places_at (sizes g) (contents map_now) d) = omega (arith, has, p, e) in r)
      by_count (suc c) e = moved.owns.stands.told k (let r : 0 < times k (frame_at (sizes g) (contents map_now) d) = omega (arith, e) in r)

  work_now : IsAtWork g now map_now after since (zs ++ [])
  work_now = record {
    volume = subst (IsOfVolume (sizes g)) (sym moved.rest) (record { block_size = work.volume.block_size; blocks = work.volume.blocks; group_blocks = work.volume.group_blocks });
    fits = moved.owns.fits;
    counted = moved.counted work.counted;
    stocked = stocked;
    told = told_since g m map_now tree after lists since [] (zs ++ []) xs ys work.stocked stocked shift (λ k. ap (times k) (sym same)) work.told or_is (λ k h none. ours k h) (λ k. omega arith);
  }

  was_reached : (k : ℕ) → Has xs k → 0 < times k (reach was tree)
  was_reached k h = let r : 0 < times k (reach was tree ++ []) = (work.stocked.marks k).0 (directory_marked k h) in let a = times-append k (reach was tree) [] in omega (arith, r, a)

  own : (k : ℕ) → Has ys k → MayBeWritten is_now after k
  own k h = unfiled is_now after since (zs ++ []) stocked k (let has : 0 < times k ys = h in let f = directory_few is_now there k in omega (arith, has, f))

  goes_on : GoesOn g v now m map_now tree after old new
  goes_on = record {
    rest = moved.rest;
    marked = marks_stay was (contents map_now) xs ys shift (λ k h. whole_moves o v now m map_now moved k h);
    files = λ id x is f. (record { node = x; there = is; kind = refl; size = refl }, stream_same was tree lists [] work.stocked (contents map_now) xs ys shift apart id x is f);
    same_data = λ k. ap (times k) (sym same);
    bytes = bytes_same was tree lists [] work.stocked (contents map_now) xs ys shift apart;
    written = λ k h. by_cause k (written.since.written k h);
    kept = written.since.stays;
    entered = entered_since g m map_now tree after lists since [] (zs ++ []) xs ys work.stocked stocked shift (λ k. ap (times k) (sym same)) work.told or_is (λ k h none. ours k h) (λ k. omega arith) new (λ k h left' none. written.since.fresh k h none) (λ k h left'. was_reached k h);
    reserved = reserved_stays was (contents map_now) xs ys v m shift directory_marked moved.were_free;
  }
    where
      by_cause : (k : ℕ) → (old k ≡ true) ⊎ (IsBitmapBlock v k ⊎ Has ys k) → (old k ≡ true) ⊎ (MayBeWritten is_now after k)
      by_cause k (inl e) = inl e
      by_cause k (inr (inl bit)) = inr (unfiled is_now after since (zs ++ []) stocked k (let b : 0 < times k (bitmap_blocks g) = bitmap_has g v k work.volume some bit in omega (arith, b)))
      by_cause k (inr (inr h)) = inr (own k h)

  step : IsStepped g v now m tree after since (zs ++ []) told old new
  step = record { map = map_now; is = written.since.is; work = work_now; goes_on = goes_on }

  -- the index's own blocks stay
  agree : Agree was.blocks (contents map_now) zs
  agree = part_stays was tree lists [] work.stocked (contents map_now) xs ys shift zs (λ k. let b = both k in let p = all_parts was tree lists [] work.stocked k in omega (arith, b, p))

  frame_agree : Agree was.blocks (contents map_now) (frame_blocks was inode)
  frame_agree = frame_of_whole was (contents map_now) g.used inode agree

  frame_same : frame_blocks is_now inode ≡ frame_blocks was inode
  frame_same = frame_stays was (contents map_now) g.used inode frame_agree

  blocks_same : inode_blocks is_now inode ≡ zs
  blocks_same = blocks_stay was (contents map_now) g.used inode frame_agree

  was_held : HasHeld (record { id = inode; sizes = sizes_of s }) v m
  was_held = index_held s v m tree lists [] inode name valid work row

  frame_told : (k : ℕ) → Has (frame_blocks is_now inode) k → IsSome (map_now k)
  frame_told k h = by_stay (or_is k none)
    where
      has : 0 < times k (frame_blocks was inode)
      has = subst (λ (l : List ℕ). 0 < times k l) frame_same h

      none : times k ys ≡ 0
      none =
          let f = directory_few is_now there k in
          let p = all_parts is_now after since (zs ++ []) stocked k in
          let o : times k (reach is_now after ++ (zs ++ [])) ≤ 1 = stocked.once k in
          let a = times-append k zs [] in
          let b : times k zs ≡ times k (frame_blocks was inode) + times k (stream_blocks was inode) = times-append k (frame_blocks was inode) (stream_blocks was inode) in
          omega (arith, f, p, o, a, b, has)

      by_stay : (map_now k ≡ m k) ⊎ IsSome (map_now k) → IsSome (map_now k)
      by_stay (inl e) = subst IsSome (sym e) (was_held.1.owns.stands.told k has)
      by_stay (inr t) = t

  stands_now : Stands (record { id = inode; sizes = sizes_of s }) map_now
  stands_now = record { told = frame_told; sound = stream_stays was (contents map_now) g.used inode frame_agree was_held.1.owns.stands.sound }

  pub index_taken : HasIndexTaken g v now m tree lists name inode told old new
  unfolding step
  index_taken = record { names = names_now; step = step; differs = differs; same = blocks_same; stands = stands_now }
