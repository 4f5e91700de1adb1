-- The name of a new index was put into the index directory.
use Rattle.std.proofs.Common.{◌≡◌, ◌≢◌, ◌≤◌, ◌<◌, ◌+◌, ◌⊎◌, inl, inr, ℕ, zero, suc, pos, List, [], ◌++◌, length, codes, refl, sym, ap, ◌∙◌, subst, arith, Bool, true, false, Option, Some, None}
use Rattle.std.specs.Prelude.{IsSome, not, ◌||◌, ◌==◌, nat_lt}
use Rattle.std.specs.List.{flat_map}
use Rattle.std.specs.Str.{bytes_eq, is_utf8}
use Rattle.std.specs.FinMap.{entries}
use Rattle.bfs_base.specs.Lists.{times, Has}
use Rattle.bfs_base.specs.declared.kind.KeyKind.{KeyKind}
use Rattle.bfs_base.specs.declared.kind.KeyKind.TheVariants.{Text}
use Rattle.bfs_super.specs.Conditions.{IsValid}
use Rattle.bfs_super.specs.Geometry.{geometry_of}
use Rattle.bfs_super.specs.declared.geometry.Geometry.{Geometry}
use Rattle.bfs_super.specs.declared.sup.Super.{Super}
use Rattle.bfs_bitmap.specs.Fills.{IsBitmapBlock}
use Rattle.bfs_bitmap.specs.Runs.{Room, HasBitmap}
use Rattle.bfs_node.specs.Page.{Row}
use Rattle.bfs_pages.specs.Maps.{assoc, put}
use Rattle.bfs_stream.specs.Grown.{IsOfVolume}
use Rattle.bfs_stream.specs.Places.{frame_at, places_at}
use Rattle.bfs_stream.specs.Sizes.{Origin, sizes_of}
use Rattle.bfs_stream.specs.Told.{contents, AreTold}
use Rattle.bfs_stream.proofs.Doubles.{times-append}
use Rattle.bfs_stream_pages.specs.Moves.{Moved}
use Rattle.bfs_stream_pages.specs.MovesLaws.{whole_moves}
use Rattle.bfs_tree.specs.Names.{is_bad_name, has_byte}
use Rattle.bfs_tree.specs.Trees.{Node, Tree, is_file}
use Rattle.bfs_maps.specs.Laws.{DiffersAt}
use Rattle.bfs_maps.specs.Mapped.{HasHeld, rows_of}
use Rattle.bfs_maps.specs.RowTrees.{IsRowTree, HasTree}
use Rattle.bfs_values.specs.Rows.{rows_in}
use Rattle.bfs_sound.specs.Volumes.{Volume, sizes, bitmap_blocks, IsMarked}
use Rattle.bfs_sound.specs.Inodes.{content, inode_blocks, is_proper, proper_rows}
use Rattle.bfs_sound.specs.Listings.{IsIndex, HasIndexDirectory}
use Rattle.bfs_sound.specs.Owners.{node_blocks, index_blocks, file_data, fixed_blocks, reach, IsMetadata}
use Rattle.bfs_sound.proofs.Counts.{In, times_member}
use Rattle.bfs_shift.specs.Inodes.{HasBytes}
use Rattle.bfs_shift.specs.Lists.{Lists, with_names, with_index}
use Rattle.bfs_shift.specs.Stocked.{Stocked, Shifts}
use Rattle.bfs_shift.specs.Shifts.{volume_in}
use Rattle.bfs_shift.specs.StreamLaws.{IsDirectoryNow}
use Rattle.bfs_shift.specs.Work.{IsAtWork, GoesOn, MayBeWritten}
use Rattle.bfs_shift.proofs.Basics.{some_bytes, bitmap_has, or_told}
use Rattle.bfs_shift.proofs.Files.{unfiled, files_same, stream_same, bytes_same, marks_stay, reserved_stays, all_split}
use Rattle.bfs_shift.proofs.Frees.{other_indices}
use Rattle.bfs_shift.proofs.Held.{owner_held}
use Rattle.bfs_shift.proofs.IndexMoves.{index_joined, joined_differs}
use Rattle.bfs_shift.proofs.Moves.{moved_shifts}
use Rattle.bfs_shift.proofs.Moving.{all_parts}
use Rattle.bfs_shift.proofs.Names.{is_there, names_before}
use Rattle.bfs_shift.proofs.Owners.{names_own}
use Rattle.bfs_shift.proofs.Puts.{kept_finds}
use Rattle.bfs_moves.specs.Written.{HasBlockWords, HasStreamSince}
use Rattle.bfs_remove_index.proofs.Taken.{directory_few}
use Rattle.bfs_index_make.specs.Made.{IsToJoin, HasIndexJoined, with_new_index}

neither : (a b : Bool) → (a || b) ≡ false → (a ≡ false) × (b ≡ false)
neither true b e = absurd (let bad : true ≡ false = e in cc)
neither false b e = (refl, e)

-- a name that isn't bad isn't `.` or `..`
pub good_proper : (name : List ℕ) → is_bad_name name ≡ false → is_proper name ≡ true
good_proper name good =
    let last = neither ((length name == 0) || nat_lt 255 (length name) || not (is_utf8 name) || has_byte 47 name || has_byte 0 name || bytes_eq name (codes ".")) (bytes_eq name (codes "..")) good in
    let dot = neither ((length name == 0) || nat_lt 255 (length name) || not (is_utf8 name) || has_byte 47 name || has_byte 0 name) (bytes_eq name (codes ".")) last.0 in
    ap (λ (b : Bool). not (b || bytes_eq name (codes ".."))) dot.1 ∙ ap (λ (b : Bool). not (false || b)) last.1

-- the index directory of a volume at work
module _ (s : Super) (v : Room) (m : ℕ → Option (List ℕ)) (tree : Tree) (lists : Lists) (loose : List ℕ) (valid : IsValid s) (work : IsAtWork (geometry_of s) v m tree lists loose) (there : (geometry_of s).indices ≢ 0) where
  abbrev at : Geometry
  at = geometry_of s

  abbrev volume : Volume
  volume = volume_in at m

  abbrev origin : Origin
  origin = record { id = at.indices; sizes = sizes_of s }

  directory_told : AreTold m (inode_blocks volume at.indices)
  directory_told k h =
      let has : 0 < times k (inode_blocks volume at.indices) = h in
      let f = directory_few volume there k in
      let p = all_split volume tree lists loose work.stocked k in
      let a = times-append k (reach volume tree) loose in
      let most : times k (reach volume tree ++ loose) ≤ 1 = work.stocked.once k in
      let reached : 0 < times k (reach volume tree) = omega (arith, has, f, p, a) in
      work.told k (reached, omega (arith, has, f, p, most)) (omega (arith, has, f, p, most))

  pub directory_held : HasHeld origin v m
  directory_held = owner_held at v m at.indices (names_own at v m tree lists loose work.stocked work.volume (some_bytes s valid) work.fits there directory_told) directory_told

  pub directory_tree : HasTree Text origin v m
  directory_tree = let i : IsIndex volume at.indices Text = subst (HasIndexDirectory volume) (is_there volume there) work.stocked.directory in record { held = directory_held; tree = i.tree }

  -- a name that has no row in the lists has none there
  pub none_there : (name : List ℕ) → is_proper name ≡ true → assoc Text lists.names name ≡ None → assoc Text (rows_of Text origin m) name ≡ None
  none_there name proper none =
      sym (kept_finds is_proper (rows_in Text (content volume at.indices)) name proper) ∙ ap (λ (rows : List Row). assoc Text rows name) (names_before volume tree lists loose work.stocked there) ∙ none

module _ (s : Super) (v now : Room) (m : ℕ → Option (List ℕ)) (tree : Tree) (lists : Lists) (kind : KeyKind) (name : List ℕ) (id : ℕ) (told : Option (ℕ → Option (List ℕ))) (old new : ℕ → Bool) (valid : IsValid s) (proper : is_proper name ≡ true)
    (ready : IsToJoin (geometry_of s) v m tree lists kind name id old)
    (written : HasStreamSince (record { id = (geometry_of s).indices; sizes = sizes_of s }) v now m (IsRowTree Text (put Text (rows_of Text (record { id = (geometry_of s).indices; sizes = sizes_of s }) m) name (pos id))) told old new)
    (words : HasBlockWords (contents written.since.map (geometry_of s).indices)) where
  abbrev g : Geometry
  g = geometry_of s

  abbrev d : ℕ
  d = g.indices

  abbrev o : Origin
  o = record { id = d; sizes = sizes_of s }

  abbrev was : Volume
  was = volume_in g m

  abbrev map_now : ℕ → Option (List ℕ)
  map_now = written.since.map

  abbrev is_now : Volume
  is_now = volume_in g map_now

  abbrev xs : List ℕ
  xs = inode_blocks was d

  abbrev ys : List ℕ
  ys = inode_blocks is_now d

  abbrev own : List ℕ
  own = inode_blocks was id

  abbrev after : Tree
  after = with_new_index tree name kind

  abbrev names_now : List Row
  names_now = proper_rows is_now d

  abbrev since : Lists
  since = with_index (with_names lists names_now) name kind []

  work : IsAtWork g v m tree lists (own ++ [])
  work = ready.work

  some : 0 < s.block_size
  some = some_bytes s valid

  moved : Moved o v now m map_now
  moved = written.since.moved

  few : (k : ℕ) → times k xs ≤ times k (index_blocks was)
  few k = directory_few was ready.there k

  loose_is : (k : ℕ) → times k (own ++ []) ≡ times k own
  loose_is k = let a : times k (own ++ []) ≡ times k own + 0 = times-append k own [] in omega (arith, a)

  directory_marked : (k : ℕ) → Has xs k → IsMarked was k
  directory_marked k h = (work.stocked.marks k).1 (
      let has : 0 < times k xs = h in
      let f = few k in
      let p = all_parts was tree lists (own ++ []) work.stocked k in
      let r : 0 < times k (reach was tree ++ (own ++ [])) = omega (arith, has, f, p) in r)

  own_marked : (k : ℕ) → Has own k → IsMarked was k
  own_marked k h = (work.stocked.marks k).1 (
      let has : 0 < times k own = h in
      let l = loose_is k in
      let a = times-append k (reach was tree) (own ++ []) in
      let r : 0 < times k (reach was tree ++ (own ++ [])) = omega (arith, has, l, a) in r)

  -- the index's blocks are none of the directory's, before and after
  apart_before : (k : ℕ) → Has own k → times k xs ≡ 0
  apart_before k h =
      let has : 0 < times k own = h in
      let l = loose_is k in
      let f = few k in
      let p = all_parts was tree lists (own ++ []) work.stocked k in
      let one : times k (reach was tree ++ (own ++ [])) ≤ 1 = work.stocked.once k in
      omega (arith, has, l, f, p, one)

  shift : Shifts was (contents map_now) xs ys
  shift = moved_shifts g d v now m map_now work.volume some moved directory_marked

  apart_after : (k : ℕ) → Has own k → times k ys ≡ 0
  apart_after k h = by_count (times k ys) refl
    where
      by_count : (c : ℕ) → times k ys ≡ c → times k ys ≡ 0
      by_count zero e = e
      by_count (suc c) e = absurd (shift.fresh k (let r : 0 < times k ys = omega (arith, e) in r) (apart_before k h) (own_marked k h))

  bytes : HasBytes (contents m d) (contents map_now d)
  bytes = record { long = (let l = written.before.long in omega (arith, l)); before = written.before.words; after = words.words }

  directory_now : IsDirectoryNow was (contents map_now) d
  directory_now = record { kept = moved.kept; bytes = bytes; stream = moved.owns.stands.sound; tree = written.since.bytes.tree }

  joined : Stocked is_now tree since []
  joined = index_joined was tree lists own [] (contents map_now) name id kind [] work.stocked ready.there shift directory_now proper written.since.bytes.rows_are (λ k. refl) ready.listing

  differs : DiffersAt Text lists.names names_now name (Some (pos id))
  differs = joined_differs was tree lists own [] (contents map_now) name id kind [] work.stocked ready.there shift directory_now proper written.since.bytes.rows_are (λ k. refl) ready.listing

  stocked : Stocked is_now after since []
  stocked = other_indices is_now tree after since [] refl joined

  apart : (e : ℕ × Node) → In e (entries tree.nodes) → is_file e.1.kind ≡ true → (k : ℕ) → times k (node_blocks was e) + (times k xs + times k (bitmap_blocks g)) ≤ times k (reach was tree ++ (own ++ []))
  apart e i f k =
      let p = all_parts was tree lists (own ++ []) work.stocked k in
      let n : times k (node_blocks was e) ≤ times k (flat_map (node_blocks was) (entries tree.nodes)) = times_member k (node_blocks was) (entries tree.nodes) e i in
      let b = few k in
      omega (arith, p, n, b)

  same : file_data is_now tree ≡ file_data was tree
  same = files_same was tree lists (own ++ []) work.stocked (contents map_now) xs ys shift apart

  bitmap_now : HasBitmap v map_now
  bitmap_now = let h : HasBitmap (record v { tally = now.tally }) map_now = subst (λ (x : Room). HasBitmap x map_now) moved.rest moved.owns.fits.has in record { told = h.told }

  or_is : (k : ℕ) → times k ys ≡ 0 → (map_now k ≡ m k) ⊎ IsSome (map_now k)
  or_is k none = or_told v m map_now k bitmap_now (λ out. moved.others k out none) (λ at. ap map_now at ∙ moved.first (subst (λ (j : ℕ). times j ys ≡ 0) at none) ∙ sym (ap m at))

  ours : (k : ℕ) → Has ys k → IsSome (map_now k)
  ours k h = by_count (times k (frame_at (sizes g) (contents map_now) d)) refl
    where
      has : 0 < times k ys
      has = h

      by_count : (c : ℕ) → times k (frame_at (sizes g) (contents map_now) d) ≡ c → IsSome (map_now k)
      by_count zero e = written.since.held.1.told k (let p = times-append k (frame_at (sizes g) (contents map_now) d) (places_at (sizes g) (contents map_now) d) in let r : 0 < times k (places_at (sizes g) (contents map_now) d) = omega (arith, has, p, e) in r)
      by_count (suc c) e = moved.owns.stands.told k (let r : 0 < times k (frame_at (sizes g) (contents map_now) d) = omega (arith, e) in r)

  -- what was told and isn't the directory's is told
  still : (k : ℕ) → times k ys ≡ 0 → IsSome (m k) → IsSome (map_now k)
  still k none before = by_stay (or_is k none)
    where
      by_stay : (map_now k ≡ m k) ⊎ IsSome (map_now k) → IsSome (map_now k)
      by_stay (inl e) = subst IsSome (sym e) before
      by_stay (inr t) = t

  no_data : (k : ℕ) → IsMetadata is_now after k → times k (file_data was tree) ≡ 0
  no_data k is = let e : times k (file_data is_now tree) ≡ times k (file_data was tree) = ap (times k) same in let z : times k (file_data is_now tree) ≡ 0 = is.1 in omega (arith, e, z)

  -- metadata that isn't the index's or the directory's was metadata
  was_there : (k : ℕ) → IsMetadata is_now after k → times k own ≡ 0 → times k ys ≡ 0 → IsMetadata was tree k
  was_there k is not_own none = (by_cause ((shift.marks k).0 ((stocked.marks k).1 (let a = times-append k (reach is_now after) [] in let some_now : 0 < times k (reach is_now after) = is.0 in let r : 0 < times k (reach is_now after ++ []) = omega (arith, a, some_now) in r))), no_data k is)
    where
      by_cause : Has ys k ⊎ (IsMarked was k × (times k xs ≡ 0)) → 0 < times k (reach was tree)
      by_cause (inl h) = let has : 0 < times k ys = h in absurd (omega (arith, has, none))
      by_cause (inr before) =
          let h : 0 < times k (reach was tree ++ (own ++ [])) = (work.stocked.marks k).0 before.0 in
          let a = times-append k (reach was tree) (own ++ []) in
          let l = loose_is k in
          omega (arith, h, a, l, not_own)

  told_now : (k : ℕ) → IsMetadata is_now after k → times k (fixed_blocks is_now) ≡ 0 → IsSome (map_now k)
  told_now k is out = by_count (times k own) refl (times k ys) refl
    where
      by_count : (c : ℕ) → times k own ≡ c → (e : ℕ) → times k ys ≡ e → IsSome (map_now k)
      by_count (suc c) p e q = let h : Has own k = (let r : 0 < times k own = omega (arith, p) in r) in still k (apart_after k h) (ready.are_told k h)
      by_count zero p (suc e) q = ours k (let r : 0 < times k ys = omega (arith, q) in r)
      by_count zero p zero q = still k q (work.told k (was_there k is p q) out)

  work_now : IsAtWork g now map_now after since []
  work_now = record {
    volume = subst (IsOfVolume (sizes g)) (sym moved.rest) (record { block_size = work.volume.block_size; blocks = work.volume.blocks; group_blocks = work.volume.group_blocks });
    fits = moved.owns.fits;
    counted = moved.counted work.counted;
    stocked = stocked;
    told = told_now;
  }

  was_reached : (k : ℕ) → Has xs k → 0 < times k (reach was tree)
  was_reached k h =
      let has : 0 < times k xs = h in
      let f = few k in
      let p = all_parts was tree lists (own ++ []) work.stocked k in
      let a = times-append k (reach was tree) (own ++ []) in
      omega (arith, has, f, p, a)

  entered : (k : ℕ) → IsMetadata is_now after k → IsMetadata was tree k ⊎ (new k ≡ true)
  entered k is = by_count (times k own) refl (times k ys) refl
    where
      by_old : Has ys k → (c : ℕ) → times k xs ≡ c → IsMetadata was tree k ⊎ (new k ≡ true)
      by_old h zero e = inr (written.since.fresh k h e)
      by_old h (suc c) e = inl (was_reached k (let r : 0 < times k xs = omega (arith, e) in r), no_data k is)

      by_count : (c : ℕ) → times k own ≡ c → (e : ℕ) → times k ys ≡ e → IsMetadata was tree k ⊎ (new k ≡ true)
      by_count (suc c) p e q = inr (written.since.stays k (ready.are_changed k (let r : 0 < times k own = omega (arith, p) in r)))
      by_count zero p (suc e) q = by_old (let r : 0 < times k ys = omega (arith, q) in r) (times k xs) refl
      by_count zero p zero q = inl (was_there k is p q)

  may_write : (k : ℕ) → Has ys k → MayBeWritten is_now after k
  may_write k h = unfiled is_now after since [] stocked k (let has : 0 < times k ys = h in let f = directory_few is_now ready.there k in omega (arith, has, f))

  goes_on : GoesOn g v now m map_now tree after old new
  goes_on = record {
    rest = moved.rest;
    marked = marks_stay was (contents map_now) xs ys shift (λ k h. whole_moves o v now m map_now moved k h);
    files = λ j x is f. (record { node = x; there = is; kind = refl; size = refl }, stream_same was tree lists (own ++ []) work.stocked (contents map_now) xs ys shift apart j x is f);
    same_data = λ k. ap (times k) (sym same);
    bytes = bytes_same was tree lists (own ++ []) work.stocked (contents map_now) xs ys shift apart;
    written = λ k h. by_cause k (written.since.written k h);
    kept = written.since.stays;
    entered = entered;
    reserved = reserved_stays was (contents map_now) xs ys v m shift directory_marked moved.were_free;
  }
    where
      by_cause : (k : ℕ) → (old k ≡ true) ⊎ (IsBitmapBlock v k ⊎ Has ys k) → (old k ≡ true) ⊎ (MayBeWritten is_now after k)
      by_cause k (inl e) = inl e
      by_cause k (inr (inl bit)) = inr (unfiled is_now after since [] stocked k (let b : 0 < times k (bitmap_blocks g) = bitmap_has g v k work.volume some bit in omega (arith, b)))
      by_cause k (inr (inr h)) = inr (may_write k h)

  pub index_has_joined : HasIndexJoined g v now m tree lists kind name id told old new
  index_has_joined = record { names = names_now; step = record { map = map_now; is = written.since.is; work = work_now; goes_on = goes_on }; differs = differs }
