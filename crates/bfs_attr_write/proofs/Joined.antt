-- An attribute that was stored, and a row that was put for it: the attributes are those before, and this one.
use Rattle.std.proofs.Common.{◌≡◌, ◌⊎◌, inl, inr, ◌≤◌, ◌<◌, ◌+◌, ◌∙◌, ℕ, zero, suc, pos, List, [], ◌∷◌, ◌++◌, Bool, true, false, cond, Option, Some, None, refl, sym, ap, ap₂, subst, arith, map, drop}
use Rattle.std.specs.Prelude.{◌==◌, IsSome, unwrap_or}
use Rattle.std.specs.FinMap.{find, from_entries, insert}
use Rattle.std.specs.List.{filter, flat_map, AllByRecursion}
use Rattle.std.proofs.lemmas.List.{map-append, append_assoc}
use Rattle.std.proofs.lemmas.List.Elements.{filter-append}
use Rattle.bfs_base.specs.Keys.{text_cmp}
use Rattle.bfs_base.specs.Lists.{times, Has, IsOnce, Agree}
use Rattle.bfs_base.specs.declared.kind.KeyKind.TheVariants.{Text}
use Rattle.bfs_bitmap.specs.Fills.{IsBitmapBlock}
use Rattle.bfs_bitmap.specs.Runs.{Room, is_free}
use Rattle.bfs_bytes.specs.Fields.{run_in, unsigned_at}
use Rattle.bfs_inode.specs.Inode.{inode_at}
use Rattle.bfs_inode.specs.Refusals.{Names}
use Rattle.bfs_node.specs.Page.{Row}
use Rattle.bfs_pages.specs.Maps.{put}
use Rattle.bfs_smalldata.specs.Items.{Item, items_of}
use Rattle.bfs_stream.specs.Grown.{AreWritten}
use Rattle.bfs_stream.specs.Places.{whole_at}
use Rattle.bfs_stream.specs.Told.{contents}
use Rattle.bfs_stream.proofs.Doubles.{times-append}
use Rattle.bfs_stream.proofs.Frames.{has_first, has_right}
use Rattle.bfs_stream.proofs.Writes.{wrote_more, wrote_twice}
use Rattle.bfs_txn.specs.Told.{StaysChanged}
use Rattle.bfs_stream_pages.specs.Held.{stream_of}
use Rattle.bfs_stream_pages.specs.Moves.{Moved}
use Rattle.bfs_stream_pages.specs.MovesLaws.{whole_moves}
use Rattle.bfs_tree.specs.Trees.{Attribute}
use Rattle.bfs_values.specs.Rows.{rows_in}
use Rattle.bfs_values.proofs.RowLists.{put-split}
use Rattle.bfs_maps.specs.Mapped.{HasHeld, rows_of}
use Rattle.bfs_maps.specs.RowTrees.{IsRowTree}
use Rattle.bfs_sound.specs.Volumes.{Volume, sizes}
use Rattle.bfs_sound.specs.Owners.{In}
use Rattle.bfs_sound.specs.Inodes.{is_proper, proper_rows, id_of, HasBit, mode_bits, IsOwner}
use Rattle.bfs_sound.specs.Nodes.{AreApart}
use Rattle.bfs_sound.specs.Attributes.{Named, attributes_in, attributes_of, attribute_at, attribute_directory, attribute_inodes, HasDirectory, IsAttributeDirectory, IsAttributeRow}
use Rattle.bfs_sound.proofs.Counts.{has_member}
use Rattle.bfs_sound.proofs.Rows.{directory_same, inodes_stay, mode_stays}
use Rattle.bfs_sound.proofs.Streams.{frame_of_whole, block_stays, owner_stays}
use Rattle.bfs_make.specs.Made.{IsNewStream}
use Rattle.bfs_attr.specs.Bearers.{Bearer, volume_at, origin, HasAttributes, entries_with, entries_at, attributes_at}
use Rattle.bfs_attr.specs.Changed.{attribute_blocks, Holds, AttributesNow}
use Rattle.bfs_attr.specs.Made.{IsAttributeInode}
use Rattle.bfs_attr_write.specs.Adding.{HasRowPut}
use Rattle.bfs_attr_write.specs.Exchanged.{Exchanged}
use Rattle.bfs_attr_write.proofs.Exchanges.{exchanged_as, exchanged_beside, exchanged_twice}
use Rattle.bfs_attr_write.proofs.Brings.{moved_exchange}
use Rattle.bfs_attr_write.proofs.Beside.{each_of, still_used, come_used, still_outside, bits_used, block_same, once_beside, agree_beside, whole_beside, held_beside}
use Rattle.bfs_attr_write.proofs.Entries.{filter_joined, all_joined, times_joined, none_named, apart_joined, map_joined}
use Rattle.bfs_attr_write.proofs.Kept.{word_kept, inode_kept, in_joined, rows_still, named_still, attribute_still}
use Rattle.bfs_attr_write.proofs.Begun.{begun, stream_begun, agree_begun, whole_begun, bearer_begun, is_directory, among, bytes_begun}

module _ (b : Bearer) (v mid now : Room) (m m1 map' : ℕ → Option (List ℕ)) (holds : Holds b v m) (new d : ℕ) (fresh : IsNewStream (origin b.geometry new) v mid m m1) (dir : attribute_directory (volume_at b.geometry m) b.id ≡ Some d)
    (filled : HasHeld (origin b.geometry new) mid m1) (name : List ℕ) (attribute : Attribute) (inode : IsAttributeInode (volume_at b.geometry m1) new attribute) (low : new < b.geometry.blocks)
    (proper : is_proper name ≡ true) (unknown : find text_cmp name (entries_at (volume_at b.geometry m) b.id) ≡ None)
    (held : HasHeld (origin b.geometry d) now map') (tree : IsRowTree Text (put Text (rows_of Text (origin b.geometry d) m1) name (pos new)) (stream_of (origin b.geometry d) map')) (moved : Moved (origin b.geometry d) mid now m1 map') where
  abbrev volume : Volume
  volume = volume_at b.geometry m

  abbrev between : Volume
  between = volume_at b.geometry m1

  abbrev since : Volume
  since = volume_at b.geometry map'

  abbrev made : List ℕ
  made = whole_at (sizes b.geometry) (contents m1) new

  abbrev before : List ℕ
  before = whole_at (sizes b.geometry) (contents m) d

  abbrev middle : List ℕ
  middle = whole_at (sizes b.geometry) (contents m1) d

  abbrev after : List ℕ
  after = whole_at (sizes b.geometry) (contents map') d

  abbrev row : Row
  row = (name, pos new)

  abbrev is_row : Row → Bool
  is_row r = is_proper r.0

  first : Exchanged v mid m m1 [] made
  first = begun b v mid m m1 holds new d fresh dir

  second : Exchanged mid now m1 map' middle after
  second = moved_exchange (origin b.geometry d) mid now m1 map' moved

  middle_is : middle ≡ before
  middle_is = whole_begun b v mid m m1 holds new d fresh dir d (among b v mid m m1 holds new d fresh dir)

  -- where the row was put
  split : (front : List Row) × (back : List Row) × (rows_of Text (origin b.geometry d) m1 ≡ front ++ back) × (put Text (rows_of Text (origin b.geometry d) m1) name (pos new) ≡ front ++ (row ∷ back))
  split = put-split Text (rows_of Text (origin b.geometry d) m1) name (pos new)

  fronts : List Row
  fronts = filter is_row split.0

  backs : List Row
  backs = filter is_row split.1

  rows_before : proper_rows volume d ≡ fronts ++ backs
  unfolding fronts split backs
  rows_before =
      ap (λ (bytes : List ℕ). filter is_row (rows_in Text bytes)) (sym (bytes_begun b v mid m m1 holds new d fresh dir))
      ∙ ap (filter is_row) split.2 ∙ filter-append is_row split.0 split.1

  rows_since : proper_rows since d ≡ fronts ++ (row ∷ backs)
  unfolding fronts split backs
  rows_since = ap (filter is_row) (tree.rows_are ∙ split.3) ∙ filter_joined is_row split.0 split.1 row proper

  abbrev others : List ℕ
  others = flat_map (whole_at (sizes b.geometry) (contents m)) (map id_of (fronts ++ backs))

  ids_before : attribute_inodes volume (attribute_directory volume b.id) ≡ d ∷ map id_of (fronts ++ backs)
  ids_before = ap (attribute_inodes volume) dir ∙ ap (λ (l : List Row). d ∷ map id_of l) rows_before

  other_in : (k : ℕ) → In k (map id_of (fronts ++ backs)) → In k (attribute_inodes volume (attribute_directory volume b.id))
  other_in k is = subst (λ (l : List ℕ). In k l) (sym ids_before) (inr is)

  blocks_before : attribute_blocks b.geometry m b.id ≡ b.id ∷ (before ++ others)
  blocks_before = ap (λ (l : List ℕ). b.id ∷ flat_map (whole_at (sizes b.geometry) (contents m)) l) ids_before

  abbrev rest : List ℕ
  rest = b.id ∷ others

  count_before : (k : ℕ) → times k (attribute_blocks b.geometry m b.id) ≡ times k rest + times k before
  count_before k =
      let a : times k (attribute_blocks b.geometry m b.id) ≡ cond (b.id == k) 1 0 + times k (before ++ others) = ap (times k) blocks_before in
      let p = times-append k before others in
      let c : ℕ = cond (b.id == k) 1 0 in
      let r : times k rest ≡ cond (b.id == k) 1 0 + times k others = refl in
      omega (arith, a, p, r)

  rest_taken : (k : ℕ) → Has rest k → is_free v m k ≡ false
  rest_taken k has = let c = count_before k in let h : 0 < times k rest = has in holds.taken k (let s : 0 < times k (attribute_blocks b.geometry m b.id) = omega (arith, c, h) in s)

  -- the rest isn't the directory's
  rest_apart : (k : ℕ) → Has rest k → times k middle ≡ 0
  rest_apart k has =
      let c = count_before k in
      let h : 0 < times k rest = has in
      let one : times k (attribute_blocks b.geometry m b.id) ≤ 1 = holds.once k in
      let z : times k before ≡ 0 = omega (arith, c, h, one) in
      ap (times k) middle_is ∙ z

  made_apart : (k : ℕ) → Has made k → times k middle ≡ 0
  made_apart k has = by_count (times k before) refl
    where
      by_count : (n : ℕ) → times k before ≡ n → times k middle ≡ 0
      by_count zero z = ap (times k) middle_is ∙ z
      by_count (suc n) z =
          let c = count_before k in
          let used : is_free v m k ≡ false = holds.taken k (let s : 0 < times k (attribute_blocks b.geometry m b.id) = omega (arith, c, z) in s) in
          let bad : true ≡ false = sym (fresh.were_free k has) ∙ used in cc

  other_apart : (x : ℕ) → In x (map id_of (fronts ++ backs)) → (k : ℕ) → Has (whole_at (sizes b.geometry) (contents m1) x) k → times k middle ≡ 0
  other_apart x is k has =
      let same = whole_begun b v mid m m1 holds new d fresh dir x (other_in x is) in
      let here : Has others k = has_member (whole_at (sizes b.geometry) (contents m)) (map id_of (fronts ++ backs)) x k is (subst (λ (l : List ℕ). Has l k) same has) in
      rest_apart k (let h : 0 < times k others = here in let c : ℕ = cond (b.id == k) 1 0 in let s : 0 < cond (b.id == k) 1 0 + times k others = omega (arith, h) in s)

  stream_other : (x : ℕ) → In x (map id_of (fronts ++ backs)) → HasHeld (origin b.geometry x) now map'
  stream_other x is =
      let h = stream_begun b v mid m m1 holds new d fresh dir x (other_in x is) in
      (h.0, held_beside mid now m1 map' middle after second (origin b.geometry x) h.0 h.1 (other_apart x is))

  stream_new : HasHeld (origin b.geometry new) now map'
  stream_new = (filled.0, held_beside mid now m1 map' middle after second (origin b.geometry new) filled.0 filled.1 made_apart)

  agree_new : Agree (contents m1) (contents map') made
  agree_new = agree_beside mid now m1 map' middle after second (origin b.geometry new) filled.0 filled.1 made_apart

  whole_new : whole_at (sizes b.geometry) (contents map') new ≡ made
  whole_new = whole_beside mid now m1 map' middle after second (origin b.geometry new) filled.0 filled.1 made_apart

  agree_others : Agree (contents m) (contents map') others
  agree_others = each_of (λ (k : ℕ). contents map' k ≡ contents m k) (whole_at (sizes b.geometry) (contents m)) (map id_of (fronts ++ backs)) (λ x is k has.
      let h = stream_begun b v mid m m1 holds new d fresh dir x (other_in x is) in
      let same = whole_begun b v mid m m1 holds new d fresh dir x (other_in x is) in
      agree_beside mid now m1 map' middle after second (origin b.geometry x) h.0 h.1 (other_apart x is) k (subst (λ (l : List ℕ). Has l k) (sym same) has)
      ∙ agree_begun b v mid m m1 holds new d fresh dir x (other_in x is) k has)

  bearer_same : map' b.id ≡ m b.id
  bearer_same =
      block_same mid now m1 map' middle after second b.id (still_outside v mid m m1 [] made first b.id holds.outside)
      (still_used v mid m m1 [] made first b.id (rest_taken b.id (has_first b.id others))) (rest_apart b.id (has_first b.id others))
      ∙ bearer_begun b v mid m m1 holds new d fresh dir

  bearer_bytes : contents map' b.id ≡ contents m b.id
  bearer_bytes = ap (λ (o : Option (List ℕ)). unwrap_or o []) bearer_same

  directory_since : attribute_directory since b.id ≡ Some d
  directory_since = directory_same volume (contents map') b.geometry.used b.id bearer_bytes ∙ dir

  ids_since : attribute_inodes since (attribute_directory since b.id) ≡ d ∷ map id_of (fronts ++ (row ∷ backs))
  ids_since = ap (attribute_inodes since) directory_since ∙ ap (λ (l : List Row). d ∷ map id_of l) rows_since

  others_since : flat_map (whole_at (sizes b.geometry) (contents map')) (map id_of (fronts ++ backs)) ≡ others
  others_since = inodes_stay volume (contents map') b.geometry.used (map id_of (fronts ++ backs)) agree_others

  count_rows : (k : ℕ) → times k (flat_map (whole_at (sizes b.geometry) (contents map')) (map id_of (fronts ++ (row ∷ backs)))) ≡ times k made + times k others
  count_rows k =
      ap (λ (l : List ℕ). times k (flat_map (whole_at (sizes b.geometry) (contents map')) l)) (map-append id_of fronts (row ∷ backs))
      ∙ times_joined k (whole_at (sizes b.geometry) (contents map')) (map id_of fronts) (map id_of backs) new
      ∙ ap₂ (λ (x y : List ℕ). times k x + times k y) whole_new (ap (flat_map (whole_at (sizes b.geometry) (contents map'))) (sym (map-append id_of fronts backs)) ∙ others_since)

  count_since : (k : ℕ) → times k (attribute_blocks b.geometry map' b.id) ≡ times k rest + times k made + times k after
  count_since k =
      let a : times k (attribute_blocks b.geometry map' b.id) ≡ cond (b.id == k) 1 0 + times k (after ++ flat_map (whole_at (sizes b.geometry) (contents map')) (map id_of (fronts ++ (row ∷ backs)))) = ap (λ (l : List ℕ). times k (b.id ∷ flat_map (whole_at (sizes b.geometry) (contents map')) l)) ids_since in
      let p = times-append k after (flat_map (whole_at (sizes b.geometry) (contents map')) (map id_of (fronts ++ (row ∷ backs)))) in
      let q = count_rows k in
      let c : ℕ = cond (b.id == k) 1 0 in
      let r : times k rest ≡ cond (b.id == k) 1 0 + times k others = refl in
      omega (arith, a, p, q, r)

  -- in the middle the attributes and the new stream stand side by side
  side_taken : (k : ℕ) → Has (rest ++ made) k → is_free mid m1 k ≡ false
  side_taken k has = by_count (times k made) refl
    where
      by_count : (n : ℕ) → times k made ≡ n → is_free mid m1 k ≡ false
      by_count zero z =
          let p = times-append k rest made in
          let h : 0 < times k (rest ++ made) = has in
          still_used v mid m m1 [] made first k (rest_taken k (let s : 0 < times k rest = omega (arith, p, h, z) in s))
      by_count (suc n) z = come_used v mid m m1 [] made first k (let s : 0 < times k made = omega (arith, z) in s)

  side_apart : (k : ℕ) → Has (rest ++ made) k → times k middle ≡ 0
  side_apart k has = by_count (times k made) refl
    where
      by_count : (n : ℕ) → times k made ≡ n → times k middle ≡ 0
      by_count zero z =
          let p = times-append k rest made in
          let h : 0 < times k (rest ++ made) = has in
          rest_apart k (let s : 0 < times k rest = omega (arith, p, h, z) in s)
      by_count (suc n) z = made_apart k (let s : 0 < times k made = omega (arith, z) in s)

  one : Exchanged v mid m m1 (attribute_blocks b.geometry m b.id) (attribute_blocks b.geometry m b.id ++ made)
  one = exchanged_as v mid m m1 (attribute_blocks b.geometry m b.id ++ []) (attribute_blocks b.geometry m b.id ++ made) (attribute_blocks b.geometry m b.id) (attribute_blocks b.geometry m b.id ++ made)
      (exchanged_beside v mid m m1 [] made (attribute_blocks b.geometry m b.id) first holds.taken (λ k has. refl))
      (λ k. let p : times k (attribute_blocks b.geometry m b.id ++ []) ≡ times k (attribute_blocks b.geometry m b.id) + 0 = times-append k (attribute_blocks b.geometry m b.id) [] in ap (λ (n : ℕ). n == 0) (let s : times k (attribute_blocks b.geometry m b.id) ≡ times k (attribute_blocks b.geometry m b.id ++ []) = omega (arith, p) in s))
      (λ k. refl)

  two : Exchanged mid now m1 map' (attribute_blocks b.geometry m b.id ++ made) (attribute_blocks b.geometry map' b.id)
  two = exchanged_as mid now m1 map' ((rest ++ made) ++ middle) ((rest ++ made) ++ after) (attribute_blocks b.geometry m b.id ++ made) (attribute_blocks b.geometry map' b.id)
      (exchanged_beside mid now m1 map' middle after (rest ++ made) second side_taken side_apart)
      (λ k.
      let p = times-append k (attribute_blocks b.geometry m b.id) made in
      let q = times-append k (rest ++ made) middle in
      let r = times-append k rest made in
      let c = count_before k in
      let e : times k middle ≡ times k before = ap (times k) middle_is in
      ap (λ (n : ℕ). n == 0) (let s : times k (attribute_blocks b.geometry m b.id ++ made) ≡ times k ((rest ++ made) ++ middle) = omega (arith, p, q, r, c, e) in s))
      (λ k.
      let q = times-append k (rest ++ made) after in
      let r = times-append k rest made in
      let c = count_since k in
      ap (λ (n : ℕ). n == 0) (let s : times k (attribute_blocks b.geometry map' b.id) ≡ times k ((rest ++ made) ++ after) = omega (arith, q, r, c) in s))

  through : (k : ℕ) → Has (attribute_blocks b.geometry m b.id ++ made) k → Has (attribute_blocks b.geometry m b.id) k ⊎ Has (attribute_blocks b.geometry map' b.id) k
  through k has = by_count (times k made) refl
    where
      by_count : (n : ℕ) → times k made ≡ n → Has (attribute_blocks b.geometry m b.id) k ⊎ Has (attribute_blocks b.geometry map' b.id) k
      by_count zero z =
          let p = times-append k (attribute_blocks b.geometry m b.id) made in
          let h : 0 < times k (attribute_blocks b.geometry m b.id ++ made) = has in
          inl (let s : 0 < times k (attribute_blocks b.geometry m b.id) = omega (arith, p, h, z) in s)
      by_count (suc n) z = let c = count_since k in inr (let s : 0 < times k (attribute_blocks b.geometry map' b.id) = omega (arith, c, z) in s)

  pub exchanged : Exchanged v now m map' (attribute_blocks b.geometry m b.id) (attribute_blocks b.geometry map' b.id)
  exchanged = exchanged_twice v mid now m m1 map' (attribute_blocks b.geometry m b.id) (attribute_blocks b.geometry m b.id ++ made) (attribute_blocks b.geometry map' b.id) one two holds.taken through

  once_since : IsOnce (attribute_blocks b.geometry map' b.id)
  once_since k =
      let side = once_beside mid now m1 map' middle after second (rest ++ made) side_taken once_middle held.1.owns.once k in
      let q = times-append k (rest ++ made) after in
      let r = times-append k rest made in
      let c = count_since k in
      let few : times k ((rest ++ made) ++ after) ≤ 1 = side in
      omega (arith, q, r, c, few)
    where
      once_made : IsOnce (attribute_blocks b.geometry m b.id ++ made)
      once_made = once_beside v mid m m1 [] made first (attribute_blocks b.geometry m b.id) holds.taken
          (λ j. let p : times j (attribute_blocks b.geometry m b.id ++ []) ≡ times j (attribute_blocks b.geometry m b.id) + 0 = times-append j (attribute_blocks b.geometry m b.id) [] in let few : times j (attribute_blocks b.geometry m b.id) ≤ 1 = holds.once j in omega (arith, p, few))
          filled.1.owns.once

      once_middle : IsOnce ((rest ++ made) ++ middle)
      once_middle j =
          let p = times-append j (attribute_blocks b.geometry m b.id) made in
          let q = times-append j (rest ++ made) middle in
          let r = times-append j rest made in
          let c = count_before j in
          let e : times j middle ≡ times j before = ap (times j) middle_is in
          let few : times j (attribute_blocks b.geometry m b.id ++ made) ≤ 1 = once_made j in
          omega (arith, p, q, r, c, e, few)

  -- the attribute directory since
  owner_between : IsOwner between d
  owner_between = owner_stays volume (contents m1) b.geometry.used d
      (frame_of_whole volume (contents m1) b.geometry.used d (agree_begun b v mid m m1 holds new d fresh dir d (among b v mid m m1 holds new d fresh dir)))
      (is_directory b v mid m m1 holds new d fresh dir).owner

  block_between : contents m1 d ≡ contents m d
  block_between = block_stays volume (contents m1) b.geometry.used d
      (frame_of_whole volume (contents m1) b.geometry.used d (agree_begun b v mid m m1 holds new d fresh dir d (among b v mid m m1 holds new d fresh dir)))

  mode_since : HasBit (mode_bits since d) 27
  mode_since = subst (λ (bits : ℕ). HasBit bits 27)
      (sym (word_kept (contents m1 d) (contents map' d) 20 (omega arith) moved.kept ∙ ap (λ (l : List ℕ). unsigned_at 4 l 20) block_between))
      (is_directory b v mid m m1 holds new d fresh dir).mode

  row_is : IsAttributeRow since row
  row_is =
      let frame = frame_of_whole between (contents map') b.geometry.used new agree_new in record {
        number = refl;
        owner = owner_stays between (contents map') b.geometry.used new frame inode.owner;
        mode = mode_stays between (contents map') b.geometry.used new 28 (block_stays between (contents map') b.geometry.used new frame) inode.mode;
      }

  rows_are : AllByRecursion (IsAttributeRow since) (fronts ++ (row ∷ backs))
  rows_are = all_joined (IsAttributeRow since) fronts backs row row_is
      (rows_still volume (contents map') b.geometry.used (fronts ++ backs) agree_others
      (subst (AllByRecursion (IsAttributeRow volume)) rows_before (is_directory b v mid m m1 holds new d fresh dir).rows))

  directory_is : IsAttributeDirectory since b.id d
  directory_is = record {
    address = subst (λ (l : List ℕ). Names (run_in l 52) d b.geometry.shift) (sym bearer_bytes) (is_directory b v mid m m1 holds new d fresh dir).address;
    owner = record { inode = inode_kept (contents m1 d) (contents map' d) d b.geometry.shift moved.kept owner_between.inode; stream = held.1.owns.stands.sound };
    mode = mode_since;
    tree = tree.tree;
    rows = subst (AllByRecursion (IsAttributeRow since)) (sym rows_since) rows_are;
  }

  abbrev entry_before : Row → Named
  entry_before r = (r.0, attribute_at volume (id_of r))

  abbrev entry_since : Row → Named
  entry_since r = (r.0, attribute_at since (id_of r))

  abbrev entry_new : Named
  entry_new = (name, attribute)

  abbrev small : List Named
  small = attributes_in holds.stands.items

  -- the entries before and since, around the new one
  abbrev lead : List Named
  lead = small ++ map entry_since fronts

  abbrev trail : List Named
  trail = map entry_since backs

  new_entry : entry_since row ≡ entry_new
  new_entry = ap (λ (a : Attribute). let e : Named = (name, a) in e) (attribute_still between (contents map') b.geometry.used new agree_new ∙ inode.attribute_is)

  named_before : attributes_of volume (attribute_directory volume b.id) ≡ map entry_since fronts ++ trail
  named_before =
      ap (attributes_of volume) dir ∙ ap (map entry_before) rows_before
      ∙ sym (named_still volume (contents map') b.geometry.used (fronts ++ backs) agree_others)
      ∙ map-append entry_since fronts backs

  named_since : attributes_of since (attribute_directory since b.id) ≡ map entry_since fronts ++ (entry_new ∷ trail)
  named_since =
      ap (attributes_of since) directory_since ∙ ap (map entry_since) rows_since ∙ map-append entry_since fronts (row ∷ backs)
      ∙ ap (λ (e : Named). map entry_since fronts ++ (e ∷ trail)) new_entry

  entries_before : small ++ attributes_of volume (attribute_directory volume b.id) ≡ lead ++ trail
  entries_before = ap (λ (l : List Named). small ++ l) named_before ∙ sym (append_assoc small (map entry_since fronts) trail)

  entries_since : small ++ attributes_of since (attribute_directory since b.id) ≡ lead ++ (entry_new ∷ trail)
  entries_since = ap (λ (l : List Named). small ++ l) named_since ∙ sym (append_assoc small (map entry_since fronts) (entry_new ∷ trail))

  listed_before : entries_at volume b.id ≡ lead ++ trail
  listed_before = ap (λ (o : Option (List Item)). entries_with volume b.id (unwrap_or o [])) holds.stands.area ∙ entries_before

  area_since : items_of (drop 232 (contents map' b.id)) ≡ Some holds.stands.items
  area_since = ap (λ (l : List ℕ). items_of (drop 232 l)) bearer_bytes ∙ holds.stands.area

  listed_since : entries_at since b.id ≡ lead ++ (entry_new ∷ trail)
  listed_since = ap (λ (o : Option (List Item)). entries_with since b.id (unwrap_or o [])) area_since ∙ entries_since

  not_found : find text_cmp name (lead ++ trail) ≡ None
  not_found = ap (find text_cmp name) (sym listed_before) ∙ unknown

  pub map_since : attributes_at since b.id ≡ insert (attributes_at volume b.id) name attribute
  map_since =
      ap (from_entries {R = text_cmp}) listed_since ∙ map_joined entry_new trail lead not_found
      ∙ ap (λ (l : List Named). insert (from_entries {R = text_cmp} l) name attribute) (sym listed_before)

  low_since : (k : ℕ) → In k (d ∷ map id_of (fronts ++ (row ∷ backs))) → k < b.geometry.blocks
  low_since k (inl e) = subst (λ (j : ℕ). j < b.geometry.blocks) (sym e) (holds.stands.inside d (among b v mid m m1 holds new d fresh dir))
  low_since k (inr is) = by_side (in_joined id_of fronts backs row k is)
    where
      by_side : (k ≡ id_of row) ⊎ In k (map id_of (fronts ++ backs)) → k < b.geometry.blocks
      by_side (inl e) = subst (λ (j : ℕ). j < b.geometry.blocks) (sym e) low
      by_side (inr is) = holds.stands.inside k (other_in k is)

  held_since : (k : ℕ) → In k (d ∷ map id_of (fronts ++ (row ∷ backs))) → HasHeld (origin b.geometry k) now map'
  held_since k (inl e) = subst (λ (j : ℕ). HasHeld (origin b.geometry j) now map') (sym e) held
  held_since k (inr is) = by_side (in_joined id_of fronts backs row k is)
    where
      by_side : (k ≡ id_of row) ⊎ In k (map id_of (fronts ++ backs)) → HasHeld (origin b.geometry k) now map'
      by_side (inl e) = subst (λ (j : ℕ). HasHeld (origin b.geometry j) now map') (sym e) stream_new
      by_side (inr is) = stream_other k is

  stands_since : HasAttributes since b.id
  stands_since = record {
    items = holds.stands.items;
    area = area_since;
    distinct = holds.stands.distinct;
    directory = subst (HasDirectory since b.id) (sym directory_since) directory_is;
    apart = subst AreApart (sym entries_since) (apart_joined lead trail entry_new (subst AreApart entries_before holds.stands.apart) (none_named name (lead ++ trail) not_found));
    inside = subst (λ (l : List ℕ). (k : ℕ) → In k l → k < b.geometry.blocks) (sym ids_since) low_since;
  }

  pub holds_since : Holds b now map'
  holds_since = record {
    stands = stands_since;
    inode = subst (λ (o : Option (List ℕ)). IsSome o) (sym bearer_same) holds.inode;
    streams = subst (λ (l : List ℕ). (k : ℕ) → In k l → HasHeld (origin b.geometry k) now map') (sym ids_since) held_since;
    once = once_since;
    taken = taken_since;
    outside = still_outside v now m map' (attribute_blocks b.geometry m b.id) (attribute_blocks b.geometry map' b.id) exchanged b.id holds.outside;
    bits = bits_used v now m map' (attribute_blocks b.geometry m b.id) (attribute_blocks b.geometry map' b.id) exchanged holds.bits;
    fits = exchanged.fits;
  }
    where
      taken_since : (k : ℕ) → Has (attribute_blocks b.geometry map' b.id) k → is_free now map' k ≡ false
      taken_since = come_used v now m map' (attribute_blocks b.geometry m b.id) (attribute_blocks b.geometry map' b.id) exchanged

  module _ (told : Option (ℕ → Option (List ℕ))) (is : told ≡ Some map') (old half since_changed : ℕ → Bool) (stored_written : AreWritten v old half made) (put_written : AreWritten mid half since_changed after)
      (stored_entered : (k : ℕ) → Has made k → half k ≡ true) (put_fresh : (k : ℕ) → Has after k → times k middle ≡ 0 → since_changed k ≡ true) (put_stays : StaysChanged half since_changed) where
    these : List ℕ
    these = attribute_blocks b.geometry m b.id ++ attribute_blocks b.geometry map' b.id

    in_these : (k : ℕ) → Has (attribute_blocks b.geometry map' b.id) k → Has these k
    unfolding these
    in_these k has = has_right (attribute_blocks b.geometry m b.id) (attribute_blocks b.geometry map' b.id) k has

    wrote : AreWritten v old since_changed these
    wrote = wrote_twice (IsBitmapBlock v) old half since_changed these
        (wrote_more (IsBitmapBlock v) old half made these (λ k has. in_these k (let c = count_since k in let h : 0 < times k made = has in let s : 0 < times k (attribute_blocks b.geometry map' b.id) = omega (arith, c, h) in s)) stored_written)
        (wrote_more (IsBitmapBlock v) half since_changed after these (λ k has. in_these k (let c = count_since k in let h : 0 < times k after = has in let s : 0 < times k (attribute_blocks b.geometry map' b.id) = omega (arith, c, h) in s))
        (subst (λ (x : Room). AreWritten x half since_changed after) fresh.rest put_written))

    entered : (k : ℕ) → Has (attribute_blocks b.geometry map' b.id) k → times k (attribute_blocks b.geometry m b.id) ≡ 0 → since_changed k ≡ true
    entered k has none = by_count (times k made) refl
      where
        by_count : (n : ℕ) → times k made ≡ n → since_changed k ≡ true
        by_count zero z =
            let c = count_since k in
            let p = count_before k in
            let e : times k middle ≡ times k before = ap (times k) middle_is in
            let h : 0 < times k (attribute_blocks b.geometry map' b.id) = has in
            put_fresh k (let s : 0 < times k after = omega (arith, c, p, h, z, none) in s) (omega (arith, e, p, none))
        by_count (suc n) z = put_stays k (stored_entered k (let s : 0 < times k made = omega (arith, z) in s))

    pub attributes_joined : AttributesNow b v now m (insert (attributes_at volume b.id) name attribute) told old since_changed
    unfolding these
    attributes_joined = record {
      map = map';
      is = is;
      holds = holds_since;
      attributes_are = map_since;
      were_free = exchanged.were_free;
      free = exchanged.free;
      marks = exchanged.marks;
      others = exchanged.others;
      first = exchanged.first;
      kept = subst (λ (l : List ℕ). inode_at l ≡ record (inode_at (contents m b.id)) { attributes = (inode_at l).attributes; small_data = (inode_at l).small_data }) (sym bearer_bytes) refl;
      written = wrote;
      counted = exchanged.counted;
      entered = entered;
    }

    keeps : (k : ℕ) → Has (attribute_blocks b.geometry m b.id) k → Has (attribute_blocks b.geometry map' b.id) k
    keeps k has = by_count (times k before) refl
      where
        by_count : (n : ℕ) → times k before ≡ n → Has (attribute_blocks b.geometry map' b.id) k
        by_count zero z =
            let p = count_before k in
            let c = count_since k in
            let h : 0 < times k (attribute_blocks b.geometry m b.id) = has in
            let s : 0 < times k (attribute_blocks b.geometry map' b.id) = omega (arith, p, c, h, z) in s
        by_count (suc n) z =
            let e : times k middle ≡ times k before = ap (times k) middle_is in
            let there : 0 < times k middle = omega (arith, e, z) in
            let h : 0 < times k after = whole_moves (origin b.geometry d) mid now m1 map' moved k there in
            let c = count_since k in
            let s : 0 < times k (attribute_blocks b.geometry map' b.id) = omega (arith, c, h) in s

    pub row_put : HasRowPut b v now m (insert (attributes_at volume b.id) name attribute) told old since_changed
    unfolding attributes_joined
    row_put = record { now_are = attributes_joined; bearer = bearer_same; keeps = keeps }
