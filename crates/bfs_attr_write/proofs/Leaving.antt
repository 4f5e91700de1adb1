-- A row that was taken, and the inode that it named given back: the attributes are those before, without this one.
use Rattle.std.proofs.Common.{◌≡◌, ◌⊎◌, inl, inr, ◌≤◌, ◌<◌, ◌+◌, ◌∙◌, ℕ, zero, suc, pos, List, [], ◌∷◌, ◌++◌, Bool, true, false, cond, Option, Some, refl, sym, ap, subst, arith, map, drop}
use Rattle.std.specs.Prelude.{◌==◌, IsSome, unwrap_or}
use Rattle.std.specs.FinMap.{find, from_entries, remove}
use Rattle.std.specs.List.{filter, flat_map, AllByRecursion}
use Rattle.std.proofs.lemmas.List.{map-append, append_assoc}
use Rattle.std.proofs.lemmas.List.Elements.{filter-append}
use Rattle.bfs_base.specs.Keys.{text_cmp}
use Rattle.bfs_base.specs.Lists.{times, Has, IsOnce, Agree}
use Rattle.bfs_base.specs.declared.kind.KeyKind.TheVariants.{Text}
use Rattle.bfs_bitmap.specs.Fills.{IsBitmapBlock}
use Rattle.bfs_bitmap.specs.Runs.{Room, is_free}
use Rattle.bfs_bytes.specs.Fields.{run_in, unsigned_at}
use Rattle.bfs_inode.specs.Inode.{inode_at}
use Rattle.bfs_inode.specs.Refusals.{IsInode, Names}
use Rattle.bfs_node.specs.Page.{Row}
use Rattle.bfs_pages.specs.Maps.{assoc, without}
use Rattle.bfs_smalldata.specs.Items.{Item, items_of}
use Rattle.bfs_stream.specs.Grown.{AreWritten}
use Rattle.bfs_stream.specs.Places.{whole_at}
use Rattle.bfs_stream.specs.Told.{contents}
use Rattle.bfs_stream.proofs.Doubles.{times-append}
use Rattle.bfs_stream.proofs.Frames.{bytes_same, has_first, has_left, has_right}
use Rattle.bfs_stream.proofs.Writes.{wrote_more, wrote_twice}
use Rattle.bfs_txn.specs.Told.{StaysChanged}
use Rattle.bfs_stream_pages.specs.Held.{stream_of}
use Rattle.bfs_stream_pages.specs.Moves.{Moved}
use Rattle.bfs_values.specs.Reached.{IsWholeTree}
use Rattle.bfs_values.specs.Rows.{rows_in}
use Rattle.bfs_maps.specs.Mapped.{HasHeld, rows_of}
use Rattle.bfs_maps.specs.RowTrees.{IsRowTree}
use Rattle.bfs_sound.specs.Volumes.{Volume, sizes}
use Rattle.bfs_sound.specs.Owners.{In}
use Rattle.bfs_sound.specs.Inodes.{is_proper, proper_rows, id_of, HasBit, mode_bits, content}
use Rattle.bfs_sound.specs.Nodes.{AreApart}
use Rattle.bfs_sound.specs.Attributes.{Named, attributes_in, attributes_of, attribute_at, attribute_directory, attribute_inodes, HasDirectory, IsAttributeDirectory, IsAttributeRow}
use Rattle.bfs_sound.proofs.Counts.{has_member}
use Rattle.bfs_sound.proofs.Rows.{directory_same, inodes_stay}
use Rattle.bfs_attr.specs.Bearers.{Bearer, volume_at, origin, HasAttributes, entries_with, entries_at, attributes_at}
use Rattle.bfs_attr.specs.Changed.{attribute_blocks, Holds, AttributesNow}
use Rattle.bfs_attr_write.specs.Removal.{HasRowTaken}
use Rattle.bfs_attr_write.specs.Exchanged.{Exchanged}
use Rattle.bfs_attr_write.proofs.Exchanges.{exchanged_as, exchanged_beside, exchanged_twice}
use Rattle.bfs_attr_write.proofs.Brings.{moved_exchange}
use Rattle.bfs_attr_write.proofs.Beside.{each_of, not_come, still_used, come_used, still_outside, bits_used, block_same, once_beside, agree_beside, whole_beside, held_beside}
use Rattle.bfs_attr_write.proofs.Entries.{filter_joined, times_joined}
use Rattle.bfs_attr_write.proofs.Kept.{word_kept, inode_kept, rows_still, named_still}
use Rattle.bfs_attr_write.proofs.Parted.{all_parted, apart_parted, map_parted}
use Rattle.bfs_attr_write.proofs.Picked.{rows_ascend, row_split, in_wider, in_middle, found_among}

module _ (b : Bearer) (v : Room) (m : ℕ → Option (List ℕ)) (holds : Holds b v m) (d : ℕ) (dir : attribute_directory (volume_at b.geometry m) b.id ≡ Some d)
    (name : List ℕ) (proper : is_proper name ≡ true) (id : ℕ) (there : assoc Text (rows_of Text (origin b.geometry d) m) name ≡ Some (pos id)) where
  abbrev volume : Volume
  volume = volume_at b.geometry m

  abbrev made : List ℕ
  made = whole_at (sizes b.geometry) (contents m) id

  abbrev before : List ℕ
  before = whole_at (sizes b.geometry) (contents m) d

  abbrev row : Row
  row = (name, pos id)

  abbrev is_row : Row → Bool
  is_row r = is_proper r.0

  is_directory : IsAttributeDirectory volume b.id d
  is_directory = subst (HasDirectory volume b.id) dir holds.stands.directory

  -- where the row stands
  split : (front : List Row) × (back : List Row) × (rows_of Text (origin b.geometry d) m ≡ front ++ (row ∷ back)) × (without Text (rows_of Text (origin b.geometry d) m) name ≡ front ++ back)
  split = row_split (rows_of Text (origin b.geometry d) m) name (pos id) (rows_ascend (content volume d) is_directory.tree) there

  fronts : List Row
  fronts = filter is_row split.0

  backs : List Row
  backs = filter is_row split.1

  rows_before : proper_rows volume d ≡ fronts ++ (row ∷ backs)
  unfolding fronts split backs
  rows_before = ap (filter is_row) split.2 ∙ filter_joined is_row split.0 split.1 row proper

  abbrev others : List ℕ
  others = flat_map (whole_at (sizes b.geometry) (contents m)) (map id_of (fronts ++ backs))

  ids_before : attribute_inodes volume (attribute_directory volume b.id) ≡ d ∷ map id_of (fronts ++ (row ∷ backs))
  ids_before = ap (attribute_inodes volume) dir ∙ ap (λ (l : List Row). d ∷ map id_of l) rows_before

  directory_in : In d (attribute_inodes volume (attribute_directory volume b.id))
  directory_in = subst (λ (l : List ℕ). In d l) (sym ids_before) (inl refl)

  other_in : (k : ℕ) → In k (map id_of (fronts ++ backs)) → In k (attribute_inodes volume (attribute_directory volume b.id))
  other_in k is = subst (λ (l : List ℕ). In k l) (sym ids_before) (inr (in_wider id_of fronts backs row k is))

  taken_in : In id (attribute_inodes volume (attribute_directory volume b.id))
  taken_in = subst (λ (l : List ℕ). In id l) (sym ids_before) (inr (in_middle id_of fronts backs row))

  pub low : id < b.geometry.blocks
  low = holds.stands.inside id taken_in

  blocks_before : attribute_blocks b.geometry m b.id ≡ b.id ∷ (before ++ flat_map (whole_at (sizes b.geometry) (contents m)) (map id_of (fronts ++ (row ∷ backs))))
  blocks_before = ap (λ (l : List ℕ). b.id ∷ flat_map (whole_at (sizes b.geometry) (contents m)) l) ids_before

  abbrev rest : List ℕ
  rest = b.id ∷ others

  count_rows : (k : ℕ) → times k (flat_map (whole_at (sizes b.geometry) (contents m)) (map id_of (fronts ++ (row ∷ backs)))) ≡ times k made + times k others
  count_rows k =
      ap (λ (l : List ℕ). times k (flat_map (whole_at (sizes b.geometry) (contents m)) l)) (map-append id_of fronts (row ∷ backs))
      ∙ times_joined k (whole_at (sizes b.geometry) (contents m)) (map id_of fronts) (map id_of backs) id
      ∙ ap (λ (l : List ℕ). times k made + times k (flat_map (whole_at (sizes b.geometry) (contents m)) l)) (sym (map-append id_of fronts backs))

  count_before : (k : ℕ) → times k (attribute_blocks b.geometry m b.id) ≡ times k rest + times k made + times k before
  count_before k =
      let a : times k (attribute_blocks b.geometry m b.id) ≡ cond (b.id == k) 1 0 + times k (before ++ flat_map (whole_at (sizes b.geometry) (contents m)) (map id_of (fronts ++ (row ∷ backs)))) = ap (times k) blocks_before in
      let p = times-append k before (flat_map (whole_at (sizes b.geometry) (contents m)) (map id_of (fronts ++ (row ∷ backs)))) in
      let q = count_rows k in
      let c : ℕ = cond (b.id == k) 1 0 in
      let r : times k rest ≡ cond (b.id == k) 1 0 + times k others = refl in
      omega (arith, a, p, q, r)

  side_taken : (k : ℕ) → Has (rest ++ made) k → is_free v m k ≡ false
  side_taken k has =
      let c = count_before k in
      let p = times-append k rest made in
      let h : 0 < times k (rest ++ made) = has in
      holds.taken k (let s : 0 < times k (attribute_blocks b.geometry m b.id) = omega (arith, c, p, h) in s)

  -- none of them is the directory's
  side_apart : (k : ℕ) → Has (rest ++ made) k → times k before ≡ 0
  side_apart k has =
      let c = count_before k in
      let p = times-append k rest made in
      let h : 0 < times k (rest ++ made) = has in
      let few : times k (attribute_blocks b.geometry m b.id) ≤ 1 = holds.once k in
      omega (arith, c, p, h, few)

  -- none of the rest is the attribute's
  rest_apart : (k : ℕ) → Has rest k → times k made ≡ 0
  rest_apart k has =
      let c = count_before k in
      let h : 0 < times k rest = has in
      let few : times k (attribute_blocks b.geometry m b.id) ≤ 1 = holds.once k in
      omega (arith, c, h, few)

  rest_side : (k : ℕ) → Has rest k → Has (rest ++ made) k
  rest_side k has = has_left rest made k has

  made_side : (k : ℕ) → Has made k → Has (rest ++ made) k
  made_side k has = has_right rest made k has

  other_rest : (x : ℕ) → In x (map id_of (fronts ++ backs)) → (k : ℕ) → Has (whole_at (sizes b.geometry) (contents m) x) k → Has rest k
  other_rest x is k has =
      let here : Has others k = has_member (whole_at (sizes b.geometry) (contents m)) (map id_of (fronts ++ backs)) x k is has in
      let h : 0 < times k others = here in
      let c : ℕ = cond (b.id == k) 1 0 in
      let s : 0 < cond (b.id == k) 1 0 + times k others = omega (arith, h) in s

  abbrev entry_before : Row → Named
  entry_before r = (r.0, attribute_at volume (id_of r))

  abbrev entry_gone : Named
  entry_gone = (name, attribute_at volume id)

  abbrev small : List Named
  small = attributes_in holds.stands.items

  -- the entries before and since, around the one that went
  abbrev lead : List Named
  lead = small ++ map entry_before fronts

  abbrev trail : List Named
  trail = map entry_before backs

  named_before : attributes_of volume (attribute_directory volume b.id) ≡ map entry_before fronts ++ (entry_gone ∷ trail)
  named_before = ap (attributes_of volume) dir ∙ ap (map entry_before) rows_before ∙ map-append entry_before fronts (row ∷ backs)

  entries_before : small ++ attributes_of volume (attribute_directory volume b.id) ≡ lead ++ (entry_gone ∷ trail)
  entries_before = ap (λ (l : List Named). small ++ l) named_before ∙ sym (append_assoc small (map entry_before fronts) (entry_gone ∷ trail))

  apart_before : AreApart (lead ++ (entry_gone ∷ trail))
  apart_before = subst AreApart entries_before holds.stands.apart

  listed_before : entries_at volume b.id ≡ lead ++ (entry_gone ∷ trail)
  listed_before = ap (λ (o : Option (List Item)). entries_with volume b.id (unwrap_or o [])) holds.stands.area ∙ entries_before

  -- it was there
  pub was_there : IsSome (find text_cmp name (entries_at volume b.id))
  was_there = subst (λ (l : List Named). IsSome (find text_cmp name l)) (sym listed_before) (found_among entry_gone lead trail)

  module _ (mid : Room) (m1 : ℕ → Option (List ℕ)) (moved : Moved (origin b.geometry d) v mid m m1) (held : HasHeld (origin b.geometry d) mid m1) where
    abbrev between : Volume
    between = volume_at b.geometry m1

    abbrev middle : List ℕ
    middle = whole_at (sizes b.geometry) (contents m1) d

    abbrev gap : List ℕ
    gap = whole_at (sizes b.geometry) (contents m1) id

    first : Exchanged v mid m m1 before middle
    first = moved_exchange (origin b.geometry d) v mid m m1 moved

    -- the attribute's stream is held when the row was taken
    pub stream_taken : HasHeld (origin b.geometry id) mid m1
    stream_taken =
        let h = holds.streams id taken_in in
        (h.0, held_beside v mid m m1 before middle first (origin b.geometry id) h.0 h.1 (λ k has. side_apart k (made_side k has)))

    gap_is : gap ≡ made
    gap_is =
        let h = holds.streams id taken_in in
        whole_beside v mid m m1 before middle first (origin b.geometry id) h.0 h.1 (λ k has. side_apart k (made_side k has))

    other_apart : (x : ℕ) → In x (map id_of (fronts ++ backs)) → (k : ℕ) → Has (whole_at (sizes b.geometry) (contents m) x) k → times k before ≡ 0
    other_apart x is k has = side_apart k (rest_side k (other_rest x is k has))

    stream_other : (x : ℕ) → In x (map id_of (fronts ++ backs)) → HasHeld (origin b.geometry x) mid m1
    stream_other x is =
        let h = holds.streams x (other_in x is) in
        (h.0, held_beside v mid m m1 before middle first (origin b.geometry x) h.0 h.1 (other_apart x is))

    whole_other : (x : ℕ) → In x (map id_of (fronts ++ backs)) → whole_at (sizes b.geometry) (contents m1) x ≡ whole_at (sizes b.geometry) (contents m) x
    whole_other x is =
        let h = holds.streams x (other_in x is) in
        whole_beside v mid m m1 before middle first (origin b.geometry x) h.0 h.1 (other_apart x is)

    agree_other : (x : ℕ) → In x (map id_of (fronts ++ backs)) → Agree (contents m) (contents m1) (whole_at (sizes b.geometry) (contents m) x)
    agree_other x is =
        let h = holds.streams x (other_in x is) in
        agree_beside v mid m m1 before middle first (origin b.geometry x) h.0 h.1 (other_apart x is)

    rest_no_gap : (k : ℕ) → Has rest k → times k gap ≡ 0
    rest_no_gap k has = ap (times k) gap_is ∙ rest_apart k has

    middle_no_gap : (k : ℕ) → Has middle k → times k gap ≡ 0
    middle_no_gap k has = by_count (times k made) refl
      where
        by_count : (n : ℕ) → times k made ≡ n → times k gap ≡ 0
        by_count zero z = ap (times k) gap_is ∙ z
        by_count (suc n) z =
            let side = made_side k (let s : 0 < times k made = omega (arith, z) in s) in
            let none = not_come v mid m m1 before middle first k (side_taken k side) (side_apart k side) in
            let h : 0 < times k middle = has in absurd (omega (arith, none, h))

    module _ (now : Room) (map' : ℕ → Option (List ℕ)) (gone : Exchanged mid now m1 map' (whole_at (sizes b.geometry) (contents m1) id) []) (tree : IsRowTree Text (without Text (rows_of Text (origin b.geometry d) m) name) (stream_of (origin b.geometry d) m1)) where
      abbrev since : Volume
      since = volume_at b.geometry map'

      abbrev after : List ℕ
      after = whole_at (sizes b.geometry) (contents map') d

      -- the directory, and the other attributes
      held_since_d : HasHeld (origin b.geometry d) now map'
      held_since_d = (held.0, held_beside mid now m1 map' gap [] gone (origin b.geometry d) held.0 held.1 middle_no_gap)

      agree_d : Agree (contents m1) (contents map') middle
      agree_d = agree_beside mid now m1 map' gap [] gone (origin b.geometry d) held.0 held.1 middle_no_gap

      after_is : after ≡ middle
      after_is = whole_beside mid now m1 map' gap [] gone (origin b.geometry d) held.0 held.1 middle_no_gap

      other_no_gap : (x : ℕ) → In x (map id_of (fronts ++ backs)) → (k : ℕ) → Has (whole_at (sizes b.geometry) (contents m1) x) k → times k gap ≡ 0
      other_no_gap x is k has = rest_no_gap k (other_rest x is k (subst (λ (l : List ℕ). Has l k) (whole_other x is) has))

      held_other : (x : ℕ) → In x (map id_of (fronts ++ backs)) → HasHeld (origin b.geometry x) now map'
      held_other x is =
          let h = stream_other x is in
          (h.0, held_beside mid now m1 map' gap [] gone (origin b.geometry x) h.0 h.1 (other_no_gap x is))

      agree_others : Agree (contents m) (contents map') others
      agree_others = each_of (λ (k : ℕ). contents map' k ≡ contents m k) (whole_at (sizes b.geometry) (contents m)) (map id_of (fronts ++ backs)) (λ x is k has.
          let h = stream_other x is in
          agree_beside mid now m1 map' gap [] gone (origin b.geometry x) h.0 h.1 (other_no_gap x is) k (subst (λ (l : List ℕ). Has l k) (sym (whole_other x is)) has)
          ∙ agree_other x is k has)

      bearer_first : Has rest b.id
      bearer_first = has_first b.id others

      bearer_same : map' b.id ≡ m b.id
      bearer_same =
          let taken = side_taken b.id (rest_side b.id bearer_first) in
          block_same mid now m1 map' gap [] gone b.id (still_outside v mid m m1 before middle first b.id holds.outside) (still_used v mid m m1 before middle first b.id taken) (rest_no_gap b.id bearer_first)
          ∙ block_same v mid m m1 before middle first b.id holds.outside taken (side_apart b.id (rest_side b.id bearer_first))

      bearer_bytes : contents map' b.id ≡ contents m b.id
      bearer_bytes = ap (λ (o : Option (List ℕ)). unwrap_or o []) bearer_same

      directory_since : attribute_directory since b.id ≡ Some d
      directory_since = directory_same volume (contents map') b.geometry.used b.id bearer_bytes ∙ dir

      bytes_since : stream_of (origin b.geometry d) map' ≡ stream_of (origin b.geometry d) m1
      bytes_since = bytes_same (contents m1) (contents map') (sizes b.geometry) d agree_d

      rows_since : proper_rows since d ≡ fronts ++ backs
      unfolding fronts split backs
      rows_since = ap (λ (bytes : List ℕ). filter is_row (rows_in Text bytes)) bytes_since ∙ ap (filter is_row) (tree.rows_are ∙ split.3) ∙ filter-append is_row split.0 split.1

      ids_since : attribute_inodes since (attribute_directory since b.id) ≡ d ∷ map id_of (fronts ++ backs)
      ids_since = ap (attribute_inodes since) directory_since ∙ ap (λ (l : List Row). d ∷ map id_of l) rows_since

      others_since : flat_map (whole_at (sizes b.geometry) (contents map')) (map id_of (fronts ++ backs)) ≡ others
      others_since = inodes_stay volume (contents map') b.geometry.used (map id_of (fronts ++ backs)) agree_others

      count_since : (k : ℕ) → times k (attribute_blocks b.geometry map' b.id) ≡ times k rest + times k middle
      count_since k =
          let a : times k (attribute_blocks b.geometry map' b.id) ≡ cond (b.id == k) 1 0 + times k (after ++ flat_map (whole_at (sizes b.geometry) (contents map')) (map id_of (fronts ++ backs))) = ap (λ (l : List ℕ). times k (b.id ∷ flat_map (whole_at (sizes b.geometry) (contents map')) l)) ids_since in
          let p = times-append k after (flat_map (whole_at (sizes b.geometry) (contents map')) (map id_of (fronts ++ backs))) in
          let q : times k (flat_map (whole_at (sizes b.geometry) (contents map')) (map id_of (fronts ++ backs))) ≡ times k others = ap (times k) others_since in
          let e : times k after ≡ times k middle = ap (times k) after_is in
          let c : ℕ = cond (b.id == k) 1 0 in
          let r : times k rest ≡ cond (b.id == k) 1 0 + times k others = refl in
          omega (arith, a, p, q, e, r)

      one : Exchanged v mid m m1 (attribute_blocks b.geometry m b.id) ((rest ++ made) ++ middle)
      one = exchanged_as v mid m m1 ((rest ++ made) ++ before) ((rest ++ made) ++ middle) (attribute_blocks b.geometry m b.id) ((rest ++ made) ++ middle)
          (exchanged_beside v mid m m1 before middle (rest ++ made) first side_taken side_apart)
          (λ k.
          let p = times-append k (rest ++ made) before in
          let q = times-append k rest made in
          let c = count_before k in
          ap (λ (n : ℕ). n == 0) (let s : times k (attribute_blocks b.geometry m b.id) ≡ times k ((rest ++ made) ++ before) = omega (arith, p, q, c) in s))
          (λ k. refl)

      stays_taken : (k : ℕ) → Has (rest ++ middle) k → is_free mid m1 k ≡ false
      stays_taken k has = by_count (times k middle) refl
        where
          by_count : (n : ℕ) → times k middle ≡ n → is_free mid m1 k ≡ false
          by_count zero z =
              let p = times-append k rest middle in
              let h : 0 < times k (rest ++ middle) = has in
              still_used v mid m m1 before middle first k (side_taken k (rest_side k (let s : 0 < times k rest = omega (arith, p, h, z) in s)))
          by_count (suc n) z = come_used v mid m m1 before middle first k (let s : 0 < times k middle = omega (arith, z) in s)

      stays_apart : (k : ℕ) → Has (rest ++ middle) k → times k gap ≡ 0
      stays_apart k has = by_count (times k middle) refl
        where
          by_count : (n : ℕ) → times k middle ≡ n → times k gap ≡ 0
          by_count zero z =
              let p = times-append k rest middle in
              let h : 0 < times k (rest ++ middle) = has in
              rest_no_gap k (let s : 0 < times k rest = omega (arith, p, h, z) in s)
          by_count (suc n) z = middle_no_gap k (let s : 0 < times k middle = omega (arith, z) in s)

      two : Exchanged mid now m1 map' ((rest ++ made) ++ middle) (attribute_blocks b.geometry map' b.id)
      two = exchanged_as mid now m1 map' ((rest ++ middle) ++ gap) ((rest ++ middle) ++ []) ((rest ++ made) ++ middle) (attribute_blocks b.geometry map' b.id)
          (exchanged_beside mid now m1 map' gap [] (rest ++ middle) gone stays_taken stays_apart)
          (λ k.
          let p = times-append k (rest ++ made) middle in
          let q = times-append k rest made in
          let r = times-append k (rest ++ middle) gap in
          let t = times-append k rest middle in
          let e : times k gap ≡ times k made = ap (times k) gap_is in
          ap (λ (n : ℕ). n == 0) (let s : times k ((rest ++ made) ++ middle) ≡ times k ((rest ++ middle) ++ gap) = omega (arith, p, q, r, t, e) in s))
          (λ k.
          let r : times k ((rest ++ middle) ++ []) ≡ times k (rest ++ middle) + 0 = times-append k (rest ++ middle) [] in
          let t = times-append k rest middle in
          let c = count_since k in
          ap (λ (n : ℕ). n == 0) (let s : times k (attribute_blocks b.geometry map' b.id) ≡ times k ((rest ++ middle) ++ []) = omega (arith, r, t, c) in s))

      through : (k : ℕ) → Has ((rest ++ made) ++ middle) k → Has (attribute_blocks b.geometry m b.id) k ⊎ Has (attribute_blocks b.geometry map' b.id) k
      through k has = by_count (times k middle) refl
        where
          by_count : (n : ℕ) → times k middle ≡ n → Has (attribute_blocks b.geometry m b.id) k ⊎ Has (attribute_blocks b.geometry map' b.id) k
          by_count zero z =
              let p = times-append k (rest ++ made) middle in
              let q = times-append k rest made in
              let c = count_before k in
              let h : 0 < times k ((rest ++ made) ++ middle) = has in
              inl (let s : 0 < times k (attribute_blocks b.geometry m b.id) = omega (arith, p, q, c, h, z) in s)
          by_count (suc n) z = let c = count_since k in inr (let s : 0 < times k (attribute_blocks b.geometry map' b.id) = omega (arith, c, z) in s)

      pub exchanged : Exchanged v now m map' (attribute_blocks b.geometry m b.id) (attribute_blocks b.geometry map' b.id)
      exchanged = exchanged_twice v mid now m m1 map' (attribute_blocks b.geometry m b.id) ((rest ++ made) ++ middle) (attribute_blocks b.geometry map' b.id) one two holds.taken through

      once_since : IsOnce (attribute_blocks b.geometry map' b.id)
      once_since k =
          let side = once_beside v mid m m1 before middle first (rest ++ made) side_taken once_before held.1.owns.once k in
          let p = times-append k (rest ++ made) middle in
          let q = times-append k rest made in
          let c = count_since k in
          let few : times k ((rest ++ made) ++ middle) ≤ 1 = side in
          omega (arith, p, q, c, few)
        where
          once_before : IsOnce ((rest ++ made) ++ before)
          once_before j =
              let p = times-append j (rest ++ made) before in
              let q = times-append j rest made in
              let c = count_before j in
              let few : times j (attribute_blocks b.geometry m b.id) ≤ 1 = holds.once j in
              omega (arith, p, q, c, few)

      -- the attribute directory since
      block_since : contents map' d ≡ contents m1 d
      block_since = agree_d d (has_first d _)

      mode_since : HasBit (mode_bits since d) 27
      mode_since = subst (λ (bits : ℕ). HasBit bits 27)
          (sym (ap (λ (l : List ℕ). unsigned_at 4 l 20) block_since ∙ word_kept (contents m d) (contents m1 d) 20 (omega arith) moved.kept))
          is_directory.mode

      rows_are : AllByRecursion (IsAttributeRow since) (fronts ++ backs)
      rows_are = rows_still volume (contents map') b.geometry.used (fronts ++ backs) agree_others
          (all_parted (IsAttributeRow volume) fronts backs row (subst (AllByRecursion (IsAttributeRow volume)) rows_before is_directory.rows))

      directory_is : IsAttributeDirectory since b.id d
      directory_is = record {
        address = subst (λ (l : List ℕ). Names (run_in l 52) d b.geometry.shift) (sym bearer_bytes) is_directory.address;
        owner = record {
          inode = subst (λ (l : List ℕ). IsInode l d b.geometry.shift) (sym block_since) (inode_kept (contents m d) (contents m1 d) d b.geometry.shift moved.kept is_directory.owner.inode);
          stream = held_since_d.1.owns.stands.sound;
        };
        mode = mode_since;
        tree = subst (IsWholeTree Text) (sym bytes_since) tree.tree;
        rows = subst (AllByRecursion (IsAttributeRow since)) (sym rows_since) rows_are;
      }

      abbrev entry_since : Row → Named
      entry_since r = (r.0, attribute_at since (id_of r))

      named_since : attributes_of since (attribute_directory since b.id) ≡ map entry_before fronts ++ trail
      named_since =
          ap (attributes_of since) directory_since ∙ ap (map entry_since) rows_since
          ∙ named_still volume (contents map') b.geometry.used (fronts ++ backs) agree_others
          ∙ map-append entry_before fronts backs

      entries_since : small ++ attributes_of since (attribute_directory since b.id) ≡ lead ++ trail
      entries_since = ap (λ (l : List Named). small ++ l) named_since ∙ sym (append_assoc small (map entry_before fronts) trail)

      area_since : items_of (drop 232 (contents map' b.id)) ≡ Some holds.stands.items
      area_since = ap (λ (l : List ℕ). items_of (drop 232 l)) bearer_bytes ∙ holds.stands.area

      listed_since : entries_at since b.id ≡ lead ++ trail
      listed_since = ap (λ (o : Option (List Item)). entries_with since b.id (unwrap_or o [])) area_since ∙ entries_since

      pub map_since : attributes_at since b.id ≡ remove (attributes_at volume b.id) name
      map_since =
          ap (from_entries {R = text_cmp}) listed_since ∙ map_parted lead trail entry_gone apart_before
          ∙ ap (λ (l : List Named). remove (from_entries {R = text_cmp} l) name) (sym listed_before)

      low_since : (k : ℕ) → In k (d ∷ map id_of (fronts ++ backs)) → k < b.geometry.blocks
      low_since k (inl e) = subst (λ (j : ℕ). j < b.geometry.blocks) (sym e) (holds.stands.inside d directory_in)
      low_since k (inr is) = holds.stands.inside k (other_in k is)

      held_since : (k : ℕ) → In k (d ∷ map id_of (fronts ++ backs)) → HasHeld (origin b.geometry k) now map'
      held_since k (inl e) = subst (λ (j : ℕ). HasHeld (origin b.geometry j) now map') (sym e) held_since_d
      held_since k (inr is) = held_other k is

      stands_since : HasAttributes since b.id
      stands_since = record {
        items = holds.stands.items;
        area = area_since;
        distinct = holds.stands.distinct;
        directory = subst (HasDirectory since b.id) (sym directory_since) directory_is;
        apart = subst AreApart (sym entries_since) (apart_parted lead trail entry_gone apart_before);
        inside = subst (λ (l : List ℕ). (k : ℕ) → In k l → k < b.geometry.blocks) (sym ids_since) low_since;
      }

      pub holds_since : Holds b now map'
      holds_since = record {
        stands = stands_since;
        inode = subst (λ (o : Option (List ℕ)). IsSome o) (sym bearer_same) holds.inode;
        streams = subst (λ (l : List ℕ). (k : ℕ) → In k l → HasHeld (origin b.geometry k) now map') (sym ids_since) held_since;
        once = once_since;
        taken = come_used v now m map' (attribute_blocks b.geometry m b.id) (attribute_blocks b.geometry map' b.id) exchanged;
        outside = still_outside v now m map' (attribute_blocks b.geometry m b.id) (attribute_blocks b.geometry map' b.id) exchanged b.id holds.outside;
        bits = bits_used v now m map' (attribute_blocks b.geometry m b.id) (attribute_blocks b.geometry map' b.id) exchanged holds.bits;
        fits = exchanged.fits;
      }

      module _ (told : Option (ℕ → Option (List ℕ))) (is : told ≡ Some map') (old half new : ℕ → Bool) (row_written : AreWritten v old half middle) (gone_written : AreWritten mid half new (id ∷ []))
          (row_fresh : (k : ℕ) → Has middle k → times k before ≡ 0 → half k ≡ true) (gone_stays : StaysChanged half new) where
        these : List ℕ
        these = attribute_blocks b.geometry m b.id ++ attribute_blocks b.geometry map' b.id

        in_middle_these : (k : ℕ) → Has middle k → Has these k
        unfolding these
        in_middle_these k has = has_right (attribute_blocks b.geometry m b.id) (attribute_blocks b.geometry map' b.id) k
            (let c = count_since k in let h : 0 < times k middle = has in let s : 0 < times k (attribute_blocks b.geometry map' b.id) = omega (arith, c, h) in s)

        in_gone_these : (k : ℕ) → Has (id ∷ []) k → Has these k
        unfolding these
        in_gone_these k has = has_left (attribute_blocks b.geometry m b.id) (attribute_blocks b.geometry map' b.id) k
            (let c = count_before k in let h : 0 < times k made = has_left (id ∷ []) _ k has in let s : 0 < times k (attribute_blocks b.geometry m b.id) = omega (arith, c, h) in s)

        wrote : AreWritten v old new these
        wrote = wrote_twice (IsBitmapBlock v) old half new these
            (wrote_more (IsBitmapBlock v) old half middle these in_middle_these row_written)
            (wrote_more (IsBitmapBlock v) half new (id ∷ []) these in_gone_these (subst (λ (x : Room). AreWritten x half new (id ∷ [])) moved.rest gone_written))

        entered : (k : ℕ) → Has (attribute_blocks b.geometry map' b.id) k → times k (attribute_blocks b.geometry m b.id) ≡ 0 → new k ≡ true
        entered k has none =
            let c = count_since k in
            let p = count_before k in
            let h : 0 < times k (attribute_blocks b.geometry map' b.id) = has in
            gone_stays k (row_fresh k (let s : 0 < times k middle = omega (arith, c, p, h, none) in s) (omega (arith, p, none)))

        pub attributes_left : AttributesNow b v now m (remove (attributes_at volume b.id) name) told old new
        unfolding these
        attributes_left = record {
          map = map';
          is = is;
          holds = holds_since;
          attributes_are = map_since;
          were_free = exchanged.were_free;
          free = exchanged.free;
          marks = exchanged.marks;
          others = exchanged.others;
          first = exchanged.first;
          kept = subst (λ (l : List ℕ). inode_at l ≡ record (inode_at (contents m b.id)) { attributes = (inode_at l).attributes; small_data = (inode_at l).small_data }) (sym bearer_bytes) refl;
          written = wrote;
          counted = exchanged.counted;
          entered = entered;
        }

        pub row_taken : HasRowTaken b v now m (remove (attributes_at volume b.id) name) told old new
        unfolding attributes_left
        row_taken = record { now_are = attributes_left; bearer = bearer_same }
