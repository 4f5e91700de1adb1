-- The one attribute of an attribute directory, whose inode was given back, and then the directory, which the inode that bears the
-- attributes names no more.
use Rattle.std.proofs.Common.{◌≡◌, ◌⊎◌, inl, inr, ◌≤◌, ◌<◌, ◌+◌, ◌∙◌, ℕ, pos, suc, List, [], ◌∷◌, ◌++◌, length, Bool, true, false, cond, Option, Some, None, refl, sym, ap, subst, arith, map, drop}
use Rattle.std.specs.Prelude.{IfSome, IsSome, unwrap_or}
use Rattle.std.specs.FinMap.{from_entries, remove}
use Rattle.std.specs.List.{filter, flat_map}
use Rattle.std.proofs.lemmas.List.{append-nil}
use Rattle.bfs_base.specs.Keys.{text_cmp}
use Rattle.bfs_base.specs.Lists.{times, Has, IsOnce}
use Rattle.bfs_base.specs.declared.kind.KeyKind.TheVariants.{Text}
use Rattle.bfs_bitmap.specs.Fills.{IsBitmapBlock}
use Rattle.bfs_bitmap.specs.Runs.{Room, is_free}
use Rattle.bfs_bytes.specs.Fields.{run_in}
use Rattle.bfs_bytes.specs.declared.Run.{Run}
use Rattle.bfs_inode.specs.Inode.{Inode, inode_at}
use Rattle.bfs_node.specs.Page.{Row}
use Rattle.bfs_pages.specs.Maps.{assoc}
use Rattle.bfs_smalldata.specs.Items.{Item, items_of}
use Rattle.bfs_txn.specs.Told.{with_block}
use Rattle.bfs_stream.specs.Grown.{IsOutside, AreWritten}
use Rattle.bfs_stream.specs.Places.{whole_at, arrays_at, places_at}
use Rattle.bfs_stream.specs.Sizes.{first_block}
use Rattle.bfs_stream.specs.Told.{contents}
use Rattle.bfs_stream.proofs.Doubles.{times-append}
use Rattle.bfs_stream.proofs.Frames.{has_first, has_left, has_right}
use Rattle.bfs_stream.proofs.Writes.{wrote_more, wrote_twice}
use Rattle.bfs_maps.specs.Mapped.{HasHeld, rows_of}
use Rattle.bfs_sound.specs.Volumes.{Volume, sizes}
use Rattle.bfs_sound.specs.Owners.{In}
use Rattle.bfs_sound.specs.Inodes.{is_proper, proper_rows, id_of, content}
use Rattle.bfs_sound.specs.Nodes.{AreApart}
use Rattle.bfs_sound.specs.Attributes.{Named, is_zero, attributes_in, attributes_of, attribute_at, attribute_directory, attribute_inodes, HasDirectory, IsAttributeDirectory}
use Rattle.bfs_make.specs.Given.{HasGivenBack}
use Rattle.bfs_make.specs.Made.{zero_run}
use Rattle.bfs_make.proofs.Written.{block_here}
use Rattle.bfs_attr.specs.Bearers.{Bearer, volume_at, origin, HasAttributes, entries_with, entries_at, attributes_at}
use Rattle.bfs_attr.specs.Changed.{attribute_blocks, Holds, AttributesNow}
use Rattle.bfs_attr_write.specs.Directories.{HasAddress}
use Rattle.bfs_attr_write.specs.Exchanged.{Exchanged}
use Rattle.bfs_attr_write.proofs.Exchanges.{exchanged_beside, exchanged_twice}
use Rattle.bfs_attr_write.proofs.Brings.{gone_exchange}
use Rattle.bfs_attr_write.specs.Removal.{KeepsClear}
use Rattle.bfs_attr_write.proofs.Clear.{exchange_clear, given_clear, clear_twice, clear_told}
use Rattle.bfs_attr_write.proofs.Beside.{come_used, still_outside, bits_used, block_same, whole_beside, held_beside}
use Rattle.bfs_attr_write.proofs.Addressed.{block_exchange, now_exchanged, kept_of, wrote_then}
use Rattle.bfs_attr_write.proofs.Entries.{filter_joined}
use Rattle.bfs_attr_write.proofs.Parted.{apart_parted, map_parted}
use Rattle.bfs_attr_write.proofs.Picked.{rows_ascend, row_split}
use Rattle.bfs_attrs.specs.Last.{IsAlone, HasLastTaken}

-- a list of one that has a member is that member
some_more : {X : Type 0} (xs ys : List X) (x : X) → length (xs ++ (x ∷ ys)) ≡ 0 → ⊥
some_more [] ys x e = let more : suc (length ys) ≡ 0 = e in omega (arith, more)
some_more (y ∷ xs) ys x e = let more : suc (length (xs ++ (x ∷ ys))) ≡ 0 = e in omega (arith, more)

only_one : {X : Type 0} (xs ys : List X) (x : X) → length (xs ++ (x ∷ ys)) ≡ 1 → xs ++ (x ∷ ys) ≡ x ∷ []
only_one [] [] x e = refl
only_one [] (y ∷ ys) x e = let more : suc (suc (length ys)) ≡ 1 = e in absurd (omega (arith, more))
only_one (y ∷ xs) ys x e = let more : suc (length (xs ++ (x ∷ ys))) ≡ 1 = e in absurd (some_more xs ys x (omega (arith, more)))

module _ (b : Bearer) (v : Room) (m : ℕ → Option (List ℕ)) (d : ℕ) (name : List ℕ) (alone : IsAlone b v m d name) (id : ℕ) (there : assoc Text (rows_of Text (origin b.geometry d) m) name ≡ Some (pos id)) where
  abbrev holds : Holds b v m
  holds = alone.can.holds

  abbrev volume : Volume
  volume = volume_at b.geometry m

  abbrev first_whole : List ℕ
  first_whole = whole_at (sizes b.geometry) (contents m) id

  abbrev last_whole : List ℕ
  last_whole = whole_at (sizes b.geometry) (contents m) d

  abbrev whole : List ℕ
  whole = last_whole ++ first_whole

  abbrev row : Row
  row = (name, pos id)

  is_directory : IsAttributeDirectory volume b.id d
  is_directory = subst (HasDirectory volume b.id) alone.can.there holds.stands.directory

  -- it is the one row
  only : proper_rows volume d ≡ row ∷ []
  only =
      let split = row_split (rows_of Text (origin b.geometry d) m) name (pos id) (rows_ascend (content volume d) is_directory.tree) there in
      let is_row : Row → Bool = λ r. is_proper r.0 in
      let rows : proper_rows volume d ≡ filter is_row split.0 ++ (row ∷ filter is_row split.1) = ap (filter is_row) split.2 ∙ filter_joined is_row split.0 split.1 row alone.can.proper in
      rows ∙ only_one (filter is_row split.0) (filter is_row split.1) row (sym (ap length rows) ∙ alone.one)

  ids_before : attribute_inodes volume (attribute_directory volume b.id) ≡ d ∷ (id ∷ [])
  ids_before = ap (attribute_inodes volume) alone.can.there ∙ ap (λ (l : List Row). d ∷ map id_of l) only

  -- both streams are held
  pub last_held : HasHeld (origin b.geometry d) v m
  last_held = holds.streams d (subst (λ (l : List ℕ). In d l) (sym ids_before) (inl refl))

  pub first_held : HasHeld (origin b.geometry id) v m
  first_held = holds.streams id (subst (λ (l : List ℕ). In id l) (sym ids_before) (inr (inl refl)))

  pub first_low : id < b.geometry.blocks
  first_low = holds.stands.inside id (subst (λ (l : List ℕ). In id l) (sym ids_before) (inr (inl refl)))

  blocks_before : attribute_blocks b.geometry m b.id ≡ b.id ∷ whole
  blocks_before =
      ap (λ (l : List ℕ). b.id ∷ flat_map (whole_at (sizes b.geometry) (contents m)) l) ids_before
      ∙ ap (λ (l : List ℕ). b.id ∷ (last_whole ++ l)) (append-nil first_whole)

  few : (k : ℕ) → times k (b.id ∷ whole) ≤ 1
  few k = subst (λ (l : List ℕ). times k l ≤ 1) blocks_before (holds.once k)

  count : (k : ℕ) → times k (b.id ∷ whole) ≡ times k (b.id ∷ []) + (times k last_whole + times k first_whole)
  count k =
      let p : times k (b.id ∷ whole) ≡ times k (b.id ∷ []) + times k whole = times-append k (b.id ∷ []) whole in
      let q = times-append k last_whole first_whole in
      omega (arith, p, q)

  all_taken : (k : ℕ) → Has (b.id ∷ whole) k → is_free v m k ≡ false
  all_taken k has = holds.taken k (subst (λ (l : List ℕ). Has l k) (sym blocks_before) has)

  one_taken : (k : ℕ) → Has (b.id ∷ []) k → is_free v m k ≡ false
  one_taken k has = all_taken k (has_left (b.id ∷ []) whole k has)

  whole_taken : (k : ℕ) → Has whole k → is_free v m k ≡ false
  whole_taken k has = all_taken k (has_right (b.id ∷ []) whole k has)

  last_taken : (k : ℕ) → Has last_whole k → is_free v m k ≡ false
  last_taken k has = whole_taken k (has_left last_whole first_whole k has)

  apart : (k : ℕ) → Has (b.id ∷ []) k → times k whole ≡ 0
  apart k has =
      let f = few k in
      let c = count k in
      let q = times-append k last_whole first_whole in
      let some : 0 < times k (b.id ∷ []) = has in
      omega (arith, c, f, q, some)

  last_apart : (k : ℕ) → Has last_whole k → times k first_whole ≡ 0
  last_apart k has =
      let f = few k in
      let c = count k in
      let some : 0 < times k last_whole = has in
      omega (arith, c, f, some)

  module _ (mid : Room) (told1 : Option (ℕ → Option (List ℕ))) (old half : ℕ → Bool) (gone1 : HasGivenBack (origin b.geometry id) v mid m told1 old half) (rest1 : mid ≡ record v { given = mid.given; tally = mid.tally }) where
    abbrev m1 : ℕ → Option (List ℕ)
    m1 = gone1.map

    one : Exchanged v mid m m1 first_whole []
    one = gone_exchange (origin b.geometry id) v mid m told1 old half gone1 rest1

    -- the directory's stream is still held
    pub still_held : HasHeld (origin b.geometry d) mid m1
    still_held = (last_held.0, held_beside v mid m m1 first_whole [] one (origin b.geometry d) last_held.0 last_held.1 last_apart)

    same_whole : whole_at (sizes b.geometry) (contents m1) d ≡ last_whole
    same_whole = whole_beside v mid m m1 first_whole [] one (origin b.geometry d) last_held.0 last_held.1 last_apart

    first_beside : Exchanged v mid m m1 whole last_whole
    first_beside = subst (λ (l : List ℕ). Exchanged v mid m m1 whole l) (append-nil last_whole) (exchanged_beside v mid m m1 first_whole [] last_whole one last_taken last_apart)

    module _ (mid2 : Room) (told2 : Option (ℕ → Option (List ℕ))) (third : ℕ → Bool) (gone2 : HasGivenBack (origin b.geometry d) mid mid2 m1 told2 half third) (rest2 : mid2 ≡ record mid { given = mid2.given; tally = mid2.tally }) where
      abbrev m2 : ℕ → Option (List ℕ)
      m2 = gone2.map

      two : Exchanged mid mid2 m1 m2 last_whole []
      two = subst (λ (l : List ℕ). Exchanged mid mid2 m1 m2 l []) same_whole (gone_exchange (origin b.geometry d) mid mid2 m1 told2 half third gone2 rest2)

      both : Exchanged v mid2 m m2 whole []
      both = exchanged_twice v mid mid2 m m1 m2 whole last_whole [] first_beside two whole_taken (λ k has. inl (has_left last_whole first_whole k has))

      beside : Exchanged v mid2 m m2 (b.id ∷ whole) (b.id ∷ [])
      beside = exchanged_beside v mid2 m m2 whole [] (b.id ∷ []) both one_taken apart

      bearer_map : m2 b.id ≡ m b.id
      bearer_map = block_same v mid2 m m2 whole [] both b.id holds.outside (one_taken b.id (has_first b.id [])) (apart b.id (has_first b.id []))

      bearer_same : contents m2 b.id ≡ contents m b.id
      bearer_same = ap (λ (o : Option (List ℕ)). unwrap_or o []) bearer_map

      -- the inode is still told
      pub bearer_told : IsSome (m2 b.id)
      bearer_told = subst (λ (o : Option (List ℕ)). IsSome o) (sym bearer_map) holds.inode

      out_mid : IsOutside mid2 b.id
      out_mid = still_outside v mid2 m m2 whole [] both b.id holds.outside

      module _ (told3 : Option (ℕ → Option (List ℕ))) (put : HasAddress gone2.map b.id zero_run told3) where
        abbrev map' : ℕ → Option (List ℕ)
        map' = with_block b.id put.block gone2.map

        abbrev since : Volume
        since = volume_at b.geometry map'

        second : Exchanged mid2 mid2 m2 map' (b.id ∷ []) (b.id ∷ [])
        second = block_exchange mid2 m2 b.id put.block (b.id ∷ []) out_mid (has_first b.id []) (come_used v mid2 m m2 (b.id ∷ whole) (b.id ∷ []) beside) beside.fits

        all : Exchanged v mid2 m map' (b.id ∷ whole) (b.id ∷ [])
        all = exchanged_twice v mid2 mid2 m m2 map' (b.id ∷ whole) (b.id ∷ []) (b.id ∷ []) beside second all_taken (λ k has. inr has)

        here : contents map' b.id ≡ put.block
        here = ap (λ (o : Option (List ℕ)). unwrap_or o []) (block_here m2 b.id put.block)

        fields : inode_at (contents map' b.id) ≡ record (inode_at (contents m b.id)) { attributes = zero_run }
        fields = ap inode_at here ∙ put.inode ∙ ap (λ (l : List ℕ). let r : Inode = record (inode_at l) { attributes = zero_run } in r) bearer_same

        run_is : run_in (contents map' b.id) 52 ≡ zero_run
        run_is = ap (λ (i : Inode). i.attributes) fields

        small : drop 232 (contents map' b.id) ≡ drop 232 (contents m b.id)
        small = ap (λ (i : Inode). i.small_data) fields

        missing : attribute_directory since b.id ≡ None
        missing = ap (λ (r : Run). cond (is_zero r) None (Some (first_block (sizes b.geometry) r))) run_is

        ids_since : attribute_inodes since (attribute_directory since b.id) ≡ []
        ids_since = ap (attribute_inodes since) missing

        blocks_since : attribute_blocks b.geometry map' b.id ≡ b.id ∷ []
        blocks_since = ap (λ (l : List ℕ). b.id ∷ flat_map (whole_at (sizes b.geometry) (contents map')) l) ids_since

        exchanged : Exchanged v mid2 m map' (attribute_blocks b.geometry m b.id) (attribute_blocks b.geometry map' b.id)
        exchanged =
            subst (λ (l : List ℕ). Exchanged v mid2 m map' l (attribute_blocks b.geometry map' b.id)) (sym blocks_before)
            (subst (λ (l : List ℕ). Exchanged v mid2 m map' (b.id ∷ whole) l) (sym blocks_since) all)

        entry : Named
        entry = (name, attribute_at volume id)

        named_before : attributes_of volume (attribute_directory volume b.id) ≡ entry ∷ []
        unfolding entry
        named_before = ap (attributes_of volume) alone.can.there ∙ ap (map {B = Named} (λ (r : Row). (r.0, attribute_at volume (id_of r)))) only

        named_since : attributes_of since (attribute_directory since b.id) ≡ []
        named_since = ap (attributes_of since) missing

        area_since : items_of (drop 232 (contents map' b.id)) ≡ Some holds.stands.items
        area_since = ap items_of small ∙ holds.stands.area

        listed_before : entries_at volume b.id ≡ attributes_in holds.stands.items ++ (entry ∷ [])
        listed_before =
            ap (λ (o : Option (List Item)). entries_with volume b.id (unwrap_or o [])) holds.stands.area
            ∙ ap (λ (l : List Named). attributes_in holds.stands.items ++ l) named_before

        listed_since : entries_at since b.id ≡ attributes_in holds.stands.items ++ []
        listed_since =
            ap (λ (o : Option (List Item)). entries_with since b.id (unwrap_or o [])) area_since
            ∙ ap (λ (l : List Named). attributes_in holds.stands.items ++ l) named_since

        apart_before : AreApart (attributes_in holds.stands.items ++ (entry ∷ []))
        apart_before = subst AreApart (ap (λ (l : List Named). attributes_in holds.stands.items ++ l) named_before) holds.stands.apart

        attributes_are : attributes_at since b.id ≡ remove (attributes_at volume b.id) name
        unfolding entry
        attributes_are =
            ap (from_entries {R = text_cmp}) listed_since
            ∙ map_parted (attributes_in holds.stands.items) [] entry apart_before
            ∙ ap (λ (l : List Named). remove (from_entries {R = text_cmp} l) name) (sym listed_before)

        stands_since : HasAttributes since b.id
        stands_since = record {
          items = holds.stands.items;
          area = area_since;
          distinct = holds.stands.distinct;
          directory = subst (HasDirectory since b.id) (sym missing) tt;
          apart = subst AreApart (ap (λ (l : List Named). attributes_in holds.stands.items ++ l) (sym named_since)) (apart_parted (attributes_in holds.stands.items) [] entry apart_before);
          inside = subst (λ (l : List ℕ). (k : ℕ) → In k l → k < b.geometry.blocks) (sym ids_since) (λ k bad. absurd bad);
        }

        holds_since : Holds b mid2 map'
        holds_since = record {
          stands = stands_since;
          inode = subst (λ (o : Option (List ℕ)). IsSome o) (sym (block_here m2 b.id put.block)) refl;
          streams = subst (λ (l : List ℕ). (k : ℕ) → In k l → HasHeld (origin b.geometry k) mid2 map') (sym ids_since) (λ k bad. absurd bad);
          once = subst IsOnce (sym blocks_since) (λ k. let f = few k in let c = count k in omega (arith, f, c));
          taken = come_used v mid2 m map' (attribute_blocks b.geometry m b.id) (attribute_blocks b.geometry map' b.id) exchanged;
          outside = still_outside v mid2 m map' (attribute_blocks b.geometry m b.id) (attribute_blocks b.geometry map' b.id) exchanged b.id holds.outside;
          bits = bits_used v mid2 m map' (attribute_blocks b.geometry m b.id) (attribute_blocks b.geometry map' b.id) exchanged holds.bits;
          fits = exchanged.fits;
        }

        -- nothing that was given back is marked
        pub last_clear : IfSome told3 (KeepsClear v mid2 m)
        last_clear =
            clear_told v mid2 m map' told3 put.is
            (clear_twice v mid2 mid2 m m2 map' (rest2 ∙ ap (λ (x : Room). record x { given = mid2.given; tally = mid2.tally }) rest1)
            (clear_twice v mid mid2 m m1 m2 rest1 (given_clear (origin b.geometry id) v mid m told1 old half gone1) (given_clear (origin b.geometry d) mid mid2 m1 told2 half third gone2))
            (exchange_clear mid2 mid2 m2 map' (b.id ∷ []) (b.id ∷ []) second refl))

        module _ (new : ℕ → Bool) (set : (k : ℕ) → new k ≡ true → (third k ≡ true) ⊎ (k ≡ b.id)) where
          these : List ℕ
          these = attribute_blocks b.geometry m b.id ++ attribute_blocks b.geometry map' b.id

          in_these : (k : ℕ) → Has (b.id ∷ whole) k → Has these k
          unfolding these
          in_these k has = has_left (attribute_blocks b.geometry m b.id) (attribute_blocks b.geometry map' b.id) k (subst (λ (l : List ℕ). Has l k) (sym blocks_before) has)

          in_first : (k : ℕ) → Has (id ∷ []) k → Has these k
          in_first k has = in_these k (has_right (b.id ∷ []) whole k (has_right last_whole first_whole k
              (has_left (id ∷ []) (arrays_at (sizes b.geometry) (contents m) id ++ places_at (sizes b.geometry) (contents m) id) k has)))

          in_last : (k : ℕ) → Has (d ∷ []) k → Has these k
          in_last k has = in_these k (has_right (b.id ∷ []) whole k (has_left last_whole first_whole k
              (has_left (d ∷ []) (arrays_at (sizes b.geometry) (contents m) d ++ places_at (sizes b.geometry) (contents m) d) k has)))

          half_wrote : AreWritten v old third these
          half_wrote = wrote_twice (IsBitmapBlock v) old half third these (wrote_more (IsBitmapBlock v) old half (id ∷ []) these in_first gone1.written)
              (wrote_more (IsBitmapBlock v) half third (d ∷ []) these in_last (subst (λ (x : Room). AreWritten x half third (d ∷ [])) rest1 gone2.written))

          wrote : AreWritten v old new these
          wrote = wrote_then v old third new b.id these these half_wrote set (λ k has. has) (in_these b.id (has_first b.id whole))

          entered : (k : ℕ) → Has (attribute_blocks b.geometry map' b.id) k → times k (attribute_blocks b.geometry m b.id) ≡ 0 → new k ≡ true
          entered k has free =
              let some : 0 < times k (b.id ∷ []) = subst (λ (l : List ℕ). Has l k) blocks_since has in
              let empty : times k (b.id ∷ whole) ≡ 0 = subst (λ (l : List ℕ). times k l ≡ 0) blocks_before free in
              let c = count k in
              absurd (omega (arith, some, empty, c))

          now_are : AttributesNow b v mid2 m (remove (attributes_at volume b.id) name) told3 old new
          unfolding these
          now_are = now_exchanged b v mid2 m map' (remove (attributes_at volume b.id) name) told3 old new put.is exchanged holds_since attributes_are (kept_of (inode_at (contents map' b.id)) (inode_at (contents m b.id)) zero_run fields) wrote entered

          pub last_gone : HasLastTaken b v mid2 m (remove (attributes_at volume b.id) name) told3 old new
          unfolding now_are now_exchanged
          last_gone = record { now_are = now_are; missing = missing; small = small }
