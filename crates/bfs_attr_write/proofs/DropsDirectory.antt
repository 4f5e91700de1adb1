-- An attribute directory that was given back, and is named by the inode that bears the attributes no more.
use Rattle.std.proofs.Common.{◌≡◌, ◌⊎◌, inl, inr, ◌≤◌, ◌<◌, ◌+◌, ◌∙◌, ℕ, List, [], ◌∷◌, ◌++◌, Bool, true, false, cond, Option, Some, None, refl, sym, ap, subst, arith, map, drop}
use Rattle.std.specs.Prelude.{IsSome, unwrap_or}
use Rattle.std.specs.FinMap.{from_entries}
use Rattle.std.specs.List.{flat_map}
use Rattle.std.proofs.lemmas.List.{append-nil}
use Rattle.bfs_base.specs.Keys.{text_cmp}
use Rattle.bfs_base.specs.Lists.{times, Has, IsOnce}
use Rattle.bfs_bitmap.specs.Runs.{Room, is_free}
use Rattle.bfs_bytes.specs.Fields.{run_in}
use Rattle.bfs_bytes.specs.declared.Run.{Run}
use Rattle.bfs_inode.specs.Inode.{Inode, inode_at}
use Rattle.bfs_node.specs.Page.{Row}
use Rattle.bfs_smalldata.specs.Items.{Item, items_of}
use Rattle.bfs_txn.specs.Told.{with_block}
use Rattle.bfs_stream.specs.Grown.{IsOutside, AreWritten}
use Rattle.bfs_stream.specs.Places.{whole_at, arrays_at, places_at}
use Rattle.bfs_stream.specs.Sizes.{first_block}
use Rattle.bfs_stream.specs.Told.{contents}
use Rattle.bfs_stream.proofs.Doubles.{times-append}
use Rattle.bfs_stream.proofs.Frames.{has_first, has_left, has_right}
use Rattle.bfs_maps.specs.Mapped.{HasHeld}
use Rattle.bfs_sound.specs.Volumes.{Volume, sizes}
use Rattle.bfs_sound.specs.Owners.{In}
use Rattle.bfs_sound.specs.Inodes.{id_of}
use Rattle.bfs_sound.specs.Nodes.{AreApart}
use Rattle.bfs_sound.specs.Attributes.{Named, is_zero, attributes_in, attributes_of, attribute_at, attribute_directory, attribute_inodes, HasDirectory}
use Rattle.bfs_make.specs.Given.{HasGivenBack}
use Rattle.bfs_make.specs.Made.{zero_run}
use Rattle.bfs_make.proofs.Written.{block_here}
use Rattle.bfs_attr.specs.Bearers.{Bearer, volume_at, origin, HasAttributes, entries_with, entries_at, attributes_at}
use Rattle.bfs_attr.specs.Changed.{attribute_blocks, Holds, AttributesNow}
use Rattle.bfs_attr_write.specs.Directories.{CanDrop, HasAddress, HasDirectoryDropped}
use Rattle.bfs_attr_write.specs.Exchanged.{Exchanged}
use Rattle.bfs_attr_write.proofs.Exchanges.{exchanged_beside, exchanged_twice}
use Rattle.bfs_attr_write.proofs.Brings.{gone_exchange}
use Rattle.bfs_attr_write.proofs.Beside.{come_used, still_outside, bits_used, block_same}
use Rattle.bfs_attr_write.proofs.Addressed.{block_exchange, now_exchanged, kept_of, wrote_then}

module _ (b : Bearer) (v mid : Room) (m : ℕ → Option (List ℕ)) (d : ℕ) (can : CanDrop b v m d) where
  abbrev volume : Volume
  volume = volume_at b.geometry m

  abbrev whole : List ℕ
  whole = whole_at (sizes b.geometry) (contents m) d

  ids_before : attribute_inodes volume (attribute_directory volume b.id) ≡ d ∷ []
  ids_before = ap (attribute_inodes volume) can.there ∙ ap (λ (l : List Row). d ∷ map id_of l) can.empty

  abbrev entry_before : Row → Named
  entry_before r = (r.0, attribute_at volume (id_of r))

  -- the directory's stream is held
  pub directory_held : HasHeld (origin b.geometry d) v m
  directory_held = can.holds.streams d (subst (λ (l : List ℕ). In d l) (sym ids_before) (inl refl))

  blocks_before : attribute_blocks b.geometry m b.id ≡ b.id ∷ whole
  blocks_before =
      ap (λ (l : List ℕ). b.id ∷ flat_map (whole_at (sizes b.geometry) (contents m)) l) ids_before
      ∙ ap (λ (l : List ℕ). b.id ∷ l) (append-nil whole)

  all_taken : (k : ℕ) → Has (b.id ∷ whole) k → is_free v m k ≡ false
  all_taken k has = can.holds.taken k (subst (λ (l : List ℕ). Has l k) (sym blocks_before) has)

  one_taken : (k : ℕ) → Has (b.id ∷ []) k → is_free v m k ≡ false
  one_taken k has = all_taken k (has_left (b.id ∷ []) whole k has)

  apart : (k : ℕ) → Has (b.id ∷ []) k → times k whole ≡ 0
  apart k has =
      let p : times k (b.id ∷ whole) ≡ times k (b.id ∷ []) + times k whole = times-append k (b.id ∷ []) whole in
      let few : times k (b.id ∷ whole) ≤ 1 = subst (λ (l : List ℕ). times k l ≤ 1) blocks_before (can.holds.once k) in
      let some : 0 < times k (b.id ∷ []) = has in
      omega (arith, p, few, some)

  module _ (told1 : Option (ℕ → Option (List ℕ))) (old half : ℕ → Bool) (gone : HasGivenBack (origin b.geometry d) v mid m told1 old half) (rest : mid ≡ record v { given = mid.given; tally = mid.tally }) where
    abbrev m1 : ℕ → Option (List ℕ)
    m1 = gone.map

    first : Exchanged v mid m m1 whole []
    first = gone_exchange (origin b.geometry d) v mid m told1 old half gone rest

    beside : Exchanged v mid m m1 (b.id ∷ whole) (b.id ∷ [])
    beside = exchanged_beside v mid m m1 whole [] (b.id ∷ []) first one_taken apart

    bearer_map : m1 b.id ≡ m b.id
    bearer_map = block_same v mid m m1 whole [] first b.id can.holds.outside (one_taken b.id (has_first b.id [])) (apart b.id (has_first b.id []))

    bearer_same : contents m1 b.id ≡ contents m b.id
    bearer_same = ap (λ (o : Option (List ℕ)). unwrap_or o []) bearer_map

    -- the inode is still told
    pub bearer_told : IsSome (m1 b.id)
    bearer_told = subst (λ (o : Option (List ℕ)). IsSome o) (sym bearer_map) can.holds.inode

    out_mid : IsOutside mid b.id
    out_mid = still_outside v mid m m1 whole [] first b.id can.holds.outside

    module _ (told2 : Option (ℕ → Option (List ℕ))) (put : HasAddress gone.map b.id zero_run told2) where
      abbrev map' : ℕ → Option (List ℕ)
      map' = with_block b.id put.block gone.map

      abbrev since : Volume
      since = volume_at b.geometry map'

      second : Exchanged mid mid m1 map' (b.id ∷ []) (b.id ∷ [])
      second = block_exchange mid m1 b.id put.block (b.id ∷ []) out_mid (has_first b.id []) (come_used v mid m m1 (b.id ∷ whole) (b.id ∷ []) beside) beside.fits

      both : Exchanged v mid m map' (b.id ∷ whole) (b.id ∷ [])
      both = exchanged_twice v mid mid m m1 map' (b.id ∷ whole) (b.id ∷ []) (b.id ∷ []) beside second all_taken (λ k has. inr has)

      here : contents map' b.id ≡ put.block
      here = ap (λ (o : Option (List ℕ)). unwrap_or o []) (block_here m1 b.id put.block)

      fields : inode_at (contents map' b.id) ≡ record (inode_at (contents m b.id)) { attributes = zero_run }
      fields = ap inode_at here ∙ put.inode ∙ ap (λ (l : List ℕ). let r : Inode = record (inode_at l) { attributes = zero_run } in r) bearer_same

      run_is : run_in (contents map' b.id) 52 ≡ zero_run
      run_is = ap (λ (i : Inode). i.attributes) fields

      small : drop 232 (contents map' b.id) ≡ drop 232 (contents m b.id)
      small = ap (λ (i : Inode). i.small_data) fields

      missing : attribute_directory since b.id ≡ None
      missing = ap (λ (r : Run). cond (is_zero r) None (Some (first_block (sizes b.geometry) r))) run_is

      ids_since : attribute_inodes since (attribute_directory since b.id) ≡ []
      ids_since = ap (attribute_inodes since) missing

      blocks_since : attribute_blocks b.geometry map' b.id ≡ b.id ∷ []
      blocks_since = ap (λ (l : List ℕ). b.id ∷ flat_map (whole_at (sizes b.geometry) (contents map')) l) ids_since

      exchanged : Exchanged v mid m map' (attribute_blocks b.geometry m b.id) (attribute_blocks b.geometry map' b.id)
      exchanged =
          subst (λ (l : List ℕ). Exchanged v mid m map' l (attribute_blocks b.geometry map' b.id)) (sym blocks_before)
          (subst (λ (l : List ℕ). Exchanged v mid m map' (b.id ∷ whole) l) (sym blocks_since) both)

      named_before : attributes_of volume (attribute_directory volume b.id) ≡ []
      named_before = ap (attributes_of volume) can.there ∙ ap (map entry_before) can.empty

      named_since : attributes_of since (attribute_directory since b.id) ≡ []
      named_since = ap (attributes_of since) missing

      area_since : items_of (drop 232 (contents map' b.id)) ≡ Some can.holds.stands.items
      area_since = ap items_of small ∙ can.holds.stands.area

      listed : entries_at since b.id ≡ entries_at volume b.id
      listed =
          ap (λ (o : Option (List Item)). entries_with since b.id (unwrap_or o [])) area_since
          ∙ ap (λ (l : List Named). attributes_in can.holds.stands.items ++ l) (named_since ∙ sym named_before)
          ∙ sym (ap (λ (o : Option (List Item)). entries_with volume b.id (unwrap_or o [])) can.holds.stands.area)

      stands_since : HasAttributes since b.id
      stands_since = record {
        items = can.holds.stands.items;
        area = area_since;
        distinct = can.holds.stands.distinct;
        directory = subst (HasDirectory since b.id) (sym missing) tt;
        apart = subst AreApart (ap (λ (l : List Named). attributes_in can.holds.stands.items ++ l) (named_before ∙ sym named_since)) can.holds.stands.apart;
        inside = subst (λ (l : List ℕ). (k : ℕ) → In k l → k < b.geometry.blocks) (sym ids_since) (λ k bad. absurd bad);
      }

      holds_since : Holds b mid map'
      holds_since = record {
        stands = stands_since;
        inode = subst (λ (o : Option (List ℕ)). IsSome o) (sym (block_here m1 b.id put.block)) refl;
        streams = subst (λ (l : List ℕ). (k : ℕ) → In k l → HasHeld (origin b.geometry k) mid map') (sym ids_since) (λ k bad. absurd bad);
        once = subst IsOnce (sym blocks_since) once_one;
        taken = come_used v mid m map' (attribute_blocks b.geometry m b.id) (attribute_blocks b.geometry map' b.id) exchanged;
        outside = still_outside v mid m map' (attribute_blocks b.geometry m b.id) (attribute_blocks b.geometry map' b.id) exchanged b.id can.holds.outside;
        bits = bits_used v mid m map' (attribute_blocks b.geometry m b.id) (attribute_blocks b.geometry map' b.id) exchanged can.holds.bits;
        fits = exchanged.fits;
      }
        where
          once_one : IsOnce (b.id ∷ [])
          once_one k =
              let p : times k (b.id ∷ whole) ≡ times k (b.id ∷ []) + times k whole = times-append k (b.id ∷ []) whole in
              let few : times k (b.id ∷ whole) ≤ 1 = subst (λ (l : List ℕ). times k l ≤ 1) blocks_before (can.holds.once k) in
              omega (arith, p, few)

      module _ (new : ℕ → Bool) (set : (k : ℕ) → new k ≡ true → (half k ≡ true) ⊎ (k ≡ b.id)) where
        these : List ℕ
        these = attribute_blocks b.geometry m b.id ++ attribute_blocks b.geometry map' b.id

        in_these : (k : ℕ) → Has (b.id ∷ whole) k → Has these k
        unfolding these
        in_these k has = has_left (attribute_blocks b.geometry m b.id) (attribute_blocks b.geometry map' b.id) k (subst (λ (l : List ℕ). Has l k) (sym blocks_before) has)

        in_whole : (k : ℕ) → Has (d ∷ []) k → Has whole k
        in_whole k has = has_left (d ∷ []) (arrays_at (sizes b.geometry) (contents m) d ++ places_at (sizes b.geometry) (contents m) d) k has

        wrote : AreWritten v old new these
        wrote = wrote_then v old half new b.id (d ∷ []) these gone.written set (λ k has. in_these k (has_right (b.id ∷ []) whole k (in_whole k has))) (in_these b.id (has_first b.id whole))

        entered : (k : ℕ) → Has (attribute_blocks b.geometry map' b.id) k → times k (attribute_blocks b.geometry m b.id) ≡ 0 → new k ≡ true
        entered k has free =
            let some : 0 < times k (b.id ∷ []) = subst (λ (l : List ℕ). Has l k) blocks_since has in
            let empty : times k (b.id ∷ whole) ≡ 0 = subst (λ (l : List ℕ). times k l ≡ 0) blocks_before free in
            let p : times k (b.id ∷ whole) ≡ times k (b.id ∷ []) + times k whole = times-append k (b.id ∷ []) whole in
            absurd (omega (arith, some, empty, p))

        now_are : AttributesNow b v mid m (attributes_at volume b.id) told2 old new
        unfolding these
        now_are = now_exchanged b v mid m map' (attributes_at volume b.id) told2 old new put.is exchanged holds_since (ap (from_entries {R = text_cmp}) listed) (kept_of (inode_at (contents map' b.id)) (inode_at (contents m b.id)) zero_run fields) wrote entered

        pub has_dropped : HasDirectoryDropped b v mid m told2 old new
        unfolding now_are now_exchanged
        has_dropped = record { now_are = now_are; missing = missing; small = small }
