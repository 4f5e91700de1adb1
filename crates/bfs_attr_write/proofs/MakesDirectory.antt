-- An attribute directory that was stored, and named by the inode that bears the attributes.
use Rattle.std.proofs.Common.{◌≡◌, ◌⊎◌, inl, inr, ◌≤◌, ◌<◌, ◌+◌, ◌/◌, ◌%◌, ◌^◌, ◌∙◌, ℕ, ℤ, zero, suc, List, [], ◌∷◌, ◌++◌, Bool, true, false, cond, Option, Some, None, refl, sym, ap, subst, arith, map, drop}
use Rattle.std.specs.Prelude.{IsSome, unwrap_or}
use Rattle.std.specs.FinMap.{from_entries}
use Rattle.std.specs.List.{filter, flat_map, AllByRecursion}
use Rattle.std.proofs.lemmas.List.{append-nil}
use Rattle.bfs_base.specs.Keys.{text_cmp}
use Rattle.bfs_base.specs.Lists.{times, Has, IsOnce, Agree}
use Rattle.bfs_base.specs.declared.kind.KeyKind.TheVariants.{Text}
use Rattle.bfs_bitmap.specs.Runs.{Room, is_free}
use Rattle.bfs_bytes.specs.Fields.{run_in}
use Rattle.bfs_bytes.specs.declared.Run.{Run}
use Rattle.bfs_inode.specs.Inode.{Inode, inode_at}
use Rattle.bfs_inode.specs.Refusals.{Names}
use Rattle.bfs_node.specs.Page.{Row}
use Rattle.bfs_smalldata.specs.Items.{Item, items_of}
use Rattle.bfs_super.specs.Geometry.{geometry_of}
use Rattle.bfs_super.specs.declared.sup.Super.{Super}
use Rattle.bfs_txn.specs.Told.{AreSized, StaysChanged, with_block}
use Rattle.bfs_stream.specs.Grown.{IsOutside, AreWritten}
use Rattle.bfs_stream.specs.Places.{whole_at}
use Rattle.bfs_stream.specs.Sizes.{IsInVolume, sizes_of, first_block}
use Rattle.bfs_stream.specs.Told.{contents}
use Rattle.bfs_stream.proofs.Doubles.{times-append}
use Rattle.bfs_stream.proofs.Frames.{has_first, has_left, has_right, bytes_same}
use Rattle.bfs_values.specs.Reached.{IsWholeTree}
use Rattle.bfs_values.specs.Rows.{rows_in}
use Rattle.bfs_maps.specs.Mapped.{HasHeld}
use Rattle.bfs_sound.specs.Volumes.{Volume, sizes}
use Rattle.bfs_sound.specs.Owners.{In}
use Rattle.bfs_sound.specs.Inodes.{is_proper, proper_rows, id_of, content, HasBit, mode_bits, IsOwner}
use Rattle.bfs_sound.specs.Nodes.{AreApart}
use Rattle.bfs_sound.specs.Attributes.{Named, is_zero, attributes_in, attributes_of, attribute_at, attribute_directory, attribute_inodes, HasDirectory, IsAttributeDirectory, IsAttributeRow}
use Rattle.bfs_sound.proofs.Rows.{mode_stays}
use Rattle.bfs_sound.proofs.Streams.{frame_of_whole, block_stays, owner_stays}
use Rattle.bfs_make.specs.Made.{IsInodeOf, HasStored, formed_at}
use Rattle.bfs_make.specs.declared.making.NewInode.{NewInode}
use Rattle.bfs_make.proofs.News.{is_only}
use Rattle.bfs_make.proofs.Written.{block_here}
use Rattle.bfs_attr.specs.Bearers.{Bearer, bearer_of, volume_at, origin, HasAttributes, entries_with, entries_at, attributes_at}
use Rattle.bfs_attr.specs.Changed.{attribute_blocks, Holds, AttributesNow}
use Rattle.bfs_attr.specs.Made.{directory_form}
use Rattle.bfs_attr.proofs.Owned.{names_run, owner_is, bits_are}
use Rattle.bfs_attr_write.specs.Directories.{CanMake, HasAddress, IsDirectoryInode, HasDirectoryMade}
use Rattle.bfs_attr_write.specs.Exchanged.{Exchanged}
use Rattle.bfs_attr_write.proofs.Exchanges.{exchanged_beside, exchanged_twice}
use Rattle.bfs_attr_write.proofs.Brings.{new_exchange}
use Rattle.bfs_attr_write.proofs.Beside.{not_come, come_used, still_outside, bits_used, block_same, once_beside, agree_beside, whole_beside, held_beside}
use Rattle.bfs_attr_write.proofs.Addressed.{block_exchange, now_exchanged, kept_of, not_zero, wrote_then}

module _ (s : Super) (inode : ℕ) (v mid : Room) (m : ℕ → Option (List ℕ)) (can : CanMake (bearer_of inode s) v m) (address parent : Run) (stamp : ℤ) (bytes : List ℕ) (told1 : Option (ℕ → Option (List ℕ))) (old half : ℕ → Bool)
    (stored : HasStored (sizes_of s) v mid m (formed_at address (directory_form parent stamp)) bytes told1 old half) (inside : IsInVolume (sizes_of s) address) (one : address.len ≡ 1) (above : Names parent inode (geometry_of s).shift)
    (sized : AreSized s.block_size (Some stored.map)) (tree : IsWholeTree Text bytes) (none : rows_in Text bytes ≡ []) where
  abbrev b : Bearer
  b = bearer_of inode s

  abbrev n : NewInode
  n = formed_at address (directory_form parent stamp)

  abbrev d : ℕ
  d = first_block (sizes_of s) address

  abbrev m1 : ℕ → Option (List ℕ)
  m1 = stored.map

  abbrev volume : Volume
  volume = volume_at b.geometry m

  abbrev between : Volume
  between = volume_at b.geometry m1

  abbrev whole : List ℕ
  whole = whole_at (sizes b.geometry) (contents m1) d

  first : Exchanged v mid m m1 [] whole
  first = new_exchange (origin b.geometry d) v mid m m1 stored.stream

  blocks_before : attribute_blocks b.geometry m inode ≡ inode ∷ []
  blocks_before = ap (λ (o : Option ℕ). inode ∷ flat_map (whole_at (sizes b.geometry) (contents m)) (attribute_inodes volume o)) can.missing

  inode_taken : is_free v m inode ≡ false
  inode_taken = can.holds.taken inode (subst (λ (l : List ℕ). Has l inode) (sym blocks_before) (has_first inode []))

  one_taken : (k : ℕ) → Has (inode ∷ []) k → is_free v m k ≡ false
  one_taken k has = subst (λ (j : ℕ). is_free v m j ≡ false) (sym (is_only k inode has)) inode_taken

  beside : Exchanged v mid m m1 (inode ∷ []) (inode ∷ whole)
  beside = exchanged_beside v mid m m1 [] whole (inode ∷ []) first one_taken (λ k has. refl)

  not_whole : times inode whole ≡ 0
  not_whole = not_come v mid m m1 [] whole first inode inode_taken refl

  out_mid : IsOutside mid inode
  out_mid = still_outside v mid m m1 [] whole first inode can.holds.outside

  all_taken : (k : ℕ) → Has (inode ∷ whole) k → is_free mid m1 k ≡ false
  all_taken = come_used v mid m m1 (inode ∷ []) (inode ∷ whole) beside

  bearer_map : m1 inode ≡ m inode
  bearer_map = block_same v mid m m1 [] whole first inode can.holds.outside inode_taken refl

  bearer_same : contents m1 inode ≡ contents m inode
  bearer_same = ap (λ (o : Option (List ℕ)). unwrap_or o []) bearer_map

  -- the inode that bears them is still told
  pub bearer_told : IsSome (m1 inode)
  bearer_told = subst (λ (o : Option (List ℕ)). IsSome o) (sym bearer_map) can.holds.inode

  module _ (told2 : Option (ℕ → Option (List ℕ))) (put : HasAddress stored.map inode address told2) where
    abbrev map' : ℕ → Option (List ℕ)
    map' = with_block inode put.block stored.map

    abbrev since : Volume
    since = volume_at b.geometry map'

    second : Exchanged mid mid m1 map' (inode ∷ whole) (inode ∷ whole)
    second = block_exchange mid m1 inode put.block (inode ∷ whole) out_mid (has_first inode whole) all_taken beside.fits

    both : Exchanged v mid m map' (inode ∷ []) (inode ∷ whole)
    both = exchanged_twice v mid mid m m1 map' (inode ∷ []) (inode ∷ whole) (inode ∷ whole) beside second one_taken (λ k has. inr has)

    -- the stream of the directory isn't touched by the inode's block
    narrow : Exchanged mid mid m1 map' (inode ∷ []) (inode ∷ [])
    narrow = block_exchange mid m1 inode put.block (inode ∷ []) out_mid (has_first inode []) (λ k has. all_taken k (has_left (inode ∷ []) whole k has)) beside.fits

    apart_one : (k : ℕ) → Has whole k → times k (inode ∷ []) ≡ 0
    apart_one k has = by_count (times k (inode ∷ [])) refl
      where
        by_count : (c : ℕ) → times k (inode ∷ []) ≡ c → times k (inode ∷ []) ≡ 0
        by_count zero z = z
        by_count (suc c) z =
            let at : k ≡ inode = is_only k inode (let h : 0 < times k (inode ∷ []) = omega (arith, z) in h) in
            let some : 0 < times inode whole = subst (Has whole) at has in
            let empty = not_whole in
            absurd (omega (arith, some, empty))

    held_since : HasHeld (origin b.geometry d) mid map'
    held_since = (stored.held.0, held_beside mid mid m1 map' (inode ∷ []) (inode ∷ []) narrow (origin b.geometry d) stored.held.0 stored.held.1 apart_one)

    agree : Agree (contents m1) (contents map') whole
    agree = agree_beside mid mid m1 map' (inode ∷ []) (inode ∷ []) narrow (origin b.geometry d) stored.held.0 stored.held.1 apart_one

    whole_is : whole_at (sizes b.geometry) (contents map') d ≡ whole
    whole_is = whole_beside mid mid m1 map' (inode ∷ []) (inode ∷ []) narrow (origin b.geometry d) stored.held.0 stored.held.1 apart_one

    -- the inode's block
    here : contents map' inode ≡ put.block
    here = ap (λ (o : Option (List ℕ)). unwrap_or o []) (block_here m1 inode put.block)

    fields : inode_at (contents map' inode) ≡ record (inode_at (contents m inode)) { attributes = address }
    fields = ap inode_at here ∙ put.inode ∙ ap (λ (l : List ℕ). let r : Inode = record (inode_at l) { attributes = address } in r) bearer_same

    run_is : run_in (contents map' inode) 52 ≡ address
    run_is = ap (λ (i : Inode). i.attributes) fields

    small : drop 232 (contents map' inode) ≡ drop 232 (contents m inode)
    small = ap (λ (i : Inode). i.small_data) fields

    directory_since : attribute_directory since inode ≡ Some d
    directory_since =
        ap (λ (r : Run). cond (is_zero r) None (Some (first_block (sizes b.geometry) r))) run_is
        ∙ ap (λ (t : Bool). cond t None (Some d)) (not_zero address one)

    content_since : content since d ≡ bytes
    content_since = bytes_same (contents m1) (contents map') (sizes b.geometry) d agree ∙ stored.content

    rows_since : proper_rows since d ≡ []
    rows_since = ap (λ (l : List ℕ). filter (λ (r : Row). is_proper r.0) (rows_in Text l)) content_since ∙ ap (filter (λ (r : Row). is_proper r.0)) none

    ids_since : attribute_inodes since (attribute_directory since inode) ≡ d ∷ []
    ids_since = ap (attribute_inodes since) directory_since ∙ ap (λ (l : List Row). d ∷ map id_of l) rows_since

    blocks_since : attribute_blocks b.geometry map' inode ≡ inode ∷ whole
    blocks_since =
        ap (λ (l : List ℕ). inode ∷ flat_map (whole_at (sizes b.geometry) (contents map')) l) ids_since
        ∙ ap (λ (l : List ℕ). inode ∷ l) (append-nil (whole_at (sizes b.geometry) (contents map') d) ∙ whole_is)

    exchanged : Exchanged v mid m map' (attribute_blocks b.geometry m inode) (attribute_blocks b.geometry map' inode)
    exchanged =
        subst (λ (l : List ℕ). Exchanged v mid m map' l (attribute_blocks b.geometry map' inode)) (sym blocks_before)
        (subst (λ (l : List ℕ). Exchanged v mid m map' (inode ∷ []) l) (sym blocks_since) both)

    -- the attributes
    named_before : attributes_of volume (attribute_directory volume inode) ≡ []
    named_before = ap (attributes_of volume) can.missing

    abbrev entry_since : Row → Named
    entry_since r = (r.0, attribute_at since (id_of r))

    named_since : attributes_of since (attribute_directory since inode) ≡ []
    named_since = ap (attributes_of since) directory_since ∙ ap (map entry_since) rows_since

    area_since : items_of (drop 232 (contents map' inode)) ≡ Some can.holds.stands.items
    area_since = ap items_of small ∙ can.holds.stands.area

    listed : entries_at since inode ≡ entries_at volume inode
    listed =
        ap (λ (o : Option (List Item)). entries_with since inode (unwrap_or o [])) area_since
        ∙ ap (λ (l : List Named). attributes_in can.holds.stands.items ++ l) (named_since ∙ sym named_before)
        ∙ sym (ap (λ (o : Option (List Item)). entries_with volume inode (unwrap_or o [])) can.holds.stands.area)

    owner_between : IsOwner between d
    owner_between = owner_is s v mid m n bytes told1 old half stored inside one sized 0x80041c0 1 refl refl refl

    mode_between : HasBit (mode_bits between d) 27
    mode_between = ap (λ (k : ℕ). k / 2 ^ 27 % 2) (bits_are s v mid m n bytes told1 old half stored inside one sized 0x80041c0 1 refl refl refl)

    block_d : contents map' d ≡ contents m1 d
    block_d = block_stays between (contents map') b.geometry.used d (frame_of_whole between (contents map') b.geometry.used d agree)

    directory_is : IsAttributeDirectory since inode d
    directory_is = record {
      address = subst (λ (r : Run). Names r d b.geometry.shift) (sym run_is) (names_run s address inside one);
      owner = owner_stays between (contents map') b.geometry.used d (frame_of_whole between (contents map') b.geometry.used d agree) owner_between;
      mode = mode_stays between (contents map') b.geometry.used d 27 block_d mode_between;
      tree = subst (IsWholeTree Text) (sym content_since) tree;
      rows = subst (AllByRecursion (IsAttributeRow since)) (sym rows_since) tt;
    }

    low : (k : ℕ) → In k (d ∷ []) → k < b.geometry.blocks
    low k (inl e) =
        let at : d + address.len ≤ b.geometry.blocks = inside.inside in
        let here : d < b.geometry.blocks = omega (arith, at, one) in
        subst (λ (j : ℕ). j < b.geometry.blocks) (sym e) here
    low k (inr bad) = absurd bad

    streams : (k : ℕ) → In k (d ∷ []) → HasHeld (origin b.geometry k) mid map'
    streams k (inl e) = subst (λ (j : ℕ). HasHeld (origin b.geometry j) mid map') (sym e) held_since
    streams k (inr bad) = absurd bad

    stands_since : HasAttributes since inode
    stands_since = record {
      items = can.holds.stands.items;
      area = area_since;
      distinct = can.holds.stands.distinct;
      directory = subst (HasDirectory since inode) (sym directory_since) directory_is;
      apart = subst AreApart (ap (λ (l : List Named). attributes_in can.holds.stands.items ++ l) (named_before ∙ sym named_since)) can.holds.stands.apart;
      inside = subst (λ (l : List ℕ). (k : ℕ) → In k l → k < b.geometry.blocks) (sym ids_since) low;
    }

    once_both : IsOnce (inode ∷ whole)
    once_both = once_beside v mid m m1 [] whole first (inode ∷ []) one_taken (subst IsOnce blocks_before can.holds.once) stored.stream.owns.once

    holds_since : Holds b mid map'
    holds_since = record {
      stands = stands_since;
      inode = subst (λ (o : Option (List ℕ)). IsSome o) (sym (block_here m1 inode put.block)) refl;
      streams = subst (λ (l : List ℕ). (k : ℕ) → In k l → HasHeld (origin b.geometry k) mid map') (sym ids_since) streams;
      once = subst IsOnce (sym blocks_since) once_both;
      taken = come_used v mid m map' (attribute_blocks b.geometry m inode) (attribute_blocks b.geometry map' inode) exchanged;
      outside = still_outside v mid m map' (attribute_blocks b.geometry m inode) (attribute_blocks b.geometry map' inode) exchanged inode can.holds.outside;
      bits = bits_used v mid m map' (attribute_blocks b.geometry m inode) (attribute_blocks b.geometry map' inode) exchanged can.holds.bits;
      fits = exchanged.fits;
    }

    module _ (new : ℕ → Bool) (set : (k : ℕ) → new k ≡ true → (half k ≡ true) ⊎ (k ≡ inode)) (stays : StaysChanged half new) where
      these : List ℕ
      these = attribute_blocks b.geometry m inode ++ attribute_blocks b.geometry map' inode

      in_these : (k : ℕ) → Has whole k → Has these k
      unfolding these
      in_these k has = has_right (attribute_blocks b.geometry m inode) (attribute_blocks b.geometry map' inode) k (subst (λ (l : List ℕ). Has l k) (sym blocks_since) (has_right (inode ∷ []) whole k has))

      inode_these : Has these inode
      unfolding these
      inode_these = has_left (attribute_blocks b.geometry m inode) (attribute_blocks b.geometry map' inode) inode (subst (λ (l : List ℕ). Has l inode) (sym blocks_before) (has_first inode []))

      wrote : AreWritten v old new these
      wrote = wrote_then v old half new inode whole these stored.written set in_these inode_these

      entered : (k : ℕ) → Has (attribute_blocks b.geometry map' inode) k → times k (attribute_blocks b.geometry m inode) ≡ 0 → new k ≡ true
      entered k has free =
          let some : 0 < times k (inode ∷ whole) = subst (λ (l : List ℕ). Has l k) blocks_since has in
          let not_inode : times k (inode ∷ []) ≡ 0 = subst (λ (l : List ℕ). times k l ≡ 0) blocks_before free in
          let p : times k (inode ∷ whole) ≡ times k (inode ∷ []) + times k whole = times-append k (inode ∷ []) whole in
          stays k (stored.entered k (let h : 0 < times k whole = omega (arith, some, not_inode, p) in h))

      now_are : AttributesNow b v mid m (attributes_at volume inode) told2 old new
      unfolding these
      now_are = now_exchanged b v mid m map' (attributes_at volume inode) told2 old new put.is exchanged holds_since (ap (from_entries {R = text_cmp}) listed) (kept_of (inode_at (contents map' inode)) (inode_at (contents m inode)) address fields) wrote entered

      directory_inode : IsDirectoryInode since inode d stamp
      directory_inode = record {
        address = address;
        parent = parent;
        own = names_run s address inside one;
        above = above;
        inode = subst (IsInodeOf s.block_size n) (sym block_d) stored.inode;
      }

      pub has_directory : HasDirectoryMade b v mid m d stamp told2 old new
      unfolding now_are now_exchanged
      has_directory = record { now_are = now_are; there = directory_since; empty = rows_since; inode = directory_inode; small = small }
