-- What stays of attributes where the block of the inode that bears them is written, and nothing else.
use Rattle.std.proofs.Common.{◌≡◌, ◌≢◌, ◌⊎◌, inl, inr, ◌≤◌, ◌<◌, ◌+◌, ℕ, zero, suc, List, [], ◌∷◌, ◌++◌, Bool, true, false, cond, not, Option, Some, None, refl, sym, ◌∙◌, ap, subst, arith, take, drop}
use Rattle.std.specs.Prelude.{◌==◌, ◌&&◌, IsSome, unwrap_or}
use Rattle.std.specs.List.{flat_map}
use Rattle.std.specs.FinMap.{from_entries}
use Rattle.bfs_base.specs.Keys.{text_cmp}
use Rattle.bfs_base.specs.Lists.{times, Has, IsOnce, Agree}
use Rattle.bfs_bytes.specs.declared.Run.{Run}
use Rattle.bfs_bytes.specs.Fields.{run_in}
use Rattle.bfs_inode.specs.Inode.{inode_at}
use Rattle.bfs_bitmap.specs.Runs.{Room, per_block, is_free, marked}
use Rattle.bfs_bitmap.specs.Fills.{IsBitmapBlock}
use Rattle.bfs_txn.specs.Told.{with_block}
use Rattle.bfs_stream.specs.Sizes.{Origin, first_block}
use Rattle.bfs_stream.specs.Places.{Levels, levels_at, arrays_of, places_of, places_at, frame_at, whole_at, HasLevels}
use Rattle.bfs_stream.specs.Told.{contents}
use Rattle.bfs_stream.specs.Grown.{IsOutside, AreWritten, is_new}
use Rattle.bfs_stream.proofs.Equal.{same_test}
use Rattle.bfs_stream.proofs.Doubles.{times-append}
use Rattle.bfs_stream.proofs.Finish.{free_same, marked_same, fits_same, counted_same}
use Rattle.bfs_stream.proofs.Frames.{has_first, has_left, agree_left, levels_same}
use Rattle.bfs_stream_pages.specs.Held.{Held}
use Rattle.bfs_smalldata.specs.Items.{Item, items_of}
use Rattle.bfs_smalldata.specs.Edits.{AreDistinct}
use Rattle.bfs_tree.specs.Trees.{Attributes}
use Rattle.bfs_maps.specs.Mapped.{HasHeld}
use Rattle.bfs_sound.specs.Volumes.{Volume, sizes}
use Rattle.bfs_sound.specs.Owners.{In}
use Rattle.bfs_sound.specs.Inodes.{inode_blocks}
use Rattle.bfs_sound.specs.Nodes.{AreApart}
use Rattle.bfs_sound.specs.Attributes.{Named, is_zero, attributes_in, attributes_of, attribute_directory, attribute_inodes, HasDirectory}
use Rattle.bfs_sound.proofs.Counts.{times_member}
use Rattle.bfs_sound.proofs.Rows.{has_directory_stays, attributes_stay, attribute_inodes_stay, inodes_stay}
use Rattle.bfs_make.proofs.Written.{block_here, block_other, block_told, bits_stay}
use Rattle.bfs_attr.specs.Bearers.{Bearer, volume_at, origin, HasAttributes, entries_with, entries_at}
use Rattle.bfs_attr.specs.Changed.{attribute_blocks, Holds, AttributesNow}
use Rattle.bfs_attr.proofs.Fronts.{run_front, inode_front}

-- the attribute directory is named by its address alone
directory_as : (v : Volume) (id : ℕ) (new : ℕ → List ℕ) → run_in (new id) 52 ≡ run_in (v.blocks id) 52 → attribute_directory (record v { blocks = new }) id ≡ attribute_directory v id
directory_as v id new run = ap (λ (r : Run). cond (is_zero r) None (Some (first_block (sizes v.geometry) r))) run

-- where an inode's small data changes, and of its attribute directory nothing
pub small_changes : (v : Volume) (id : ℕ) (new : ℕ → List ℕ) (items : List Item) → HasAttributes v id → run_in (new id) 52 ≡ run_in (v.blocks id) 52
    → Agree v.blocks new (flat_map (inode_blocks v) (attribute_inodes v (attribute_directory v id)))
    → items_of (drop 232 (new id)) ≡ Some items → AreDistinct items → AreApart (entries_with v id items)
    → HasAttributes (record v { blocks = new }) id × (entries_at (record v { blocks = new }) id ≡ entries_with v id items)
small_changes v id new items has run agree area distinct apart =
    let w : Volume = record v { blocks = new } in
    let used = v.geometry.used in
    let o : Option ℕ = attribute_directory v id in
    let same : attribute_directory w id ≡ o = directory_as v id new run in
    let attributes : attributes_of w (attribute_directory w id) ≡ attributes_of v o = ap (attributes_of w) same ∙ attributes_stay v new used o agree in
    let inodes : attribute_inodes w (attribute_directory w id) ≡ attribute_inodes v o = ap (attribute_inodes w) same ∙ attribute_inodes_stay v new used o agree in (
      record {
        items = items;
        area = area;
        distinct = distinct;
        directory = subst (HasDirectory w id) (sym same) (has_directory_stays v new used o id run agree has.directory);
        apart = subst (λ (l : List Named). AreApart (attributes_in items ++ l)) (sym attributes) apart;
        inside = subst (λ (l : List ℕ). (k : ℕ) → In k l → k < v.geometry.blocks) (sym inodes) has.inside;
      },
      ap (λ (x : Option (List Item)). entries_with w id (unwrap_or x [])) area ∙ ap (λ (l : List Named). attributes_in items ++ l) attributes,
    )

-- what isn't in a list isn't one of it
not_of : (xs : List ℕ) (k id : ℕ) → Has xs k → times id xs ≡ 0 → k ≢ id
not_of xs k id has none e = let some : 0 < times id xs = subst (Has xs) e has in omega (arith, some, none)

module _ (v : Room) (m : ℕ → Option (List ℕ)) (id : ℕ) (block : List ℕ) (out : IsOutside v id) where
  abbrev map : ℕ → Option (List ℕ)
  map = with_block id block m

  -- a stream without the inode among its blocks
  module _ (o : Origin) (long : ℕ) (held : Held o v long m) (apart : times id (whole_at o.sizes (contents m) o.id) ≡ 0) where
    same : (k : ℕ) → Has (whole_at o.sizes (contents m) o.id) k → map k ≡ m k
    same k has = block_other m id block k (not_of (whole_at o.sizes (contents m) o.id) k id has apart)

    agree : Agree (contents m) (contents map) (whole_at o.sizes (contents m) o.id)
    agree k has = ap (λ (x : Option (List ℕ)). unwrap_or x []) (same k has)

    levels : levels_at o.sizes (contents map) o.id ≡ levels_at o.sizes (contents m) o.id
    levels = levels_same (contents m) (contents map) o.sizes o.id (agree_left (contents m) (contents map) (frame_at o.sizes (contents m) o.id) (places_at o.sizes (contents m) o.id) agree)

    mine : (k : ℕ) → Has (whole_at o.sizes (contents map) o.id) k → Has (whole_at o.sizes (contents m) o.id) k
    mine k has = subst (λ (x : Levels). Has ((o.id ∷ arrays_of o.sizes x) ++ places_of o.sizes x) k) levels has

    pub held_stays : Held o v long map
    held_stays = record {
      owns = record {
        stands = record {
          told = λ k has.
              let before : Has (frame_at o.sizes (contents m) o.id) k = subst (λ (x : Levels). Has (o.id ∷ arrays_of o.sizes x) k) levels has in
              block_told m id block k (held.owns.stands.told k before);
          sound = subst (HasLevels o.sizes) (sym levels) held.owns.stands.sound;
        };
        once = λ k. subst (λ (x : Levels). times k ((o.id ∷ arrays_of o.sizes x) ++ places_of o.sizes x) ≤ 1) (sym levels) (held.owns.once k);
        taken = λ k has. free_same v m map (bits_stay v m id block out) k ∙ held.owns.taken k (mine k has);
        outside = λ k has. held.owns.outside k (mine k has);
        bits = λ k low. free_same v m map (bits_stay v m id block out) k ∙ held.owns.bits k low;
        fits = fits_same v m map (bits_stay v m id block out) held.owns.fits;
      };
      told = λ k has.
          let before : Has (places_at o.sizes (contents m) o.id) k = subst (λ (x : Levels). Has (places_of o.sizes x) k) levels has in
          block_told m id block k (held.told k before);
      size = ap (λ (x : Levels). x.stream.size) levels ∙ held.size;
    }

-- what is taken and not new
pub none_taken : (b : Bool) (n : ℕ) → (0 < n → b ≡ false) → b ≡ (b && (n == 0))
none_taken true zero taken = refl
none_taken false zero taken = refl
none_taken b (suc n) taken = let used = taken (omega arith) in used ∙ ap (λ (c : Bool). c && (suc n == 0)) (sym used)

pub none_new : (b : Bool) (x : ℕ) → x ≡ cond (b && not b) 1 (cond (b && not b) 0 x)
none_new true x = refl
none_new false x = refl

module _ (b : Bearer) (v : Room) (m : ℕ → Option (List ℕ)) (holds : Holds b v m) (block : List ℕ) (before : take 232 block ≡ take 232 (contents m b.id)) where
  abbrev now : ℕ → Option (List ℕ)
  now = with_block b.id block m

  abbrev old_volume : Volume
  old_volume = volume_at b.geometry m

  abbrev new_volume : Volume
  new_volume = volume_at b.geometry now

  abbrev directory : Option ℕ
  directory = attribute_directory old_volume b.id

  abbrev behind : List ℕ
  behind = flat_map (inode_blocks old_volume) (attribute_inodes old_volume directory)

  here : contents now b.id ≡ block
  here = ap (λ (o : Option (List ℕ)). unwrap_or o []) (block_here m b.id block)

  run_same : run_in (contents now b.id) 52 ≡ run_in (contents m b.id) 52
  run_same = ap (λ (l : List ℕ). run_in l 52) here ∙ run_front block (contents m b.id) before 52 (omega arith)

  first_counted : times b.id (b.id ∷ behind) ≡ 1 + times b.id behind
  first_counted = ap (λ (t : Bool). cond t 1 0 + times b.id behind) (same_test b.id)

  none_here : times b.id behind ≡ 0
  none_here = let once : times b.id (b.id ∷ behind) ≤ 1 = holds.once b.id in let first = first_counted in omega (arith, once, first)

  agree_behind : Agree (contents m) (contents now) behind
  agree_behind k has = ap (λ (o : Option (List ℕ)). unwrap_or o []) (block_other m b.id block k (not_of behind k b.id has none_here))

  inodes_same : attribute_inodes new_volume (attribute_directory new_volume b.id) ≡ attribute_inodes old_volume directory
  inodes_same = ap (attribute_inodes new_volume) (directory_as old_volume b.id (contents now) run_same) ∙ attribute_inodes_stay old_volume (contents now) b.geometry.used directory agree_behind

  -- none of the blocks comes or goes
  pub blocks_same : attribute_blocks b.geometry now b.id ≡ attribute_blocks b.geometry m b.id
  blocks_same =
      ap (λ (l : List ℕ). b.id ∷ flat_map (whole_at (sizes b.geometry) (contents now)) l) inodes_same
      ∙ ap (λ (l : List ℕ). b.id ∷ l) (inodes_stay old_volume (contents now) b.geometry.used (attribute_inodes old_volume directory) agree_behind)

  stream_stays : (k : ℕ) → In k (attribute_inodes old_volume directory) → HasHeld (origin b.geometry k) v now
  stream_stays k is =
      let held = holds.streams k is in
      let few : times b.id (whole_at (sizes b.geometry) (contents m) k) ≤ times b.id behind = times_member b.id (inode_blocks old_volume) (attribute_inodes old_volume directory) k is in
      let none = none_here in
      (held.0, held_stays v m b.id block holds.outside (origin b.geometry k) held.0 held.1 (omega (arith, few, none)))

  module _ (items : List Item) (area : items_of (drop 232 block) ≡ Some items) (distinct : AreDistinct items) (apart : AreApart (entries_with (volume_at b.geometry m) b.id items)) where
    changes : HasAttributes new_volume b.id × (entries_at new_volume b.id ≡ entries_with old_volume b.id items)
    changes = small_changes old_volume b.id (contents now) items holds.stands run_same agree_behind (ap (λ (l : List ℕ). items_of (drop 232 l)) here ∙ area) distinct apart

    pub holds_now : Holds b v now
    holds_now = record {
      stands = changes.0;
      inode = subst (λ (o : Option (List ℕ)). IsSome o) (sym (block_here m b.id block)) refl;
      streams = subst (λ (l : List ℕ). (k : ℕ) → In k l → HasHeld (origin b.geometry k) v now) (sym inodes_same) stream_stays;
      once = subst IsOnce (sym blocks_same) holds.once;
      taken = λ k has. free_same v m now (bits_stay v m b.id block holds.outside) k ∙ holds.taken k (subst (λ (l : List ℕ). Has l k) blocks_same has);
      outside = holds.outside;
      bits = λ k low. free_same v m now (bits_stay v m b.id block holds.outside) k ∙ holds.bits k low;
      fits = fits_same v m now (bits_stay v m b.id block holds.outside) holds.fits;
    }

    module _ (attributes : Attributes) (are : from_entries {R = text_cmp} (entries_with old_volume b.id items) ≡ attributes) (told : Option (ℕ → Option (List ℕ))) (is : told ≡ Some now) (old new : ℕ → Bool)
        (written : (k : ℕ) → new k ≡ true → (old k ≡ true) ⊎ (k ≡ b.id)) where
      other_here : (k : ℕ) → times k (attribute_blocks b.geometry m b.id ++ attribute_blocks b.geometry now b.id) ≡ 0 → k ≢ b.id
      other_here k none e =
          let p = times-append k (attribute_blocks b.geometry m b.id) (attribute_blocks b.geometry now b.id) in
          let some : 0 < times k (attribute_blocks b.geometry m b.id) = subst (λ (j : ℕ). 0 < times k (j ∷ behind)) e (has_first k behind) in
          omega (arith, p, some, none)

      wrote : AreWritten v old new (attribute_blocks b.geometry m b.id ++ attribute_blocks b.geometry now b.id)
      wrote k e = by_side (written k e)
        where
          by_side : (old k ≡ true) ⊎ (k ≡ b.id) → (old k ≡ true) ⊎ (IsBitmapBlock v k ⊎ Has (attribute_blocks b.geometry m b.id ++ attribute_blocks b.geometry now b.id) k)
          by_side (inl had) = inl had
          by_side (inr at) = inr (inr (has_left (attribute_blocks b.geometry m b.id) (attribute_blocks b.geometry now b.id) k (subst (λ (j : ℕ). Has (j ∷ behind) k) at (has_first k behind))))

      pub attributes_now : AttributesNow b v v m attributes told old new
      attributes_now = record {
        map = now;
        is = is;
        holds = holds_now;
        attributes_are = ap (from_entries {R = text_cmp}) changes.1 ∙ are;
        were_free = λ k has none.
            let some : 0 < times k (attribute_blocks b.geometry m b.id) = subst (λ (l : List ℕ). Has l k) blocks_same has in
            absurd (omega (arith, some, none));
        free = λ k.
            free_same v m now (bits_stay v m b.id block holds.outside) k
            ∙ none_taken (is_free v m k) (times k (attribute_blocks b.geometry m b.id)) (holds.taken k)
            ∙ ap (λ (l : List ℕ). is_free v m k && (times k l == 0)) (sym blocks_same);
        marks = λ k low.
            marked_same v m now (bits_stay v m b.id block holds.outside) k low
            ∙ none_new (times k (attribute_blocks b.geometry m b.id) == 0) (marked (per_block v) m k)
            ∙ ap (λ (l : List ℕ). cond (is_new (attribute_blocks b.geometry m b.id) l k) 1 (cond (is_new l (attribute_blocks b.geometry m b.id) k) 0 (marked (per_block v) m k))) (sym blocks_same);
        others = λ k out none. block_other m b.id block k (other_here k none);
        first = λ none. block_other m b.id block 0 (other_here 0 none);
        kept = subst (λ (l : List ℕ). inode_at l ≡ record (inode_at (contents m b.id)) { attributes = (inode_at l).attributes; small_data = (inode_at l).small_data }) (sym here) (inode_front block (contents m b.id) before);
        written = wrote;
        counted = λ used count. counted_same v m now (λ k low. marked_same v m now (bits_stay v m b.id block holds.outside) k low) count;
        entered = λ k has none.
            let some : 0 < times k (attribute_blocks b.geometry m b.id) = subst (λ (l : List ℕ). Has l k) blocks_same has in
            absurd (omega (arith, some, none));
      }

      -- and the map is this one
      pub attributes_there : (n : AttributesNow b v v m attributes told old new) × (n.map ≡ now)
      unfolding attributes_now
      attributes_there = (attributes_now, refl)
