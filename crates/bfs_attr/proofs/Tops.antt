-- What the attributes of an inode are where they stand, by what its bytes say.
use Rattle.std.proofs.Common.{◌≡◌, ◌⊎◌, inl, inr, ◌≤◌, ◌<◌, ◌*◌, ◌^◌, ℕ, ℤ, pos, negsuc, List, [], ◌++◌, ◌-◌, length, take, drop, true, Option, Some, None, refl, sym, ◌∙◌, ap, ap₂, subst, arith, length-drop}
use Rattle.std.specs.Prelude.{IfSome, IfErr, Result, Ok, Err, MatchResult, unwrap_or}
use Rattle.std.proofs.lemmas.Bool.{ltb-true}
use Rattle.std.proofs.lemmas.List.{take_all, map-append}
use lib.Signed.{lt_z}
use Rattle.std.specs.FinMap.{find, get, from_entries, get-from_entries}
use Rattle.std.specs.Cmp.Lexicographic.{nat_list_cmp_total}
use Rattle.std.specs.List.{flat_map}
use Rattle.bfs_base.specs.Keys.{text_cmp}
use Rattle.bfs_base.specs.declared.kind.KeyKind.TheVariants.{Text}
use Rattle.bfs_bytes.specs.Fields.{run_in, unsigned_at}
use Rattle.bfs_inode.specs.Inode.{stream_at}
use Rattle.bfs_super.specs.Conditions.{IsValid, natural}
use Rattle.bfs_super.specs.Geometry.{geometry_of}
use Rattle.bfs_super.specs.declared.geometry.Geometry.{Geometry}
use Rattle.bfs_super.specs.declared.sup.Super.{Super}
use Rattle.bfs_node.specs.declared.fault.TreeFault.{TreeFault}
use Rattle.bfs_node.specs.declared.fault.TreeFault.TheVariants.{Exists, Absent, Damaged, Pages, NoMemory}
use Rattle.bfs_txn.specs.Faults.{Counts, IsCauseOf}
use Rattle.bfs_txn.specs.declared.fault.BlockFault.{BlockFault}
use Rattle.bfs_txn.specs.declared.fault.BlockFault.TheVariants as block
use Rattle.bfs_stream.specs.Places.{places_at, bytes_at}
use Rattle.bfs_stream.specs.Scans.{IsDamage}
use Rattle.bfs_stream.specs.Sizes.{Origin}
use Rattle.bfs_stream.specs.Told.{contents}
use Rattle.bfs_stream.proofs.Sized.{valid_sizes}
use Rattle.bfs_stream_pages.specs.Held.{IsReadable}
use Rattle.bfs_stream.specs.declared.fault.GrowFault.{GrowFault}
use Rattle.bfs_stream.specs.declared.fault.GrowFault.TheVariants as grow
use Rattle.bfs_smalldata.specs.Items.{Item, items_of}
use Rattle.bfs_smalldata.specs.Edits.{named, AreDistinct}
use Rattle.bfs_values.specs.Reached.{IsWholeTree}
use Rattle.bfs_values.specs.Rows.{rows_in}
use Rattle.bfs_maps.specs.Refused.{HasReadCause, IsUndone, IsReadFault, IsUnsized}
use Rattle.bfs_stream_pages.specs.Steps.{IsUndamaged}
use Rattle.bfs_values.specs.Kinds.{IsWanted}
use Rattle.bfs_sound.specs.Volumes.{Volume, sizes}
use Rattle.bfs_sound.specs.Owners.{In}
use Rattle.bfs_sound.specs.Attributes.{Named, is_name_item, attributes_in, attributes_of, attribute_at, attribute_directory, attribute_inodes, HasDirectory, IsAttributeDirectory}
use Rattle.bfs_sound.specs.Inodes.{content}
use Rattle.bfs_attr.specs.Bearers.{HasAttributes, volume_at, value_at, entries_at, entries_with, shown}
use Rattle.bfs_attr.specs.SmallData.{IsSmall, item_rows, attribute_in}
use Rattle.bfs_attr.specs.declared.rows.AttrItem.{AttrItem}
use Rattle.bfs_attr.specs.declared.small.Small.TheVariants.{Found, Missing, Broken}
use Rattle.bfs_tree.specs.Answers.{rows_of_attributes}
use Rattle.bfs_tree.specs.Trees.{Attribute}
use Rattle.bfs_tree.specs.declared.rows.AttributeRow.{AttributeRow}
use Rattle.bfs_attr.specs.Directories.{AreInodes, directory_in}
use Rattle.bfs_attr.specs.Refused.{HasRows, IsBlamed, IsDirectoryFault, IsAttributeFault, IsNoPage, IsFaultOf}
use Rattle.bfs_attr.specs.declared.directory.Shortage.{Shortage}
use Rattle.bfs_attr.specs.declared.directory.Shortage.TheVariants as short
use Rattle.bfs_attr.proofs.Finds.{small_none, small_own, small_there}
use Rattle.bfs_attr.proofs.Listed.{directory_rows, small_are}

-- the attribute directory of attributes that stand
pub record StandsAt (v : Volume) (id d : ℕ) : Type 0 where
  pub one : (run_in (v.blocks id) 52).len ≡ 1
  pub below : d < v.geometry.blocks
  pub tree : IsWholeTree Text (content v d)
  pub inodes : AreInodes v.geometry.blocks (rows_in Text (content v d))

pub directory_stands : (v : Volume) (id d : ℕ) → HasAttributes v id → attribute_directory v id ≡ Some d → StandsAt v id d
directory_stands v id d has e =
    let is : IsAttributeDirectory v id d = subst (HasDirectory v id) e has.directory in
    let inside : (k : ℕ) → In k (attribute_inodes v (Some d)) → k < v.geometry.blocks = subst (λ (o : Option ℕ). (k : ℕ) → In k (attribute_inodes v o) → k < v.geometry.blocks) e has.inside in
    record {
      one = is.address.one;
      below = inside d (inl refl);
      tree = is.tree;
      inodes = directory_rows v v.geometry.blocks _ is.rows (λ k h. inside k (inr h));
    }

-- the items of attributes that stand
pub same_items : (v : Volume) (id : ℕ) (has : HasAttributes v id) (items : List Item) → items_of (drop 232 (v.blocks id)) ≡ Some items → has.items ≡ items
same_items v id has items e = let h : Some has.items ≡ Some items = sym has.area ∙ e in cc

-- a name that isn't that of an attribute in small data
pub small_missing : (name : List ℕ) (more : List Named) (items : List Item) → AreDistinct items → IfSome (named name items) (λ item. is_name_item item ≡ true) → find text_cmp name (attributes_in items ++ more) ≡ find text_cmp name more
small_missing name more items distinct own = by_found (named name items) refl own
  where
    by_found : (o : Option Item) → named name items ≡ o → IfSome o (λ item. is_name_item item ≡ true) → find text_cmp name (attributes_in items ++ more) ≡ find text_cmp name more
    by_found None e own = small_none name more items e
    by_found (Some item) e own = small_own name more items item (distinct name) e own

-- a block that could not be had is no damaged one
pub cause_sound : (old new : Counts) (fault : BlockFault) → IsCauseOf old new fault → ¬ IsDamage fault
cause_sound old new (block.Disk before after) cause = λ h. h
cause_sound old new (block.Stopped durable faults) cause = λ h. h
cause_sound old new (block.Damaged k) cause = λ h. cause
cause_sound old new block.NoMemory cause = λ h. h

-- the directory's tree was not read
pub directory_fault : (v : Volume) (d : ℕ) (o : Origin) (m : ℕ → Option (List ℕ)) → o.id ≡ d → (f : TreeFault GrowFault) → IsReadFault (IsWanted Text (content v d)) o m f → IsDirectoryFault v d (Some d) f
directory_fault v d o m is Exists h = h
directory_fault v d o m is Absent h = h
directory_fault v d o m is (Damaged page sort) h = (d, refl, h)
directory_fault v d o m is (Pages fault) h = by_side h
  where
    by_side : IsUnsized o m fault → IsUndamaged fault ⊎ ((k : ℕ) × (fault ≡ grow.Block (block.Damaged k)) × IsBlamed v d (Some d) k)
    by_side (inl sound) = inl sound
    by_side (inr at) = inr (o.id, at.0, inl is)
directory_fault v d o m is NoMemory h = tt

-- its rows name no inodes
pub shortage_fault : (v : Volume) (d : ℕ) (s : Shortage) (f : TreeFault GrowFault) → IsFaultOf d s f → IsDirectoryFault v d (Some d) f
shortage_fault v d short.Unsound f e = subst (IsDirectoryFault v d (Some d)) (sym e) (inr (d, refl, inl refl))
shortage_fault v d short.NoMemory f e = subst (IsDirectoryFault v d (Some d)) (sym e) tt

-- an inode that a row names was not read
pub inode_fault : (v : Volume) (d : ℕ) (f : TreeFault GrowFault) (old new : Counts) → IsNoPage f → HasReadCause old new f → (HasRows v d → IsUndone f) → IsDirectoryFault v d (Some d) f
inode_fault v d Exists old new page cause undone = page
inode_fault v d Absent old new page cause undone = page
inode_fault v d (Damaged at sort) old new page cause undone = absurd page
inode_fault v d (Pages (grow.NoRun wanted free)) old new page cause undone = absurd cause.0
inode_fault v d (Pages (grow.Full room)) old new page cause undone = absurd cause.0
inode_fault v d (Pages (grow.Block (block.Disk before after))) old new page cause undone = inl (λ h. h)
inode_fault v d (Pages (grow.Block (block.Stopped durable faults))) old new page cause undone = inl (λ h. h)
inode_fault v d (Pages (grow.Block (block.Damaged k))) old new page cause undone = inr (k, refl, inr (inr (d, refl, λ rows. undone rows tt)))
inode_fault v d (Pages (grow.Block block.NoMemory)) old new page cause undone = inl (λ h. h)
inode_fault v d NoMemory old new page cause undone = tt

-- the inode that bears the attributes is damaged
pub bearer_fault : (v : Volume) (id : ℕ) (o : Option ℕ) (f : TreeFault GrowFault) → f ≡ Pages (grow.Block (block.Damaged id)) → IsDirectoryFault v id o f
bearer_fault v id o f e = subst (IsDirectoryFault v id o) (sym e) (inr (id, refl, inl refl))

-- the fault of a directory, as one of the inode that names it
pub named_fault : {T : Type 0} (v : Volume) (id d : ℕ) (o : Option ℕ) (r : Result T (TreeFault GrowFault)) → o ≡ Some d → IfErr r (IsDirectoryFault v d (Some d)) → IfErr r (IsDirectoryFault v id o)
named_fault v id d o (Ok x) e h = tt
named_fault v id d o (Err f) e h = subst (λ (x : Option ℕ). IsDirectoryFault v id x f) (sym e) (wider f h)
  where
    blame : (k : ℕ) → IsBlamed v d (Some d) k → IsBlamed v id (Some d) k
    blame k (inl is) = inr (inl (ap (λ (n : ℕ). Some n) (sym is)))
    blame k (inr more) = inr more

    wider : (f : TreeFault GrowFault) → IsDirectoryFault v d (Some d) f → IsDirectoryFault v id (Some d) f
    wider Exists h = h
    wider Absent h = h
    wider (Damaged page sort) h = h
    wider (Pages fault) h = by_side h
      where
        by_side : IsUndamaged fault ⊎ ((k : ℕ) × (fault ≡ grow.Block (block.Damaged k)) × IsBlamed v d (Some d) k) → IsUndamaged fault ⊎ ((k : ℕ) × (fault ≡ grow.Block (block.Damaged k)) × IsBlamed v id (Some d) k)
        by_side (inl sound) = inl sound
        by_side (inr at) = inr (at.0, at.1, blame at.0 at.2)
    wider NoMemory h = tt

-- why attributes were not read, by its causes
pub attribute_fault : (v : Volume) (id : ℕ) (f : TreeFault GrowFault) (old new : Counts) → IsDirectoryFault v id (attribute_directory v id) f → HasReadCause old new f → (HasAttributes v id → IsUndone f) → IsAttributeFault v id f
attribute_fault v id Exists old new page cause undone = page
attribute_fault v id Absent old new page cause undone = page
attribute_fault v id (Damaged at sort) old new page cause undone = page
attribute_fault v id (Pages (grow.NoRun wanted free)) old new page cause undone = absurd cause.0
attribute_fault v id (Pages (grow.Full room)) old new page cause undone = absurd cause.0
attribute_fault v id (Pages (grow.Block (block.Disk before after))) old new page cause undone = inl (λ h. h)
attribute_fault v id (Pages (grow.Block (block.Stopped durable faults))) old new page cause undone = inl (λ h. h)
attribute_fault v id (Pages (grow.Block (block.Damaged k))) old new page cause undone = by_side page
  where
    by_side : IsDirectoryFault v id (attribute_directory v id) (Pages (grow.Block (block.Damaged k))) → IsAttributeFault v id (Pages (grow.Block (block.Damaged k)))
    by_side (inl sound) = inl sound
    by_side (inr at) = inr (at.0, at.1, at.2, λ has. undone has tt)
attribute_fault v id (Pages (grow.Block block.NoMemory)) old new page cause undone = inl (λ h. h)
attribute_fault v id NoMemory old new page cause undone = tt

-- a stream that can be read has blocks for its size
pub room_of : (o : Origin) (m : ℕ → Option (List ℕ)) (long size : ℕ) → IsReadable o long m → (stream_at (contents m o.id)).size ≡ pos size → size ≤ o.sizes.block_size * length (places_at o.sizes (contents m) o.id)
room_of o m long size r e = subst (λ (z : ℤ). natural z ≤ o.sizes.block_size * length (places_at o.sizes (contents m) o.id)) e r.stands.sound.size_high

-- the bytes of a stream, by its size
pub content_is : (g : Geometry) (m : ℕ → Option (List ℕ)) (id size : ℕ) (bytes : List ℕ) → (stream_at (contents m id)).size ≡ pos size → bytes ≡ take size (flat_map (contents m) (places_at (sizes g) (contents m) id)) → bytes ≡ content (volume_at g m) id
unfolding bytes_at
content_is g m id size bytes e is = is ∙ ap (λ (z : ℤ). take (natural z) (flat_map (contents m) (places_at (sizes g) (contents m) id))) (sym e)

-- an attribute that was read from its inode
pub attribute_is : (g : Geometry) (m : ℕ → Option (List ℕ)) (id kind : ℕ) (bytes : List ℕ) → kind ≡ unsigned_at 4 (contents m id) 60 → bytes ≡ content (volume_at g m) id → record { code = kind; bytes = bytes } ≡ attribute_at (volume_at g m) id
attribute_is g m id kind bytes k b = λ i. record { code = k i; bytes = b i }

-- the directory that an inode names, by the bytes that were read of it
pub directory_is : (s : Super) (m : ℕ → Option (List ℕ)) (id : ℕ) (block : List ℕ) → block ≡ contents m id → directory_in s block ≡ attribute_directory (volume_at (geometry_of s) m) id
directory_is s m id block e = ap (directory_in s) e

-- a number of blocks of a valid volume
pub few_blocks : (s : Super) → IsValid s → natural s.num_blocks ≤ 2 ^ 62
few_blocks s valid = let few = (valid_sizes s valid).few_blocks in omega (arith, few)

-- an answer with a property has every other one that follows
pub ok_map : {T E : Type 0} (r : Result T E) (P Q : T → Type 0) (R : E → Type 0) → ((x : T) → P x → Q x) → MatchResult r P R → MatchResult r Q R
ok_map (Ok x) P Q R f h = f x h
ok_map (Err e) P Q R f h = h

-- the attribute of a name, in the map
pub value_is : (entries : List Named) (name : List ℕ) → value_at entries name ≡ get {R = text_cmp} (from_entries entries) name
value_is entries name = sym (get-from_entries nat_list_cmp_total entries name)

-- what is below 0 counts as 0
pub below_none : (z : ℤ) → lt_z z (pos 0) ≡ true → natural z ≡ 0
below_none (pos n) low = absurd (omega (arith, ltb-true n 0 low))
below_none (negsuc n) low = refl

-- the small data that was read of an inode
pub area_is : (now b : List ℕ) → now ≡ b → take (length now - 232) (drop 232 now) ≡ drop 232 b
area_is now b e = take_all (length now - 232) (drop 232 now) (omega (arith, length-drop 232 now)) ∙ ap (drop 232) e

module _ (v : Volume) (id : ℕ) (has : HasAttributes v id) (name area : List ℕ) (is : area ≡ drop 232 (v.blocks id)) where
  -- an attribute in small data is the one of its name
  pub value_found : (item : AttrItem) → IsSmall area name (Found item) → Some (shown item) ≡ value_at (entries_at v id) name
  value_found item x =
      let e : items_of (drop 232 (v.blocks id)) ≡ Some x.0 = ap items_of (sym is) ∙ x.2 in
      let one : shown item ≡ attribute_in x.1 = λ i. record { code = x.5 i; bytes = x.6 i } in
      ap (λ (a : Attribute). Some a) one
      ∙ sym (small_there name (attributes_of v (attribute_directory v id)) x.0 x.1 x.3 x.4)
      ∙ ap (λ (o : Option (List Item)). value_at (entries_with v id (unwrap_or o [])) name) (sym e)

  -- where small data has none of a name, it is that of the attribute directory
  pub value_missing : IsSmall area name Missing → (o : Option ℕ) → o ≡ attribute_directory v id → value_at (attributes_of v o) name ≡ value_at (entries_at v id) name
  value_missing x o same =
      let e : items_of (drop 232 (v.blocks id)) ≡ Some x.0 = ap items_of (sym is) ∙ x.1 in
      let distinct : AreDistinct x.0 = subst AreDistinct (same_items v id has x.0 e) has.distinct in
      ap (λ (d : Option ℕ). value_at (attributes_of v d) name) same
      ∙ sym (small_missing name (attributes_of v (attribute_directory v id)) x.0 distinct x.2)
      ∙ ap (λ (o : Option (List Item)). value_at (entries_with v id (unwrap_or o [])) name) (sym e)

  -- no item runs past it
  pub value_broken : IsSmall area name Broken → ⊥
  value_broken x = let bad : None ≡ Some has.items = sym (ap items_of (sym is) ∙ x) ∙ has.area in cc

-- the rows of all attributes
pub rows_are : (v : Volume) (id : ℕ) (has : HasAttributes v id) (small : List AttributeRow) → small ≡ flat_map item_rows has.items → (o : Option ℕ) → o ≡ attribute_directory v id
    → small ++ rows_of_attributes (attributes_of v o) ≡ rows_of_attributes (entries_at v id)
rows_are v id has small e o same =
    ap₂ (λ (a : List AttributeRow) (d : Option ℕ). a ++ rows_of_attributes (attributes_of v d)) (e ∙ small_are has.items) same
    ∙ sym (map-append (λ (n : Named). record { kind = n.1.code; name = n.0 }) (attributes_in has.items) (attributes_of v (attribute_directory v id)))
    ∙ ap (λ (o : Option (List Item)). rows_of_attributes (entries_with v id (unwrap_or o []))) (sym has.area)

-- why a reading of attributes was refused
pub read_refused : {T : Type 0} (v : Volume) (id : ℕ) (r : Result T (TreeFault GrowFault)) (P : T → Type 0) (old new : Counts) → IfErr r (IsDirectoryFault v id (attribute_directory v id)) → IfErr r (HasReadCause old new)
    → (HasAttributes v id → MatchResult r P IsUndone) → IfErr r (IsAttributeFault v id)
read_refused v id (Ok x) P old new page cause undone = tt
read_refused v id (Err f) P old new page cause undone = attribute_fault v id f old new page cause undone
