-- A row of an attribute directory that is taken, as a step of a call.
use Rattle.std.proofs.Common.{◌≡◌, inl, inr, ◌<◌, ℕ, pos, List, Bool, Option, Some, None, refl, sym, ap, subst}
use Rattle.std.specs.Prelude.{Result, Ok, Err, OnOk, IfErr, IfSome, IsSome}
use Rattle.std.specs.FinMap.{get, remove}
use Rattle.bfs_base.specs.declared.kind.KeyKind.TheVariants.{Text}
use Rattle.bfs_bitmap.specs.Runs.{Room}
use Rattle.bfs_node.specs.declared.fault.PageKind.{PageKind}
use Rattle.bfs_node.specs.declared.fault.TreeFault.{TreeFault}
use Rattle.bfs_node.specs.declared.fault.TreeFault.TheVariants.{Exists, Absent, Damaged, Pages, NoMemory}
use Rattle.bfs_pages.specs.Maps.{assoc, without}
use Rattle.bfs_super.specs.Conditions.{IsValid}
use Rattle.bfs_super.specs.Geometry.{geometry_of}
use Rattle.bfs_super.specs.declared.sup.Super.{Super}
use Rattle.bfs_txn.specs.Faults.{Counts}
use Rattle.bfs_txn.specs.declared.fault.BlockFault.TheVariants as block
use Rattle.bfs_stream.specs.declared.fault.GrowFault.{GrowFault}
use Rattle.bfs_stream.specs.declared.fault.GrowFault.TheVariants as grow
use Rattle.bfs_stream.specs.Places.{whole_at}
use Rattle.bfs_stream.specs.Told.{contents}
use Rattle.bfs_stream_pages.specs.Held.{stream_of}
use Rattle.bfs_txn.specs.Told.{StaysChanged}
use Rattle.bfs_tree.specs.Trees.{Attribute}
use Rattle.bfs_maps.specs.Mapped.{HasHeld, rows_of}
use Rattle.bfs_maps.specs.Refused.{IsNumberPage, IsTakeFault, IsTakingFault, IsUndone, HasTakeCause}
use Rattle.bfs_make.specs.Given.{HasGivenBack}
use Rattle.bfs_maps.specs.RowTrees.{AreRowsNow, HasTreeWith}
use Rattle.bfs_sound.specs.Volumes.{Volume, sizes}
use Rattle.bfs_sound.specs.Inodes.{content, id_of}
use Rattle.bfs_values.specs.Rows.{rows_in}
use Rattle.bfs_sound.specs.Attributes.{attributes_of, attribute_at, attribute_inodes}
use Rattle.bfs_sound.specs.Owners.{In}
use Rattle.bfs_attr.specs.Bearers.{Bearer, bearer_of, volume_at, origin, entries_at, attributes_at}
use Rattle.bfs_attr.specs.Laws.{HasNone, HasNoRow}
use Rattle.bfs_attr.specs.Refused.{IsNoPage}
use Rattle.bfs_attr.proofs.Tops.{directory_stands, few_blocks, value_is}
use Rattle.bfs_attr_write.specs.Removal.{CanTake, HasRowTaken, IsNotTakenOut, IsTakenOutFault, KeepsClear}
use Rattle.bfs_attr_write.proofs.Brings.{gone_exchange, moved_exchange, rest_given}
use Rattle.bfs_attr_write.proofs.Clear.{exchange_clear, given_clear, clear_twice, clear_told}
use Rattle.bfs_attr_write.proofs.Leaving.{low, stream_taken, row_taken, was_there}
use Rattle.bfs_attr_write.proofs.Picked.{number_named, none_behind}

module _ (s : Super) (valid : IsValid s) (inode : ℕ) (v : Room) (m : ℕ → Option (List ℕ)) (d : ℕ) (name : List ℕ) (can : CanTake (bearer_of inode s) v m d name) where
  abbrev bearer : Bearer
  bearer = bearer_of inode s

  abbrev volume : Volume
  volume = volume_at bearer.geometry m

  pub tree_there : HasTreeWith Text name (origin bearer.geometry d) v m
  tree_there =
      let stands = directory_stands volume inode d can.holds.stands can.there in record {
        held = can.holds.streams d (subst (λ (o : Option ℕ). In d (attribute_inodes volume o)) (sym can.there) (inl refl));
        tree = record { tree = stands.tree; number = number_named name can.proper bearer.geometry.blocks (few_blocks s valid) (rows_in Text (content volume d)) stands.inodes };
      }

  -- the directory has no row of the name
  none_there : assoc Text (rows_of Text (origin bearer.geometry d) m) name ≡ None → HasNoRow volume inode name
  none_there e =
      subst (λ (o : Option ℕ). HasNone (attributes_of volume o) name) (sym can.there) (none_behind name can.proper (λ r. attribute_at volume (id_of r)) (rows_in Text (content volume d)) e)

  pub not_taken : (fault : TreeFault GrowFault) → IsTakeFault Text (rows_of Text (origin bearer.geometry d) m) name fault → IsNotTakenOut volume inode name fault
  not_taken Exists h = h
  not_taken Absent h = none_there h
  not_taken (Damaged page sort) h = h
  not_taken (Pages fault) h = h
  not_taken NoMemory h = h

  -- the row was taken: the inode that it names is one of the volume, and its stream is held
  module _ (id : ℕ) (there : assoc Text (rows_of Text (origin bearer.geometry d) m) name ≡ Some (pos id)) where
    pub named_low : id < bearer.geometry.blocks
    named_low = low bearer v m can.holds d can.there name can.proper id there

    pub found_there : IsSome (get (attributes_at volume inode) name)
    found_there = subst (λ (o : Option Attribute). IsSome o) (value_is (entries_at volume inode) name) (was_there bearer v m can.holds d can.there name can.proper id there)

    module _ (mid : Room) (told : Option (ℕ → Option (List ℕ))) (old half : ℕ → Bool) (now : AreRowsNow Text (origin bearer.geometry d) v mid m (without Text (rows_of Text (origin bearer.geometry d) m) name) told old half) where
      pub named_held : HasHeld (origin bearer.geometry id) mid now.map
      named_held = stream_taken bearer v m can.holds d can.there name can.proper id there mid now.map now.moved now.held

      pub left : (later : Room) (since : Option (ℕ → Option (List ℕ))) (new : ℕ → Bool) → later ≡ record mid { given = later.given; tally = later.tally } → StaysChanged half new → HasGivenBack (origin bearer.geometry id) mid later now.map since half new
          → HasRowTaken bearer v later m (remove (attributes_at volume inode) name) since old new
      left later since new rest stays gone =
          row_taken bearer v m can.holds d can.there name can.proper id there mid now.map now.moved now.held later gone.map
          (gone_exchange (origin bearer.geometry id) mid later now.map since half new gone rest) now.bytes since gone.is old half new now.written gone.written now.fresh stays

      -- and nothing that was given back is marked
      pub left_clear : mid ≡ record v { tally = mid.tally } → (later : Room) (since : Option (ℕ → Option (List ℕ))) (new : ℕ → Bool) → HasGivenBack (origin bearer.geometry id) mid later now.map since half new → IfSome since (KeepsClear v later m)
      left_clear same later since new gone =
          clear_told v later m gone.map since gone.is (clear_twice v mid later m now.map gone.map (rest_given v mid same)
          (exchange_clear v mid m now.map (whole_at (sizes bearer.geometry) (contents m) d) (whole_at (sizes bearer.geometry) (contents now.map) d) (moved_exchange (origin bearer.geometry d) v mid m now.map now.moved) (ap (λ (r : Room). r.given) same))
          (given_clear (origin bearer.geometry id) mid later now.map since half new gone))

undone_out : (v : Volume) (id : ℕ) (name : List ℕ) (fault : TreeFault GrowFault) → IsUndone fault → IsNotTakenOut v id name fault
undone_out v id name Exists h = h
undone_out v id name Absent h = absurd h
undone_out v id name (Damaged page sort) h = h
undone_out v id name (Pages fault) h = h
undone_out v id name NoMemory h = h

pub undone_kept : {T : Type 0} (v : Volume) (id : ℕ) (name : List ℕ) (r : Result T (TreeFault GrowFault)) → IfErr r IsUndone → IfErr r (IsNotTakenOut v id name)
undone_kept v id name (Ok x) h = tt
undone_kept v id name (Err fault) h = undone_out v id name fault h

-- what is blamed, whatever stands there
module _ (s : Super) (d : ℕ) (name : List ℕ) (v : Room) (m : ℕ → Option (List ℕ)) (told : Option (ℕ → Option (List ℕ))) (old new : Counts) where
  pub blames : (fault : TreeFault GrowFault) → ((page : ℕ) (sort : PageKind) → fault ≡ Damaged page sort → IfSome told (λ map. ¬ IsNumberPage Text (stream_of (origin (geometry_of s) d) map) page sort))
      → ((inode : ℕ) → CanTake (bearer_of inode s) v m d name → IsNotTakenOut (volume_at (geometry_of s) m) inode name fault) → HasTakeCause old new fault → IsTakenOutFault s d name v m told fault
  blames Exists page out cause = cause
  blames Absent page out cause = tt
  blames (Damaged at sort) page out cause = page at sort refl
  blames (Pages (grow.NoRun wanted free)) page out cause = absurd cause.0
  blames (Pages (grow.Full room)) page out cause = absurd cause.0
  blames (Pages (grow.Block (block.Disk before after))) page out cause = inl (λ h. h)
  blames (Pages (grow.Block (block.Stopped durable faults))) page out cause = inl (λ h. h)
  blames (Pages (grow.Block (block.Damaged k))) page out cause = inr (λ inode can. out inode can tt)
  blames (Pages (grow.Block block.NoMemory)) page out cause = inl (λ h. h)
  blames NoMemory page out cause = tt

  pub row_page : (fault : TreeFault GrowFault) → IsTakingFault (IsNumberPage Text) (origin (geometry_of s) d) m told fault → (page : ℕ) (sort : PageKind) → fault ≡ Damaged page sort → IfSome told (λ map. ¬ IsNumberPage Text (stream_of (origin (geometry_of s) d) map) page sort)
  row_page fault h page sort e = subst (λ (f : TreeFault GrowFault). IsTakingFault (IsNumberPage Text) (origin (geometry_of s) d) m told f) e h

  no_page : (fault : TreeFault GrowFault) → IsNoPage fault → (page : ℕ) (sort : PageKind) → fault ≡ Damaged page sort → IfSome told (λ map. ¬ IsNumberPage Text (stream_of (origin (geometry_of s) d) map) page sort)
  no_page fault h page sort e = let bad : ⊥ = subst (λ (f : TreeFault GrowFault). IsNoPage f) e h in absurd bad

  pub give_blamed : {T : Type 0} (r : Result T (TreeFault GrowFault)) → IfErr r IsNoPage
      → ((inode : ℕ) → CanTake (bearer_of inode s) v m d name → IfErr r (IsNotTakenOut (volume_at (geometry_of s) m) inode name)) → IfErr r (HasTakeCause old new) → IfErr r (IsTakenOutFault s d name v m told)
  give_blamed (Ok x) h out cause = tt
  give_blamed (Err fault) h out cause = blames fault (no_page fault h) out cause

pub always : {T F : Type 0} (Q : Type 0) (r : Result T F) → Q → OnOk r Q
always Q (Ok x) q = q
always Q (Err fault) q = tt
