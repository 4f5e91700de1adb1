-- What is told and held where an attribute is taken, and the faults of the steps.
use Rattle.std.proofs.Common.{◌≡◌, inl, ◌∙◌, ℕ, List, [], ◌∷◌, Bool, cond, Option, Some, None, refl, sym, ap, subst, arith}
use Rattle.std.specs.Prelude.{Result, Ok, Err, IfErr, IsSome}
use Rattle.std.specs.FinMap.{find, get}
use Rattle.bfs_base.specs.Keys.{text_cmp}
use Rattle.bfs_base.specs.declared.kind.KeyKind.TheVariants.{Text}
use Rattle.bfs_bitmap.specs.Runs.{Room}
use Rattle.bfs_node.specs.declared.fault.TreeFault.{TreeFault}
use Rattle.bfs_node.specs.declared.fault.TreeFault.TheVariants.{Exists, Absent, Damaged, Pages, NoMemory}
use Rattle.bfs_txn.specs.Faults.{Counts, AreLater}
use Rattle.bfs_stream.specs.Sizes.{Origin}
use Rattle.bfs_stream.specs.declared.fault.GrowFault.{GrowFault}
use Rattle.bfs_stream.proofs.Stops.{cause_wider}
use Rattle.bfs_stream_pages.specs.GoesLaws.{readable}
use Rattle.bfs_tree.specs.Trees.{Attribute}
use Rattle.bfs_maps.specs.Mapped.{HasHeld, HasReadable}
use Rattle.bfs_maps.specs.Refused.{IsUndone, HasReadCause, HasTakeCause}
use Rattle.bfs_sound.specs.Attributes.{Named, attributes_of, attribute_at, attribute_directory, attribute_inodes}
use Rattle.bfs_sound.specs.Inodes.{id_of, content}
use Rattle.bfs_sound.specs.Owners.{In}
use Rattle.bfs_sound.specs.Volumes.{Volume}
use Rattle.bfs_values.specs.Rows.{rows_in}
use Rattle.bfs_attr.specs.Bearers.{Bearer, volume_at, origin, attributes_at, value_at}
use Rattle.bfs_attr.specs.Changed.{Holds, IsInSmallData}
use Rattle.bfs_attr.specs.Laws.{HasNone}
use Rattle.bfs_attr.specs.Refused.{HasRows}
use Rattle.bfs_attr.proofs.Finds.{same_test}
use Rattle.bfs_attr.proofs.Tops.{directory_stands}
use Rattle.bfs_attr_write.specs.Removal.{CanTake, IsNotTakenOut}
use Rattle.bfs_attrs.specs.Removed.{IsBeyond, IsNotRemoved}
use Rattle.bfs_attrs.proofs.Others.{found_proper, beyond_small}

-- the causes of a call that reads are those of one that takes
pub read_taken : (old new : Counts) (fault : TreeFault GrowFault) → HasReadCause old new fault → HasTakeCause old new fault
read_taken old new Exists h = h
read_taken old new Absent h = tt
read_taken old new (Damaged page sort) h = h
read_taken old new (Pages fault) h = h
read_taken old new NoMemory h = h

-- and so are those of a later step
pub take_earlier : (a b c : Counts) (fault : TreeFault GrowFault) → AreLater a b → HasTakeCause b c fault → HasTakeCause a c fault
take_earlier a b c Exists later h = h
take_earlier a b c Absent later h = h
take_earlier a b c (Damaged page sort) later h = h
take_earlier a b c (Pages fault) later h = (h.0, cause_wider 1 1 a b c fault (omega arith) later h.1)
take_earlier a b c NoMemory later h = h

pub take_earlier_kept : {T : Type 0} (a b c : Counts) (r : Result T (TreeFault GrowFault)) → AreLater a b → IfErr r (HasTakeCause b c) → IfErr r (HasTakeCause a c)
take_earlier_kept a b c (Ok x) later h = tt
take_earlier_kept a b c (Err fault) later h = take_earlier a b c fault later h

-- a stream that is held can be read
pub can_read : (o : Origin) (v : Room) (m : ℕ → Option (List ℕ)) → HasHeld o v m → HasReadable o m
can_read o v m h = (h.0, readable o v h.0 m h.1)

-- no attribute of a name is found where none has it
pub none_finds : (name : List ℕ) (es : List Named) → HasNone es name → find text_cmp name es ≡ None
none_finds name [] h = refl
none_finds name (x ∷ xs) h = ap (λ (t : Bool). cond t (Some x.1) (find text_cmp name xs)) (same_test name x.0 ∙ h.0) ∙ none_finds name xs h.1

none_of : (o : Option Attribute) → (IsSome o → ⊥) → o ≡ None
none_of None f = refl
none_of (Some x) f = absurd (f refl)

pub undone_removed : (v : Volume) (id : ℕ) (name : List ℕ) (fault : TreeFault GrowFault) → IsUndone fault → IsNotRemoved v id name fault
undone_removed v id name Exists h = h
undone_removed v id name Absent h = absurd h
undone_removed v id name (Damaged page sort) h = h
undone_removed v id name (Pages fault) h = h
undone_removed v id name NoMemory h = h

module _ (b : Bearer) (v : Room) (m : ℕ → Option (List ℕ)) where
  abbrev volume : Volume
  volume = volume_at b.geometry m

  -- the attribute directory's stream is held, and its rows are as they have to be
  pub directory_held : (d : ℕ) → Holds b v m → attribute_directory volume b.id ≡ Some d → HasHeld (origin b.geometry d) v m
  directory_held d holds there = holds.streams d (subst (λ (o : Option ℕ). In d (attribute_inodes volume o)) (sym there) (inl refl))

  pub directory_rows : (d : ℕ) → Holds b v m → attribute_directory volume b.id ≡ Some d → HasRows volume d
  directory_rows d holds there = let s = directory_stands volume b.id d holds.stands there in (s.tree, s.inodes)

  -- where there is none, none is beyond small data
  pub none_beyond : (name : List ℕ) → Holds b v m → (IsInSmallData volume b.id name → ⊥) → attribute_directory volume b.id ≡ None → get (attributes_at volume b.id) name ≡ None
  none_beyond name holds beyond missing = beyond_small volume b.id name holds.stands beyond ∙ ap (λ (o : Option ℕ). value_at (attributes_of volume o) name) missing

  module _ (d : ℕ) (name : List ℕ) (beyond : IsBeyond b v m d name) where
    pub value_there : get (attributes_at volume b.id) name ≡ value_at (attributes_of volume (Some d)) name
    value_there = beyond_small volume b.id name beyond.holds.stands beyond.beyond ∙ ap (λ (o : Option ℕ). value_at (attributes_of volume o) name) beyond.there

    pub is_absent : (IsSome (value_at (attributes_of volume (Some d)) name) → ⊥) → get (attributes_at volume b.id) name ≡ None
    is_absent none = value_there ∙ none_of (value_at (attributes_of volume (Some d)) name) none

    pub is_there : IsSome (value_at (attributes_of volume (Some d)) name) → IsSome (get (attributes_at volume b.id) name)
    is_there some = subst (λ (o : Option Attribute). IsSome o) (sym value_there) some

    pub can_take : IsSome (value_at (attributes_of volume (Some d)) name) → CanTake b v m d name
    can_take some = record { holds = beyond.holds; there = beyond.there; proper = found_proper name (λ r. attribute_at volume (id_of r)) (rows_in Text (content volume d)) some }

    pub out_removed : (fault : TreeFault GrowFault) → IsNotTakenOut volume b.id name fault → IsNotRemoved volume b.id name fault
    out_removed Exists h = h
    out_removed Absent h = beyond_small volume b.id name beyond.holds.stands beyond.beyond ∙ none_finds name (attributes_of volume (attribute_directory volume b.id)) h
    out_removed (Damaged page sort) h = h
    out_removed (Pages fault) h = h
    out_removed NoMemory h = h

    pub out_removed_kept : {T : Type 0} (r : Result T (TreeFault GrowFault)) → IfErr r (IsNotTakenOut volume b.id name) → IfErr r (IsNotRemoved volume b.id name)
    out_removed_kept (Ok x) h = tt
    out_removed_kept (Err fault) h = out_removed fault h
