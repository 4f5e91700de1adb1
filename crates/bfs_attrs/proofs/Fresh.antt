-- An attribute of a name that none had, put into small data or into the attribute directory.
use Rattle.std.proofs.Common.{◌≡◌, ◌⊎◌, inl, inr, ◌∙◌, ℕ, List, [], ◌∷◌, ◌++◌, length, drop, Bool, true, false, cond, Option, Some, None, refl, sym, ap, subst}
use Rattle.std.specs.Prelude.{Result, Ok, Err, IfErr, IfSome, IsSome, unwrap_or}
use Rattle.std.specs.FinMap.{find, get, insert}
use Rattle.std.specs.Ordering.{eq_by_cmp}
use Rattle.bfs_base.specs.Keys.{text_cmp}
use Rattle.bfs_bitmap.specs.Runs.{Room}
use Rattle.bfs_node.specs.declared.fault.TreeFault.{TreeFault}
use Rattle.bfs_node.specs.declared.fault.TreeFault.TheVariants.{Exists, Absent, Damaged, Pages, NoMemory}
use Rattle.bfs_smalldata.specs.Items.{Item}
use Rattle.bfs_smalldata.specs.Edits.{IsFitting}
use Rattle.bfs_stream.specs.Told.{contents}
use Rattle.bfs_stream.specs.Faults.{IsGrowCause}
use Rattle.bfs_stream.specs.declared.fault.GrowFault.{GrowFault}
use Rattle.bfs_stream.specs.declared.fault.GrowFault.TheVariants as grow
use Rattle.bfs_stream_pages.specs.Causes.{IsOfBlock}
use Rattle.bfs_txn.specs.Faults.{Counts}
use Rattle.bfs_tree.specs.Trees.{Attribute, Attributes}
use Rattle.bfs_maps.specs.Refused.{IsUndone, HasReadCause}
use Rattle.bfs_sound.specs.Attributes.{Named, attributes_in, attributes_of, attribute_directory}
use Rattle.bfs_sound.specs.Volumes.{Volume}
use Rattle.bfs_attr.specs.Bearers.{Bearer, volume_at, HasAttributes, entries_with, entries_at, attributes_at, value_at}
use Rattle.bfs_attr.specs.Changed.{attribute_blocks, AttributesNow, HasPut, IsInSmallData}
use Rattle.bfs_attr.specs.Laws.{HasNone, HasNoRow}
use Rattle.bfs_attr.specs.SmallData.{HasAttribute, HasSmall, attribute_in}
use Rattle.bfs_attr.proofs.Finds.{same_test, small_there}
use Rattle.bfs_attr.proofs.Tops.{value_is}
use Rattle.bfs_attr_write.specs.Adding.{HasRowPut}
use Rattle.bfs_attr_write.proofs.Unknown.{find_behind}
use Rattle.bfs_attrs.specs.Put.{IsUnknown, IsNotPutNew}
use Rattle.bfs_attrs.specs.Stored.{HasBegun, IsNotAdded, IsNotBegun, HasAddCause}
use Rattle.bfs_attrs.proofs.Older.{wrote_older}

-- none has a name that isn't found
none_has : (name : List ℕ) (es : List Named) → find text_cmp name es ≡ None → HasNone es name
none_has name [] e = tt
none_has name (x ∷ xs) e = by_test (eq_by_cmp text_cmp name x.0) refl e (none_has name xs)
  where
    by_test : (t : Bool) → eq_by_cmp text_cmp name x.0 ≡ t → cond t (Some x.1) (find text_cmp name xs) ≡ None → (find text_cmp name xs ≡ None → HasNone xs name) → HasNone (x ∷ xs) name
    by_test true same e rest = absurd (let bad : Some x.1 ≡ None = e in cc)
    by_test false same e rest = (sym (same_test name x.0) ∙ same, rest e)

module _ (v : Volume) (id : ℕ) (name : List ℕ) (has : HasAttributes v id) where
  abbrev front : List Named
  front = attributes_in has.items

  abbrev more : List Named
  more = attributes_of v (attribute_directory v id)

  listed : entries_at v id ≡ front ++ more
  listed = ap (λ (o : Option (List Item)). entries_with v id (unwrap_or o [])) has.area

  -- what stands in small data is there
  pub small_found : IsInSmallData v id name → IsSome (get (attributes_at v id) name)
  small_found small =
      let h : HasAttribute name has.items = subst (λ (o : Option (List Item)). IfSome o (HasAttribute name)) has.area small in
      let found : find text_cmp name (front ++ more) ≡ Some (attribute_in h.0) = small_there name more has.items h.0 h.1 h.2 in
      let all : get (attributes_at v id) name ≡ Some (attribute_in h.0) = sym (value_is (entries_at v id) name) ∙ ap (λ (l : List Named). value_at l name) listed ∙ found in
      subst (λ (o : Option Attribute). IsSome o) (sym all) refl

  -- and the attribute directory has none of a name that isn't
  pub unknown_row : get (attributes_at v id) name ≡ None → HasNoRow v id name
  unknown_row unknown =
      none_has name more (find_behind name front more (ap (λ (l : List Named). find text_cmp name l) (sym listed) ∙ value_is (entries_at v id) name ∙ unknown))

-- an attribute for which a row was put
pub row_begun : (b : Bearer) (v now : Room) (m : ℕ → Option (List ℕ)) (attributes : Attributes) (told : Option (ℕ → Option (List ℕ))) (old new : ℕ → Bool) → HasRowPut b v now m attributes told old new → HasBegun b v now m attributes told old new
row_begun b v now m attributes told old new row = record { now_are = row.now_are; small = ap (λ (o : Option (List ℕ)). drop 232 (unwrap_or o [])) row.bearer }

-- an attribute that came to the attribute directory, the small data as it was
pub beyond_put : (b : Bearer) (v now : Room) (m : ℕ → Option (List ℕ)) (name : List ℕ) (attribute : Attribute) (told : Option (ℕ → Option (List ℕ))) (old half new : ℕ → Bool) → IsUnknown b v m name
    → (IsFitting (drop 232 (contents m b.id)) name (length attribute.bytes) → ⊥) → ((k : ℕ) → half k ≡ true → (old k ≡ true) ⊎ (k ≡ b.id))
    → (n : AttributesNow b v now m (insert (attributes_at (volume_at b.geometry m) b.id) name attribute) told half new) → drop 232 (contents n.map b.id) ≡ drop 232 (contents m b.id)
    → HasPut b v now m name attribute told old new
beyond_put b v now m name attribute told old half new is large set n small = record {
  now_are = record {
    map = n.map;
    is = n.is;
    holds = n.holds;
    attributes_are = n.attributes_are;
    were_free = n.were_free;
    free = n.free;
    marks = n.marks;
    others = n.others;
    first = n.first;
    kept = n.kept;
    written = wrote_older b v m old half new set (attribute_blocks b.geometry n.map b.id) n.written;
    counted = n.counted;
    entered = n.entered;
  };
  place = (λ there. absurd (not_small (subst (λ (l : List ℕ). HasSmall l name) small there)), λ fits. absurd (large fits));
}
  where
    not_small : IsInSmallData (volume_at b.geometry m) b.id name → ⊥
    not_small there =
        let some = small_found (volume_at b.geometry m) b.id name is.holds.stands there in
        let bad : false ≡ true = subst (λ (o : Option Attribute). IsSome o) is.unknown some in
        absurd (let worse : false ≡ true = bad in cc)

-- why it was not put
module _ (b : Bearer) (v : Room) (m : ℕ → Option (List ℕ)) (attribute : Attribute) (blocks : ℕ) where
  pub undone_new : (fault : TreeFault GrowFault) → IsUndone fault → IsNotPutNew b v m attribute blocks fault
  undone_new Exists h = h
  undone_new Absent h = h
  undone_new (Damaged page sort) h = h
  undone_new (Pages fault) h = inl h
  undone_new NoMemory h = h

  added_new : (d : ℕ) (fault : TreeFault GrowFault) → IsNotAdded b v m d attribute blocks fault → IsNotPutNew b v m attribute blocks fault
  added_new d Exists h = h
  added_new d Absent h = h
  added_new d (Damaged page sort) h = h
  added_new d (Pages fault) h = inr (inl (d, h))
  added_new d NoMemory h = h

  begun_new : (fault : TreeFault GrowFault) → IsNotBegun b v m attribute blocks fault → IsNotPutNew b v m attribute blocks fault
  begun_new Exists h = h
  begun_new Absent h = h
  begun_new (Damaged page sort) h = h
  begun_new (Pages fault) h = inr (inr h)
  begun_new NoMemory h = h

  pub added_new_kept : {T : Type 0} (d : ℕ) (r : Result T (TreeFault GrowFault)) → IfErr r (IsNotAdded b v m d attribute blocks) → IfErr r (IsNotPutNew b v m attribute blocks)
  added_new_kept d (Ok x) h = tt
  added_new_kept d (Err fault) h = added_new d fault h

  pub begun_new_kept : {T : Type 0} (r : Result T (TreeFault GrowFault)) → IfErr r (IsNotBegun b v m attribute blocks) → IfErr r (IsNotPutNew b v m attribute blocks)
  begun_new_kept (Ok x) h = tt
  begun_new_kept (Err fault) h = begun_new fault h

-- the causes of a call that reads, or writes one block
pub block_cause : (n : ℕ) (old new : Counts) (fault : GrowFault) → IsOfBlock fault → IsGrowCause 1 old new fault → IsGrowCause n old new fault
block_cause n old new (grow.NoRun asked free) of cause = absurd of
block_cause n old new (grow.Full room) of cause = absurd of
block_cause n old new (grow.Block fault) of cause = cause

pub read_added : (n : ℕ) (old new : Counts) (fault : TreeFault GrowFault) → HasReadCause old new fault → HasAddCause n old new fault
read_added n old new Exists h = tt
read_added n old new Absent h = h
read_added n old new (Damaged page sort) h = h
read_added n old new (Pages fault) h = block_cause n old new fault h.0 h.1
read_added n old new NoMemory h = h
