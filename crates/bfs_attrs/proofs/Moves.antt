-- An attribute that was taken out of small data and put into the attribute directory.
use Rattle.std.proofs.Common.{◌≡◌, inl, inr, ◌∙◌, ℕ, List, drop, Bool, true, false, cond, Option, Some, None, refl, sym, ap, subst}
use Rattle.std.specs.Prelude.{Result, Ok, Err, IfErr, IfSome}
use Rattle.std.specs.FinMap.{get, insert, remove, same_map, get-insert, slice_cmp-IsAntisymmetric, nat_cmp-IsAntisymmetric}
use Rattle.std.specs.Option.{option_map}
use Rattle.std.specs.Ordering.{eq_by_cmp}
use Rattle.std.specs.Cmp.Lexicographic.{nat_list_cmp_total}
use Rattle.bfs_base.specs.Keys.{text_cmp}
use Rattle.bfs_base.specs.Lists.{Has}
use Rattle.bfs_bitmap.specs.Runs.{Room}
use Rattle.bfs_node.specs.declared.fault.TreeFault.{TreeFault}
use Rattle.bfs_node.specs.declared.fault.TreeFault.TheVariants.{Exists, Absent, Damaged, Pages, NoMemory}
use Rattle.bfs_smalldata.specs.Items.{items_of}
use Rattle.bfs_smalldata.specs.Edits.{without}
use Rattle.bfs_stream.specs.Told.{contents}
use Rattle.bfs_stream.specs.declared.fault.GrowFault.{GrowFault}
use Rattle.bfs_tree.specs.Trees.{Attribute, Attributes}
use Rattle.bfs_txn.specs.Told.{StaysChanged}
use Rattle.bfs_maps.specs.Refused.{IsUndone}
use Rattle.bfs_attr.specs.Bearers.{Bearer, volume_at, attributes_at}
use Rattle.bfs_attr.specs.Changed.{attribute_blocks, AttributesNow, HasTaken, IsInSmallData, IsTakenFromSmall}
use Rattle.bfs_attr.specs.Written.{items_left}
use Rattle.bfs_attr_write.proofs.Brings.{rest_given}
use Rattle.bfs_attr_write.proofs.Follows.{follows}
use Rattle.bfs_attrs.specs.Moved.{IsWithin, HasMovedOut, IsNotMoved}
use Rattle.bfs_attrs.specs.Put.{IsUnknown, IsNotPutNew}
use Rattle.bfs_attrs.specs.Replaced.{HasAllBlocks}
use Rattle.bfs_attrs.specs.Stored.{HasBegun}
use Rattle.bfs_attrs.proofs.Clears.{key_is, get_removed, insert_removed}
use Rattle.bfs_make.proofs.Telling.{one_map}

-- what was taken out and is put back leaves the map as it was
insert_back : (a : Attributes) (name : List ℕ) (x : Attribute) → get a name ≡ Some x → insert (remove a name) name x ≡ a
insert_back a name x is = insert_removed a name x ∙ same_map nat_list_cmp_total (slice_cmp-IsAntisymmetric nat_cmp-IsAntisymmetric) _ _ (λ q. get-insert nat_list_cmp_total a name x q ∙ by_test q (eq_by_cmp text_cmp q name) refl)
  where
    by_test : (q : List ℕ) (t : Bool) → eq_by_cmp text_cmp q name ≡ t → cond t (Some x) (get a q) ≡ get a q
    by_test q true e = sym (ap (λ (n : List ℕ). get a n) (key_is q name e) ∙ is)
    by_test q false e = refl

-- an attribute that stands in small data was taken out of it
module _ (b : Bearer) (v : Room) (m : ℕ → Option (List ℕ)) (name : List ℕ) (within : IsInSmallData (volume_at b.geometry m) b.id name) (told : Option (ℕ → Option (List ℕ))) (old new : ℕ → Bool) where
  pub taken_within : (t : Bool) → IsTakenFromSmall b v m name told old new t → HasTaken b v v m name told old new
  taken_within true h = h
  taken_within false h = absurd (h.0 within)

  pub left_within : (t : Bool) → IsTakenFromSmall b v m name told old new t → IfSome told (λ map. items_of (drop 232 (contents map b.id)) ≡ items_left name (items_of (drop 232 (contents m b.id))) t)
      → IfSome told (λ map. items_of (drop 232 (contents map b.id)) ≡ option_map (without name) (items_of (drop 232 (contents m b.id))))
  left_within true h left = left
  left_within false h left = absurd (h.0 within)

-- none of the blocks goes in two steps
pub all_twice : (b : Bearer) (m m1 : ℕ → Option (List ℕ)) (told later : Option (ℕ → Option (List ℕ))) → HasAllBlocks b m told → told ≡ Some m1 → HasAllBlocks b m1 later → HasAllBlocks b m later
all_twice b m m1 told None first is second = tt
all_twice b m m1 told (Some map) first is second =
    let one = subst (HasAllBlocks b m) is first in
    λ k has. second k (one k has)

module _ (b : Bearer) (v : Room) (m : ℕ → Option (List ℕ)) (name : List ℕ) (attribute : Attribute) (is : IsWithin b v m name attribute) (told : Option (ℕ → Option (List ℕ))) (old half : ℕ → Bool) (taken : HasTaken b v v m name told old half) where
  abbrev m1 : ℕ → Option (List ℕ)
  m1 = taken.now_are.map

  abbrev before : Attributes
  before = attributes_at (volume_at b.geometry m) b.id

  pub unknown_taken : IsUnknown b v m1 name
  unknown_taken = record { holds = taken.now_are.holds; unknown = ap (λ (a : Attributes). get a name) taken.now_are.attributes_are ∙ get_removed before name }

  module _ (now : Room) (later : Option (ℕ → Option (List ℕ))) (new : ℕ → Bool) (begun : HasBegun b v now m1 (insert (attributes_at (volume_at b.geometry m1) b.id) name attribute) later half new) (keeps : HasAllBlocks b m1 later)
      (to_now : now ≡ record v { tally = now.tally }) (stays : StaysChanged half new) (left : IfSome told (λ map. items_of (drop 232 (contents map b.id)) ≡ option_map (without name) (items_of (drop 232 (contents m b.id))))) where
    same : insert (attributes_at (volume_at b.geometry m1) b.id) name attribute ≡ before
    same = ap (λ (a : Attributes). insert a name attribute) taken.now_are.attributes_are ∙ insert_back before name attribute is.there

    two : AttributesNow b v now m1 before later half new
    two = subst (λ (a : Attributes). AttributesNow b v now m1 a later half new) same begun.now_are

    kept_blocks : (k : ℕ) → Has (attribute_blocks b.geometry m1 b.id) k → Has (attribute_blocks b.geometry two.map b.id) k
    kept_blocks = subst (HasAllBlocks b m1) two.is keeps

    both : AttributesNow b v now m before later old new
    both = follows b v v now m (remove before name) before told later old half new refl (rest_given v now to_now) is.holds taken.now_are two stays (λ k has. inr (kept_blocks k has))

    one : begun.now_are.map ≡ both.map
    one = one_map later begun.now_are.map both.map begun.now_are.is both.is

    left_there : items_of (drop 232 (contents m1 b.id)) ≡ option_map (without name) (items_of (drop 232 (contents m b.id)))
    left_there = subst (λ (o : Option (ℕ → Option (List ℕ))). IfSome o (λ map. items_of (drop 232 (contents map b.id)) ≡ option_map (without name) (items_of (drop 232 (contents m b.id))))) taken.now_are.is left

    pub has_moved : HasMovedOut b v now m name later old new
    has_moved = record {
      now_are = both;
      items = subst (λ (x : ℕ → Option (List ℕ)). items_of (drop 232 (contents x b.id)) ≡ option_map (without name) (items_of (drop 232 (contents m b.id)))) one (ap items_of begun.small ∙ left_there);
    }

  -- why it did not arrive
  module _ (blocks : ℕ) where
    not_arrived : (fault : TreeFault GrowFault) → IsNotPutNew b v m1 attribute blocks fault → IsNotMoved b v m name attribute blocks fault
    not_arrived Exists h = h
    not_arrived Absent h = h
    not_arrived (Damaged page sort) h = h
    not_arrived (Pages fault) h = inr (record { told = told; old = old; new = half; taken = taken; failed = h })
    not_arrived NoMemory h = h

    pub not_arrived_kept : {T : Type 0} (r : Result T (TreeFault GrowFault)) → IfErr r (IsNotPutNew b v m1 attribute blocks) → IfErr r (IsNotMoved b v m name attribute blocks)
    not_arrived_kept (Ok x) h = tt
    not_arrived_kept (Err fault) h = not_arrived fault h

pub undone_moved : (b : Bearer) (v : Room) (m : ℕ → Option (List ℕ)) (name : List ℕ) (attribute : Attribute) (blocks : ℕ) (fault : TreeFault GrowFault) → IsUndone fault → IsNotMoved b v m name attribute blocks fault
undone_moved b v m name attribute blocks Exists h = h
undone_moved b v m name attribute blocks Absent h = h
undone_moved b v m name attribute blocks (Damaged page sort) h = h
undone_moved b v m name attribute blocks (Pages fault) h = inl h
undone_moved b v m name attribute blocks NoMemory h = h
