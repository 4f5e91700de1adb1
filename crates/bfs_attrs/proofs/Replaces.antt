-- An attribute that is put where none of its name is left.
use Rattle.std.proofs.Common.{◌≡◌, inl, inr, ◌∙◌, ℕ, List, [], ◌∷◌, length, drop, Bool, Option, Some, None, refl, sym, ap, subst}
use Rattle.std.specs.Prelude.{◌↔◌, Result, Ok, Err, IfErr, IfSome, OnOk}
use Rattle.std.specs.FinMap.{get, insert, remove}
use Rattle.std.specs.List.{flat_map}
use Rattle.bfs_base.specs.Lists.{Has}
use Rattle.bfs_bitmap.specs.Runs.{Room}
use Rattle.bfs_node.specs.declared.fault.TreeFault.{TreeFault}
use Rattle.bfs_node.specs.declared.fault.TreeFault.TheVariants.{Exists, Absent, Damaged, Pages, NoMemory}
use Rattle.bfs_smalldata.specs.Edits.{IsFitting}
use Rattle.bfs_stream.specs.Places.{whole_at}
use Rattle.bfs_stream.specs.Told.{contents}
use Rattle.bfs_stream.specs.declared.fault.GrowFault.{GrowFault}
use Rattle.bfs_stream.proofs.Frames.{has_left}
use Rattle.bfs_tree.specs.Trees.{Attribute, Attributes}
use Rattle.bfs_txn.specs.Faults.{Counts}
use Rattle.bfs_txn.specs.Told.{StaysChanged}
use Rattle.bfs_maps.specs.Refused.{IsUndone, HasTakeCause}
use Rattle.bfs_sound.specs.Attributes.{attribute_directory, attribute_inodes}
use Rattle.bfs_sound.specs.Volumes.{sizes}
use Rattle.bfs_attr.specs.Bearers.{Bearer, volume_at, attributes_at}
use Rattle.bfs_attr.specs.Changed.{attribute_blocks, Holds, AttributesNow, HasPut, IsInSmallData}
use Rattle.bfs_attr_write.proofs.Follows.{follows}
use Rattle.bfs_attrs.specs.Put.{IsUnknown, IsNotPutNew}
use Rattle.bfs_attrs.specs.Replaced.{HasAllBlocks, HasCleared, IsNotPut}
use Rattle.bfs_attrs.specs.Stored.{HasAddCause}
use Rattle.bfs_attrs.proofs.Clears.{get_removed, insert_removed}
use Rattle.bfs_attrs.proofs.Fresh.{block_cause}
use Rattle.bfs_make.proofs.Telling.{one_map}

pub on_both : {T F : Type 0} (P Q R : Type 0) (r : Result T F) → OnOk r P → OnOk r Q → (P → Q → R) → OnOk r R
on_both P Q R (Ok x) p q f = f p q
on_both P Q R (Err e) p q f = tt

-- no block has gone: they are the same, or were the bearing inode alone
module _ (b : Bearer) (m : ℕ → Option (List ℕ)) where
  pub all_same : (told : Option (ℕ → Option (List ℕ))) → IfSome told (λ map. attribute_blocks b.geometry map b.id ≡ attribute_blocks b.geometry m b.id) → HasAllBlocks b m told
  all_same None same = tt
  all_same (Some map) same = λ k has. subst (λ (l : List ℕ). Has l k) (sym same) has

  pub all_there : (told : Option (ℕ → Option (List ℕ))) (map : ℕ → Option (List ℕ)) → told ≡ Some map → ((k : ℕ) → Has (attribute_blocks b.geometry m b.id) k → Has (attribute_blocks b.geometry map b.id) k) → HasAllBlocks b m told
  all_there told map is keeps = subst (λ (o : Option (ℕ → Option (List ℕ))). IfSome o (λ map. (k : ℕ) → Has (attribute_blocks b.geometry m b.id) k → Has (attribute_blocks b.geometry map b.id) k)) (sym is) keeps

  module _ (missing : attribute_directory (volume_at b.geometry m) b.id ≡ None) where
    bearer_alone : attribute_blocks b.geometry m b.id ≡ b.id ∷ []
    bearer_alone = ap (λ (o : Option ℕ). b.id ∷ flat_map (whole_at (sizes b.geometry) (contents m)) (attribute_inodes (volume_at b.geometry m) o)) missing

    pub all_alone : (told : Option (ℕ → Option (List ℕ))) → HasAllBlocks b m told
    all_alone None = tt
    all_alone (Some map) = λ k has.
        has_left (b.id ∷ []) (flat_map (whole_at (sizes b.geometry) (contents map)) (attribute_inodes (volume_at b.geometry map) (attribute_directory (volume_at b.geometry map) b.id))) k (subst (λ (l : List ℕ). Has l k) bearer_alone has)

module _ (b : Bearer) (v mid : Room) (m : ℕ → Option (List ℕ)) (name : List ℕ) (told : Option (ℕ → Option (List ℕ))) (old half : ℕ → Bool) (cleared : HasCleared b v mid m name told old half) where
  abbrev m1 : ℕ → Option (List ℕ)
  m1 = cleared.now_are.map

  abbrev before : Attributes
  before = attributes_at (volume_at b.geometry m) b.id

  pub unknown_now : IsUnknown b mid m1 name
  unknown_now = record { holds = cleared.now_are.holds; unknown = ap (λ (a : Attributes). get a name) cleared.now_are.attributes_are ∙ get_removed before name }

  module _ (now : Room) (attribute : Attribute) (later : Option (ℕ → Option (List ℕ))) (new : ℕ → Bool) (put : HasPut b mid now m1 name attribute later half new) (keeps : HasAllBlocks b m1 later)
      (to_mid : mid ≡ record v { given = mid.given; tally = mid.tally }) (to_now : now ≡ record mid { given = now.given; tally = now.tally }) (holds : Holds b v m) (stays : StaysChanged half new) where
    same : insert (attributes_at (volume_at b.geometry m1) b.id) name attribute ≡ insert before name attribute
    same = ap (λ (a : Attributes). insert a name attribute) cleared.now_are.attributes_are ∙ insert_removed before name attribute

    two : AttributesNow b mid now m1 (insert before name attribute) later half new
    two = subst (λ (a : Attributes). AttributesNow b mid now m1 a later half new) same put.now_are

    kept_blocks : (k : ℕ) → Has (attribute_blocks b.geometry m1 b.id) k → Has (attribute_blocks b.geometry two.map b.id) k
    kept_blocks = subst (λ (o : Option (ℕ → Option (List ℕ))). IfSome o (λ map. (k : ℕ) → Has (attribute_blocks b.geometry m1 b.id) k → Has (attribute_blocks b.geometry map b.id) k)) two.is keeps

    both : AttributesNow b v now m (insert before name attribute) later old new
    both =
        follows b v mid now m (remove before name) (insert before name attribute) told later old half new to_mid to_now holds cleared.now_are two stays
        (λ k has. inr (kept_blocks k has))

    one : put.now_are.map ≡ both.map
    one = one_map later put.now_are.map both.map put.now_are.is both.is

    place : IsInSmallData (volume_at b.geometry put.now_are.map) b.id name ↔ IsFitting (drop 232 (contents m b.id)) name (length attribute.bytes)
    place = (λ there. (cleared.alike (length attribute.bytes)).0 (put.place.0 there), λ fits. put.place.1 ((cleared.alike (length attribute.bytes)).1 fits))

    pub has_come : HasPut b v now m name attribute later old new
    has_come = record {
      now_are = both;
      place = subst (λ (x : ℕ → Option (List ℕ)). IsInSmallData (volume_at b.geometry x) b.id name ↔ IsFitting (drop 232 (contents m b.id)) name (length attribute.bytes)) one place;
    }

  -- why it was not put then
  module _ (attribute : Attribute) (blocks : ℕ) where
    not_come : (fault : TreeFault GrowFault) → IsNotPutNew b mid m1 attribute blocks fault → IsNotPut b v m name attribute blocks fault
    not_come Exists h = h
    not_come Absent h = h
    not_come (Damaged page sort) h = h
    not_come (Pages fault) h = inr (record { now = mid; told = told; old = old; new = half; cleared = cleared; failed = h })
    not_come NoMemory h = h

    pub not_come_kept : {T : Type 0} (r : Result T (TreeFault GrowFault)) → IfErr r (IsNotPutNew b mid m1 attribute blocks) → IfErr r (IsNotPut b v m name attribute blocks)
    not_come_kept (Ok x) h = tt
    not_come_kept (Err fault) h = not_come fault h

pub undone_put : (b : Bearer) (v : Room) (m : ℕ → Option (List ℕ)) (name : List ℕ) (attribute : Attribute) (blocks : ℕ) (fault : TreeFault GrowFault) → IsUndone fault → IsNotPut b v m name attribute blocks fault
undone_put b v m name attribute blocks Exists h = h
undone_put b v m name attribute blocks Absent h = h
undone_put b v m name attribute blocks (Damaged page sort) h = h
undone_put b v m name attribute blocks (Pages fault) h = inl h
undone_put b v m name attribute blocks NoMemory h = h

-- the causes of a call that takes what is there
pub taken_added : (n : ℕ) (old new : Counts) (fault : TreeFault GrowFault) → (fault ≡ Absent → ⊥) → HasTakeCause old new fault → HasAddCause n old new fault
taken_added n old new Exists there h = tt
taken_added n old new Absent there h = absurd (there refl)
taken_added n old new (Damaged page sort) there h = tt
taken_added n old new (Pages fault) there h = block_cause n old new fault h.0 h.1
taken_added n old new NoMemory there h = tt
