-- A name that no attribute has, since the one that had it was taken, or since none had it.
use Rattle.std.proofs.Common.{◌≡◌, ◌⊎◌, inl, inr, ◌<◌, ◌∙◌, ℕ, List, drop, Bool, true, false, cond, Option, Some, None, refl, sym, ap, subst, arith}
use Rattle.std.specs.Prelude.{◌==◌, Result, Ok, Err, IfErr, IfSome, IsSome}
use Rattle.std.specs.FinMap.{get, insert, remove, same_map, get-insert, get-remove, slice_cmp-IsAntisymmetric, nat_cmp-IsAntisymmetric}
use Rattle.std.specs.Ordering.{eq_by_cmp}
use Rattle.std.specs.Cmp.Lexicographic.{nat_list_cmp_total}
use Rattle.std.proofs.lemmas.Slice.Eq.{bytes_eq-Decides}
use Rattle.bfs_base.specs.Keys.{text_cmp}
use Rattle.bfs_bitmap.specs.Runs.{Room, per_block, is_free, marked}
use Rattle.bfs_node.specs.declared.fault.TreeFault.{TreeFault}
use Rattle.bfs_node.specs.declared.fault.TreeFault.TheVariants.{Exists, Absent, Damaged, Pages, NoMemory}
use Rattle.bfs_inode.specs.Inode.{inode_at}
use Rattle.bfs_stream.specs.Told.{contents}
use Rattle.bfs_stream.specs.declared.fault.GrowFault.{GrowFault}
use Rattle.bfs_base.specs.Lists.{times}
use Rattle.bfs_tree.specs.Trees.{Attribute, Attributes}
use Rattle.bfs_txn.specs.Faults.{Counts}
use Rattle.bfs_maps.specs.Refused.{IsUndone, HasTakeCause}
use Rattle.bfs_sound.specs.Attributes.{attributes_of, attribute_directory}
use Rattle.bfs_sound.specs.Volumes.{Volume}
use Rattle.bfs_attr.specs.Bearers.{Bearer, volume_at, attributes_at, value_at}
use Rattle.bfs_attr.specs.Changed.{attribute_blocks, Holds, AttributesNow, HasTaken}
use Rattle.bfs_attr.proofs.Finds.{same_test}
use Rattle.bfs_attr.proofs.Stays.{none_taken, none_new}
use Rattle.bfs_attr_write.specs.Exchanged.{Exchanged}
use Rattle.bfs_attr_write.specs.Removal.{IsNotTakenOut}
use Rattle.bfs_attr_write.proofs.Addressed.{now_exchanged}
use Rattle.bfs_attrs.specs.Removed.{FitAlike, IsNotRemoved, IsUntouched}
use Rattle.bfs_attrs.specs.Replaced.{HasCleared}
use Rattle.bfs_attrs.proofs.Alike.{same_fit}
use Rattle.bfs_attrs.proofs.Older.{wrote_older}
use Rattle.bfs_make.proofs.Telling.{one_map}
use Rattle.bfs_attrs.proofs.Stood.{none_finds}

same_key : (name : List ℕ) → eq_by_cmp text_cmp name name ≡ true
same_key name = same_test name name ∙ (bytes_eq-Decides name name).1 refl

pub key_is : (q name : List ℕ) → eq_by_cmp text_cmp q name ≡ true → q ≡ name
key_is q name e = sym ((bytes_eq-Decides name q).0 (sym (same_test q name) ∙ e))

-- a name that isn't there can be taken out, and one that was taken out isn't there
pub remove_none : (a : Attributes) (name : List ℕ) → get a name ≡ None → remove a name ≡ a
remove_none a name none = same_map nat_list_cmp_total (slice_cmp-IsAntisymmetric nat_cmp-IsAntisymmetric) _ _ (λ q. get-remove nat_list_cmp_total a name q ∙ by_test q (eq_by_cmp text_cmp q name) refl)
  where
    by_test : (q : List ℕ) (t : Bool) → eq_by_cmp text_cmp q name ≡ t → cond t None (get a q) ≡ get a q
    by_test q true e = sym (ap (λ (n : List ℕ). get a n) (key_is q name e) ∙ none)
    by_test q false e = refl

pub get_removed : (a : Attributes) (name : List ℕ) → get (remove a name) name ≡ None
get_removed a name = get-remove nat_list_cmp_total a name name ∙ ap (λ (t : Bool). cond t None (get a name)) (same_key name)

-- what is put where one was taken out is put over it
pub insert_removed : (a : Attributes) (name : List ℕ) (x : Attribute) → insert (remove a name) name x ≡ insert a name x
insert_removed a name x = same_map nat_list_cmp_total (slice_cmp-IsAntisymmetric nat_cmp-IsAntisymmetric) _ _ (λ q.
    get-insert nat_list_cmp_total (remove a name) name x q
    ∙ ap (λ (o : Option Attribute). cond (eq_by_cmp text_cmp q name) (Some x) o) (get-remove nat_list_cmp_total a name q)
    ∙ twice (eq_by_cmp text_cmp q name) (Some x) (get a q)
    ∙ sym (get-insert nat_list_cmp_total a name x q))
  where
    twice : (t : Bool) (x y : Option Attribute) → cond t x (cond t None y) ≡ cond t x y
    twice true x y = refl
    twice false x y = refl

-- no fault that stands for a name that isn't there
pub undone_untouched : (b : Bearer) (v now : Room) (m : ℕ → Option (List ℕ)) (told : Option (ℕ → Option (List ℕ))) (old new : ℕ → Bool) (fault : TreeFault GrowFault) → IsUndone fault → IsUntouched b v now m told old new fault
undone_untouched b v now m told old new Exists h = tt
undone_untouched b v now m told old new Absent h = absurd h
undone_untouched b v now m told old new (Damaged page sort) h = tt
undone_untouched b v now m told old new (Pages fault) h = tt
undone_untouched b v now m told old new NoMemory h = tt

-- a row that is there is there
pub out_untouched : {T : Type 0} (b : Bearer) (v now : Room) (m : ℕ → Option (List ℕ)) (told : Option (ℕ → Option (List ℕ))) (old new : ℕ → Bool) (d : ℕ) (name : List ℕ) → attribute_directory (volume_at b.geometry m) b.id ≡ Some d
    → IsSome (value_at (attributes_of (volume_at b.geometry m) (Some d)) name) → (r : Result T (TreeFault GrowFault)) → IfErr r (IsNotTakenOut (volume_at b.geometry m) b.id name) → IfErr r (IsUntouched b v now m told old new)
out_untouched b v now m told old new d name there some (Ok x) h = tt
out_untouched b v now m told old new d name there some (Err Exists) h = tt
out_untouched b v now m told old new d name there some (Err Absent) h =
    let none : value_at (attributes_of (volume_at b.geometry m) (Some d)) name ≡ None =
    ap (λ (o : Option ℕ). value_at (attributes_of (volume_at b.geometry m) o) name) (sym there) ∙ none_finds name (attributes_of (volume_at b.geometry m) (attribute_directory (volume_at b.geometry m) b.id)) h in
    let bad : false ≡ true = subst (λ (o : Option Attribute). IsSome o) none some in
    absurd (let worse : false ≡ true = bad in cc)
out_untouched b v now m told old new d name there some (Err (Damaged page sort)) h = tt
out_untouched b v now m told old new d name there some (Err (Pages fault)) h = tt
out_untouched b v now m told old new d name there some (Err NoMemory) h = tt

-- begun a little earlier
pub untouched_older : {T : Type 0} (b : Bearer) (v now : Room) (m : ℕ → Option (List ℕ)) (told : Option (ℕ → Option (List ℕ))) (old half new : ℕ → Bool) → ((k : ℕ) → half k ≡ true → (old k ≡ true) ⊎ (k ≡ b.id)) → (r : Result T (TreeFault GrowFault))
    → IfErr r (IsUntouched b v now m told half new) → IfErr r (IsUntouched b v now m told old new)
untouched_older b v now m told old half new set (Ok x) h = tt
untouched_older b v now m told old half new set (Err Exists) h = tt
untouched_older b v now m told old half new set (Err Absent) h = (h.0, h.1, λ k e. by_side k (h.2 k e))
  where
    by_side : (k : ℕ) → (half k ≡ true) ⊎ (k ≡ b.id) → (old k ≡ true) ⊎ (k ≡ b.id)
    by_side k (inl had) = set k had
    by_side k (inr is) = inr is
untouched_older b v now m told old half new set (Err (Damaged page sort)) h = tt
untouched_older b v now m told old half new set (Err (Pages fault)) h = tt
untouched_older b v now m told old half new set (Err NoMemory) h = tt

-- nothing came and nothing went
module _ (b : Bearer) (v : Room) (m : ℕ → Option (List ℕ)) (holds : Holds b v m) where
  abbrev mine : List ℕ
  mine = attribute_blocks b.geometry m b.id

  still : Exchanged v v m m mine mine
  still = record {
    rest = refl;
    fits = holds.fits;
    were_free = λ k has none. let some : 0 < times k mine = has in absurd (omega (arith, some, none));
    free = λ k. none_taken (is_free v m k) (times k mine) (holds.taken k);
    marks = λ k low. none_new (times k mine == 0) (marked (per_block v) m k);
    counted = λ used count. count;
    others = λ k far none. refl;
    first = λ none. refl;
  }

  kept : inode_at (contents m b.id) ≡ record (inode_at (contents m b.id)) { attributes = (inode_at (contents m b.id)).attributes; small_data = (inode_at (contents m b.id)).small_data }
  kept = refl

  module _ (told : Option (ℕ → Option (List ℕ))) (is : told ≡ Some m) (old new : ℕ → Bool) (written : (k : ℕ) → new k ≡ true → (old k ≡ true) ⊎ (k ≡ b.id)) (name : List ℕ) (none : get (attributes_at (volume_at b.geometry m) b.id) name ≡ None) where
    same_now : AttributesNow b v v m (remove (attributes_at (volume_at b.geometry m) b.id) name) told old new
    same_now =
        now_exchanged b v v m m (remove (attributes_at (volume_at b.geometry m) b.id) name) told old new is still holds (sym (remove_none (attributes_at (volume_at b.geometry m) b.id) name none)) kept
        (wrote_older b v m old new new written mine (λ k e. inl e)) (λ k has none. let some : 0 < times k mine = has in absurd (omega (arith, some, none)))

    pub none_cleared : HasCleared b v v m name told old new
    none_cleared = record {
      now_are = same_now;
      alike = same_fit name (drop 232 (contents m b.id)) (drop 232 (contents same_now.map b.id)) (ap (λ (x : ℕ → Option (List ℕ)). drop 232 (contents x b.id)) (one_map told same_now.map m same_now.is is));
    }

-- the one of the name was taken
pub taken_cleared : (b : Bearer) (v now : Room) (m : ℕ → Option (List ℕ)) (name : List ℕ) (told : Option (ℕ → Option (List ℕ))) (old new : ℕ → Bool) → HasTaken b v now m name told old new
    → IfSome told (λ map. FitAlike name (drop 232 (contents m b.id)) (drop 232 (contents map b.id))) → HasCleared b v now m name told old new
taken_cleared b v now m name told old new h alike = record {
  now_are = h.now_are;
  alike = subst (λ (o : Option (ℕ → Option (List ℕ))). IfSome o (λ map. FitAlike name (drop 232 (contents m b.id)) (drop 232 (contents map b.id)))) h.now_are.is alike;
}

pub removed_undone : (v : Volume) (id : ℕ) (name : List ℕ) (fault : TreeFault GrowFault) → (fault ≡ Absent → ⊥) → IsNotRemoved v id name fault → IsUndone fault
removed_undone v id name Exists other h = h
removed_undone v id name Absent other h = absurd (other refl)
removed_undone v id name (Damaged page sort) other h = h
removed_undone v id name (Pages fault) other h = h
removed_undone v id name NoMemory other h = h

-- a fault but that there is none
pub other_undone : {T : Type 0} (r : Result T (TreeFault GrowFault)) (fault : TreeFault GrowFault) → IfErr r (λ e. (e ≡ fault) × (fault ≡ Absent → ⊥)) → (v : Volume) (id : ℕ) (name : List ℕ) → IsNotRemoved v id name fault → IfErr r IsUndone
other_undone (Ok x) fault other v id name h = tt
other_undone (Err e) fault other v id name h = subst IsUndone (sym other.0) (removed_undone v id name fault other.1 h)

pub other_caused : {T : Type 0} (r : Result T (TreeFault GrowFault)) (fault : TreeFault GrowFault) → IfErr r (λ e. (e ≡ fault) × (fault ≡ Absent → ⊥)) → (old new : Counts) → HasTakeCause old new fault
    → IfErr r (λ e. (e ≡ Absent → ⊥) × HasTakeCause old new e)
other_caused (Ok x) fault other old new h = tt
other_caused (Err e) fault other old new h = (λ absent. other.1 (sym other.0 ∙ absent), subst (HasTakeCause old new) (sym other.0) h)

-- a fault that is that there is none
pub absent_cleared : (b : Bearer) (v now : Room) (m : ℕ → Option (List ℕ)) (told : Option (ℕ → Option (List ℕ))) (old new : ℕ → Bool) (name : List ℕ) (fault : TreeFault GrowFault) → Holds b v m → fault ≡ Absent → IsUntouched b v now m told old new fault
    → IsNotRemoved (volume_at b.geometry m) b.id name fault → HasCleared b v now m name told old new
absent_cleared b v now m told old new name fault holds absent untouched none =
    let h = subst (IsUntouched b v now m told old new) absent untouched in
    subst (λ (x : Room). HasCleared b v x m name told old new) (sym h.0) (none_cleared b v m holds told h.1 old new h.2 name (subst (IsNotRemoved (volume_at b.geometry m) b.id name) absent none))
