-- An attribute that was stored, and the row that is put for it.
use Rattle.std.proofs.Common.{◌≡◌, ◌≤◌, inr, ℕ, List, Bool, Option, subst}
use Rattle.std.specs.Prelude.{Result, Ok, Err, IfErr, IfSome}
use Rattle.bfs_bitmap.specs.Runs.{Room}
use Rattle.bfs_node.specs.declared.fault.TreeFault.{TreeFault}
use Rattle.bfs_node.specs.declared.fault.TreeFault.TheVariants.{Exists, Absent, Damaged, Pages, NoMemory}
use Rattle.bfs_super.specs.Geometry.{geometry_of}
use Rattle.bfs_super.specs.declared.sup.Super.{Super}
use Rattle.bfs_stream.specs.Sizes.{sizes_of, first_block}
use Rattle.bfs_stream.specs.declared.fault.GrowFault.{GrowFault}
use Rattle.bfs_stream.proofs.Stops.{cause_wider}
use Rattle.bfs_txn.specs.Faults.{Counts, AreLater}
use Rattle.bfs_tree.specs.Trees.{Attribute}
use Rattle.bfs_maps.specs.Refused.{HasPutCause}
use Rattle.bfs_make.specs.Made.{HasStored}
use Rattle.bfs_make.specs.declared.making.NewInode.{NewInode}
use Rattle.bfs_attr.specs.Bearers.{Bearer, bearer_of, volume_at, origin}
use Rattle.bfs_attr.specs.Made.{IsAttributeInode}
use Rattle.bfs_attr_write.specs.Adding.{IsStored, IsRowFault}
use Rattle.bfs_attrs.specs.Stored.{IsNotAdded, HasAddCause}

-- what was stored is the attribute's
pub stored_there : (s : Super) (inode : ℕ) (v mid : Room) (m : ℕ → Option (List ℕ)) (n : NewInode) (bytes : List ℕ) (attribute : Attribute) (told : Option (ℕ → Option (List ℕ))) (old half : ℕ → Bool)
    → (h : HasStored (sizes_of s) v mid m n bytes told old half) → IfSome told (λ map. IsAttributeInode (volume_at (geometry_of s) map) (first_block (sizes_of s) n.address) attribute)
    → (id : ℕ) → first_block (sizes_of s) n.address ≡ id → IsStored (bearer_of inode s) v mid m h.map id attribute old half
stored_there s inode v mid m n bytes attribute told old half h is id at =
    subst (λ (k : ℕ). IsStored (bearer_of inode s) v mid m h.map k attribute old half) at
    (record {
      fresh = h.stream;
      held = h.held;
      inode = subst (λ (o : Option (ℕ → Option (List ℕ))). IfSome o (λ map. IsAttributeInode (volume_at (geometry_of s) map) (first_block (sizes_of s) n.address) attribute)) h.is is;
      written = h.written;
      entered = h.entered;
    })

module _ (b : Bearer) (v mid : Room) (m map : ℕ → Option (List ℕ)) (d id blocks : ℕ) (attribute : Attribute) (old half : ℕ → Bool) (stored : IsStored b v mid m map id attribute old half) where
  not_added : (fault : TreeFault GrowFault) → IsRowFault (origin b.geometry d) mid map fault → IsNotAdded b v m d attribute blocks fault
  not_added Exists h = h
  not_added Absent h = h
  not_added (Damaged page sort) h = h
  not_added (Pages fault) h = inr (record { now = mid; map = map; id = id; old = old; new = half; stored = stored; failed = h })
  not_added NoMemory h = h

  pub row_not_added : {T : Type 0} (r : Result T (TreeFault GrowFault)) → IfErr r (IsRowFault (origin b.geometry d) mid map) → IfErr r (IsNotAdded b v m d attribute blocks)
  row_not_added (Ok x) h = tt
  row_not_added (Err fault) h = not_added fault h

put_added : (n : ℕ) (a b c : Counts) (fault : TreeFault GrowFault) → 1 ≤ n → AreLater a b → HasPutCause b c fault → HasAddCause n a c fault
put_added n a b c Exists some later h = h
put_added n a b c Absent some later h = h
put_added n a b c (Damaged page sort) some later h = h
put_added n a b c (Pages fault) some later h = cause_wider 1 n a b c fault some later h
put_added n a b c NoMemory some later h = h

pub put_cause_added : {T : Type 0} (n : ℕ) (a b c : Counts) (r : Result T (TreeFault GrowFault)) → 1 ≤ n → AreLater a b → IfErr r (HasPutCause b c) → IfErr r (HasAddCause n a c)
put_cause_added n a b c (Ok x) some later h = tt
put_cause_added n a b c (Err fault) some later h = put_added n a b c fault some later h
