-- The faults of a node's own name that isn't set.
use Rattle.std.proofs.Common.{inl, inr, ℕ, List, Option, length}
use Rattle.bfs_bitmap.specs.Runs.{Room}
use Rattle.bfs_node.specs.declared.fault.TreeFault.{TreeFault}
use Rattle.bfs_node.specs.declared.fault.TreeFault.TheVariants as tree
use Rattle.bfs_txn.specs.declared.fault.BlockFault.{BlockFault}
use Rattle.bfs_stream.specs.Scans.{IsDamage}
use Rattle.bfs_stream.specs.Sizes.{Sizes}
use Rattle.bfs_stream.specs.declared.fault.GrowFault.{GrowFault}
use Rattle.bfs_stream.specs.declared.fault.GrowFault.TheVariants as grow
use Rattle.bfs_super.specs.Conditions.{ceil}
use Rattle.bfs_sound.specs.Volumes.{sizes}
use Rattle.bfs_tree.specs.Trees.{Attribute}
use Rattle.bfs_make.specs.Made.{IsNotStored}
use Rattle.bfs_attr.specs.Bearers.{Bearer}
use Rattle.bfs_set_name.specs.Put.{IsNotPutNew}
use Rattle.bfs_set_name.specs.Stored.{IsNotAdded, IsNotBegun}
use Rattle.bfs_attr_put.specs.Done.{IsUnanswered}
use Rattle.bfs_attr_put.specs.Faults.{put_fault}
use Rattle.bfs_set_name.specs.Renamed.{IsNotNamed, HasStopped}

-- where a block could not be had, none is damaged
module _ (f : BlockFault) where
  stored_sound : (s : Sizes) (v : Room) (m : ℕ → Option (List ℕ)) (blocks : ℕ) → IsNotStored s v m blocks (grow.Block f) → ¬ IsDamage f
  stored_sound s v m blocks (inl none) = none
  stored_sound s v m blocks (inr later) = later.4

  added_sound : (b : Bearer) (v : Room) (m : ℕ → Option (List ℕ)) (d : ℕ) (attribute : Attribute) (blocks : ℕ) → IsNotAdded b v m d attribute blocks (tree.Pages (grow.Block f)) → ¬ IsDamage f
  added_sound b v m d attribute blocks (inl h) = stored_sound (sizes b.geometry) v m blocks h
  added_sound b v m d attribute blocks (inr h) = h.failed.why

  begun_sound : (b : Bearer) (v : Room) (m : ℕ → Option (List ℕ)) (attribute : Attribute) (blocks : ℕ) → IsNotBegun b v m attribute blocks (tree.Pages (grow.Block f)) → ¬ IsDamage f
  begun_sound b v m attribute blocks (inl h) = stored_sound (sizes b.geometry) v m (ceil 2048 b.geometry.block_size) h
  begun_sound b v m attribute blocks (inr h) = added_sound b h.now h.made.now_are.map h.d attribute blocks h.failed

  new_sound : (b : Bearer) (v : Room) (m : ℕ → Option (List ℕ)) (attribute : Attribute) (blocks : ℕ) → IsNotPutNew b v m attribute blocks (tree.Pages (grow.Block f)) → ¬ IsDamage f
  new_sound b v m attribute blocks (inl h) = h
  new_sound b v m attribute blocks (inr (inl h)) = added_sound b v m h.0 attribute blocks h.1
  new_sound b v m attribute blocks (inr (inr h)) = begun_sound b v m attribute blocks h

-- a name that wasn't set
pub name_unanswered : (b : Bearer) (v : Room) (m : ℕ → Option (List ℕ)) (name : List ℕ) (id : ℕ) (fault : TreeFault GrowFault) → IsNotNamed b v m name fault → IsUnanswered (put_fault id fault)
name_unanswered b v m name id tree.Exists h = absurd h
name_unanswered b v m name id tree.Absent h = h
name_unanswered b v m name id (tree.Damaged page sort) h = h
name_unanswered b v m name id (tree.Pages (grow.NoRun wanted free)) h = tt
name_unanswered b v m name id (tree.Pages (grow.Full room)) h = tt
name_unanswered b v m name id (tree.Pages (grow.Block f)) (inl h) = h
name_unanswered b v m name id (tree.Pages (grow.Block f)) (inr h) = new_sound f b h.now h.failed.taken.now_are.map (attribute_of h) (blocks_of h) h.failed.failed
  where
    attribute_of : HasStopped b v m name (grow.Block f) → Attribute
    attribute_of s = record { code = s.item.kind; bytes = s.item.bytes }

    blocks_of : HasStopped b v m name (grow.Block f) → ℕ
    blocks_of s = ceil (length s.item.bytes) b.geometry.block_size
name_unanswered b v m name id tree.NoMemory h = tt
