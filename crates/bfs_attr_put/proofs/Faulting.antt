-- The faults of a call that writes an attribute.
use Rattle.std.proofs.Common.{◌≤◌, inl, inr, ℕ, List, Option, arith}
use Rattle.bfs_bitmap.specs.Runs.{Room}
use Rattle.bfs_node.specs.declared.fault.TreeFault.{TreeFault}
use Rattle.bfs_node.specs.declared.fault.TreeFault.TheVariants as tree
use Rattle.bfs_txn.specs.Faults.{Counts, AreLater}
use Rattle.bfs_txn.specs.declared.fault.BlockFault.{BlockFault}
use Rattle.bfs_stream.specs.Scans.{IsDamage}
use Rattle.bfs_stream.specs.Sizes.{Sizes}
use Rattle.bfs_stream.specs.declared.fault.GrowFault.{GrowFault}
use Rattle.bfs_stream.specs.declared.fault.GrowFault.TheVariants as grow
use Rattle.bfs_stream.proofs.Stops.{cause_wider}
use Rattle.bfs_super.specs.Conditions.{ceil}
use Rattle.bfs_sound.specs.Volumes.{sizes}
use Rattle.bfs_tree.specs.Trees.{Attribute}
use Rattle.bfs_make.specs.Made.{IsNotStored}
use Rattle.bfs_attr.specs.Bearers.{Bearer}
use Rattle.bfs_attr_calls.specs.Put.{IsNotPutNew}
use Rattle.bfs_attr_calls.specs.Replaced.{IsNotPut}
use Rattle.bfs_attr_calls.specs.Stored.{HasAddCause, IsNotAdded, IsNotBegun}
use Rattle.bfs_attr_calls.specs.Done.{HasAnswerCause, IsUnanswered}
use Rattle.bfs_attr_calls.specs.Faults.{put_fault}
use Rattle.bfs_attr_put.specs.Written.{HasWriteCause}

-- where a block could not be had, none is damaged
module _ (f : BlockFault) where
  stored_sound : (s : Sizes) (v : Room) (m : ℕ → Option (List ℕ)) (blocks : ℕ) → IsNotStored s v m blocks (grow.Block f) → ¬ IsDamage f
  stored_sound s v m blocks (inl none) = none
  stored_sound s v m blocks (inr later) = later.4

  added_sound : (b : Bearer) (v : Room) (m : ℕ → Option (List ℕ)) (d : ℕ) (attribute : Attribute) (blocks : ℕ) → IsNotAdded b v m d attribute blocks (tree.Pages (grow.Block f)) → ¬ IsDamage f
  added_sound b v m d attribute blocks (inl h) = stored_sound (sizes b.geometry) v m blocks h
  added_sound b v m d attribute blocks (inr h) = h.failed.why

  begun_sound : (b : Bearer) (v : Room) (m : ℕ → Option (List ℕ)) (attribute : Attribute) (blocks : ℕ) → IsNotBegun b v m attribute blocks (tree.Pages (grow.Block f)) → ¬ IsDamage f
  begun_sound b v m attribute blocks (inl h) = stored_sound (sizes b.geometry) v m (ceil 2048 b.geometry.block_size) h
  begun_sound b v m attribute blocks (inr h) = added_sound b h.now h.made.now_are.map h.d attribute blocks h.failed

  new_sound : (b : Bearer) (v : Room) (m : ℕ → Option (List ℕ)) (attribute : Attribute) (blocks : ℕ) → IsNotPutNew b v m attribute blocks (tree.Pages (grow.Block f)) → ¬ IsDamage f
  new_sound b v m attribute blocks (inl h) = h
  new_sound b v m attribute blocks (inr (inl h)) = added_sound b v m h.0 attribute blocks h.1
  new_sound b v m attribute blocks (inr (inr h)) = begun_sound b v m attribute blocks h

  put_sound : (b : Bearer) (v : Room) (m : ℕ → Option (List ℕ)) (name : List ℕ) (attribute : Attribute) (blocks : ℕ) → IsNotPut b v m name attribute blocks (tree.Pages (grow.Block f)) → ¬ IsDamage f
  put_sound b v m name attribute blocks (inl h) = h
  put_sound b v m name attribute blocks (inr h) = new_sound b h.now h.cleared.now_are.map attribute blocks h.failed

-- an attribute that wasn't put
pub put_unanswered : (b : Bearer) (v : Room) (m : ℕ → Option (List ℕ)) (name : List ℕ) (attribute : Attribute) (blocks id : ℕ) (fault : TreeFault GrowFault) → IsNotPut b v m name attribute blocks fault → IsUnanswered (put_fault id fault)
put_unanswered b v m name attribute blocks id tree.Exists h = absurd h
put_unanswered b v m name attribute blocks id tree.Absent h = h
put_unanswered b v m name attribute blocks id (tree.Damaged page sort) h = h
put_unanswered b v m name attribute blocks id (tree.Pages (grow.NoRun wanted free)) h = tt
put_unanswered b v m name attribute blocks id (tree.Pages (grow.Full room)) h = tt
put_unanswered b v m name attribute blocks id (tree.Pages (grow.Block f)) h = put_sound f b v m name attribute blocks h
put_unanswered b v m name attribute blocks id tree.NoMemory h = tt

-- the causes of a call that asks for fewer blocks, and of one that begins later
pub answer_write : (n : ℕ) (a b c : Counts) (fault : TreeFault GrowFault) → 1 ≤ n → AreLater a b → HasAnswerCause b c fault → HasWriteCause n a c fault
answer_write n a b c tree.Exists some later h = h
answer_write n a b c tree.Absent some later h = h
answer_write n a b c (tree.Damaged page sort) some later h = h
answer_write n a b c (tree.Pages fault) some later h = cause_wider 1 n a b c fault some later h
answer_write n a b c tree.NoMemory some later h = h

pub put_write : (n : ℕ) (a b c : Counts) (id : ℕ) (fault : TreeFault GrowFault) → AreLater a b → HasAddCause n b c fault → HasWriteCause n a c (put_fault id fault)
put_write n a b c id tree.Exists later h = tt
put_write n a b c id tree.Absent later h = h
put_write n a b c id (tree.Damaged page sort) later h = h
put_write n a b c id (tree.Pages fault) later h = cause_wider n n a b c fault (omega arith) later h
put_write n a b c id tree.NoMemory later h = h

pub write_earlier : (n : ℕ) (a b c : Counts) (fault : TreeFault GrowFault) → AreLater a b → HasWriteCause n b c fault → HasWriteCause n a c fault
write_earlier n a b c tree.Exists later h = h
write_earlier n a b c tree.Absent later h = h
write_earlier n a b c (tree.Damaged page sort) later h = h
write_earlier n a b c (tree.Pages fault) later h = cause_wider n n a b c fault (omega arith) later h
write_earlier n a b c tree.NoMemory later h = h
