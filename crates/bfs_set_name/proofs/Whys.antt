-- Why a name was not set, from why a step was not made.
use Rattle.std.proofs.Common.{inl, inr, ℕ, List, Bool, Option}
use Rattle.bfs_bitmap.specs.Runs.{Room}
use Rattle.bfs_node.specs.declared.fault.TreeFault.{TreeFault}
use Rattle.bfs_node.specs.declared.fault.TreeFault.TheVariants.{Exists, Absent, Damaged, Pages, NoMemory}
use Rattle.bfs_stream.specs.declared.fault.GrowFault.{GrowFault}
use Rattle.bfs_sound.specs.Need.{moves}
use Rattle.bfs_attr.specs.Bearers.{Bearer, volume_at}
use Rattle.bfs_set_name.proofs.Joins.{SoFar}
use Rattle.bfs_set_name.proofs.Orders.{order_next}
use Rattle.bfs_set_name.specs.Renamed.{HasNotGone, HasStopped, IsNotNamed, IsNotStepped}

module _ (b : Bearer) (v : Room) (m : ℕ → Option (List ℕ)) (name : List ℕ) (mid : Room) (told : Option (ℕ → Option (List ℕ))) (old half : ℕ → Bool) (left : ℕ) (far : SoFar b v mid m name told old half left) where
  abbrev m1 : ℕ → Option (List ℕ)
  m1 = far.have.now_are.map

  stopped : (fault : GrowFault) → HasNotGone b mid m1 name fault → HasStopped b v m name fault
  stopped fault h = record {
    moved = far.moved;
    item = h.item;
    more = h.more;
    order = order_next (moves (volume_at b.geometry m) b.id name) far.moved (moves (volume_at b.geometry m1) b.id name) far.order h.item h.more h.order;
    now = mid;
    told = told;
    old = old;
    new = half;
    so_far = far.have;
    failed = h.failed;
  }

  pub not_named : (fault : TreeFault GrowFault) → IsNotStepped b mid m1 name fault → IsNotNamed b v m name fault
  not_named Exists h = h
  not_named Absent h = h
  not_named (Damaged page sort) h = h
  not_named (Pages fault) (inl h) = inl h
  not_named (Pages fault) (inr h) = inr (stopped fault h)
  not_named NoMemory h = h
