-- The attribute that moves out first, and why it wasn't moved.
use Rattle.std.proofs.Common.{◌≡◌, ◌∙◌, ℕ, List, drop, Option, Some, sym, ap, subst}
use Rattle.std.specs.Option.{option_and_then}
use Rattle.bfs_bitmap.specs.Runs.{Room}
use Rattle.bfs_node.specs.declared.fault.TreeFault.{TreeFault}
use Rattle.bfs_node.specs.declared.fault.TreeFault.TheVariants.{Pages}
use Rattle.bfs_txn.specs.Faults.{Counts, IsCauseOf}
use Rattle.bfs_txn.specs.declared.fault.BlockFault.{BlockFault}
use Rattle.bfs_txn.specs.declared.fault.BlockFault.TheVariants.{Disk, Stopped, Damaged, NoMemory}
use Rattle.bfs_smalldata.specs.Items.{Item}
use Rattle.bfs_stream.specs.Told.{contents}
use Rattle.bfs_stream.specs.declared.fault.GrowFault.{GrowFault}
use Rattle.bfs_stream.specs.declared.fault.GrowFault.TheVariants as grow
use Rattle.bfs_stream.proofs.Stops.{caused_in}
use Rattle.bfs_maps.specs.Refused.{IsUndone}
use Rattle.bfs_attr.specs.Bearers.{Bearer}
use Rattle.bfs_attr.specs.Changed.{Holds}
use Rattle.bfs_attr.specs.SmallData.{attribute_in}
use Rattle.bfs_attrs.specs.Laws.{LongestCanMove}
use Rattle.bfs_attrs.specs.Moved.{IsWithin}
use Rattle.bfs_attrs.specs.Stored.{HasAddCause}
use Rattle.bfs_set_name.specs.Renamed.{IsNext, longest_in}
use Rattle.bfs_set_name.proofs.Placed.{longest_of}

pub first_within : (law : LongestCanMove) (b : Bearer) (v : Room) (m : ℕ → Option (List ℕ)) (item : Item) → Holds b v m → longest_in (drop 232 (contents m b.id)) ≡ Some item → IsWithin b v m item.name (attribute_in item)
first_within law b v m item holds first =
    let longest : longest_of holds.stands.items ≡ Some item = sym (ap (option_and_then longest_of) holds.stands.area) ∙ first in
    law b v m holds.stands.items item holds holds.stands.area longest

pub next_within : (law : LongestCanMove) (b : Bearer) (v : Room) (m : ℕ → Option (List ℕ)) (item : Item) → IsNext b v m item → IsWithin b v m item.name (attribute_in item)
next_within law b v m item next = first_within law b v m item next.holds next.first

-- a block that could not be had
undone_in : (old new : Counts) (fault : BlockFault) → IsCauseOf old new fault → IsUndone (Pages (grow.Block fault))
undone_in old new (Disk before after) cause = λ bad. bad
undone_in old new (Stopped durable faults) cause = λ bad. bad
undone_in old new (Damaged block) cause = absurd cause
undone_in old new NoMemory cause = λ bad. bad

module _ (old new : Counts) (fault : BlockFault) (result : TreeFault GrowFault) (is : result ≡ Pages (grow.Block fault)) (cause : IsCauseOf old new fault) where
  pub block_undone : IsUndone result
  block_undone = subst IsUndone (sym is) (undone_in old new fault cause)

  pub block_added : (n : ℕ) → HasAddCause n old new result
  block_added n = subst (HasAddCause n old new) (sym is) (caused_in old new fault cause)
