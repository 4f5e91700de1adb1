-- A file is held to be written: its stamps change, and the index that lists it by one of them.
use Rattle.std.specs.Prelude.{◌≡◌, ◌≤◌, ℕ, ℤ, List, length, Bool, true, Option, Some, codes}
use Rattle.bfs_base.specs.declared.kind.KeyKind.TheVariants.{Text}
use Rattle.bfs_super.specs.declared.geometry.Geometry.{Geometry}
use Rattle.bfs_bitmap.specs.Runs.{Room}
use Rattle.bfs_inode.specs.Inode.{inode_at, stream_at}
use Rattle.bfs_txn.specs.Told.{with_block}
use Rattle.bfs_stream.specs.Told.{contents}
use Rattle.bfs_tree.specs.Changes.{with_node}
use Rattle.bfs_tree.specs.Trees.{Node, Tree}
use Rattle.bfs_tree.specs.declared.call.Call.TheVariants.{Hold}
use Rattle.bfs_maps.specs.NumberTrees.{IsNumberAt}
use Rattle.bfs_shift.specs.Lists.{Lists}
use Rattle.bfs_shift.specs.Stocked.{HasWords}
use Rattle.bfs_calls.specs.Done.{IsDone}
use Rattle.bfs_set_size.specs.Sized.{IsUnrefused}

-- the tree once a node's stamps of the last changes of content and status are this one, as a hold for writing makes it
abbrev pub with_stamps : Tree → ℕ → ℤ → Tree
with_stamps tree id stamp = record tree { nodes = with_node tree.nodes id (λ n. record n { modified = stamp; changed = stamp }) }

-- Of the inode in a block, the stamps of its last changes are this one; all else is what it was.
pub record HasStampsSet (stamp : ℤ) (old new : List ℕ) : Type 0 where
  pub inode : inode_at new ≡ record (inode_at old) { last_modified_time = stamp; status_change_time = stamp }
  pub stream : stream_at new ≡ stream_at old

-- The inode at a block has these stamps, and nothing else has changed.
pub record IsStamped (id : ℕ) (stamp : ℤ) (m : ℕ → Option (List ℕ)) (told : Option (ℕ → Option (List ℕ))) : Type 0 where
  pub bytes : List ℕ
  pub is : told ≡ Some (with_block id bytes m)
  pub set : HasStampsSet stamp (contents m id) bytes
  pub long : 1024 ≤ length (contents m id)
  pub before : HasWords (contents m id)
  pub after : HasWords bytes

-- what is read of a file before its stamps change: the index that lists it by its stamp, where there is one, and that stamp
pub record IsListedAt (lists : Lists) (n : Node) (index : Option ℕ) (modified : ℤ) : Type 0 where
  pub row : IsNumberAt Text lists.names (codes "last_modified") index
  pub modified_is : n.modified ≡ modified

-- in some state that has this tree some piece of the file may be held to be written
abbrev pub MayBeHeld : Tree → ℕ → Type 0
MayBeHeld tree id = (at : ℕ) × (count : ℕ) × IsUnrefused tree (Hold id at count true)

-- A file is held to be written: its stamps are this one, and the call is done, which has given nothing back.
pub record IsHeldSo (g : Geometry) (v now : Room) (m : ℕ → Option (List ℕ)) (tree : Tree) (id : ℕ) (stamp : ℤ) (told : Option (ℕ → Option (List ℕ))) (old new : ℕ → Bool) : Type 0 where
  pub after : Tree
  pub after_is : after ≡ with_stamps tree id stamp
  pub done : IsDone g v now m tree after told old new
