-- A node that has another parent.
use Rattle.std.specs.Prelude.{◌≡◌, ◌≤◌, ℕ, ℤ, List, length, Option, Some}
use Rattle.std.specs.FinMap.{insert}
use Rattle.bfs_bytes.specs.declared.Run.{Run}
use Rattle.bfs_inode.specs.Inode.{inode_at, stream_at}
use Rattle.bfs_txn.specs.Told.{with_block}
use Rattle.bfs_stream.specs.Told.{contents}
use Rattle.bfs_tree.specs.Trees.{Node, Tree}
use Rattle.bfs_shift.specs.Stocked.{HasWords}

-- the tree, where a node has this parent, and this stamp of the last change of its status
abbrev pub with_parent : Tree → ℕ → Node → ℕ → ℤ → Tree
with_parent tree id n parent stamp = record tree { nodes = insert tree.nodes id (record n { parent = parent; changed = stamp }) }

-- Of the inode in a block the directory is the one at this address, and the stamp of the last change of its status is this; all else is what
-- it was.
pub record HasParentSet (run : Run) (stamp : ℤ) (old new : List ℕ) : Type 0 where
  pub inode : inode_at new ≡ record (inode_at old) { parent = run; status_change_time = stamp }
  pub stream : stream_at new ≡ stream_at old

-- The inode at a block has these, and nothing else has changed.
pub record IsParentSet (id : ℕ) (run : Run) (stamp : ℤ) (m : ℕ → Option (List ℕ)) (told : Option (ℕ → Option (List ℕ))) : Type 0 where
  pub bytes : List ℕ
  pub is : told ≡ Some (with_block id bytes m)
  pub set : HasParentSet run stamp (contents m id) bytes
  pub long : 1024 ≤ length (contents m id)
  pub before : HasWords (contents m id)
  pub after : HasWords bytes
