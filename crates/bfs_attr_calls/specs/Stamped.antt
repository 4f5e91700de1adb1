-- A node's stamp of the last change of its status that was written.
use Rattle.std.specs.Prelude.{◌≡◌, ◌≤◌, ℕ, ℤ, List, length, Option, Some}
use Rattle.std.specs.FinMap.{insert}
use Rattle.bfs_inode.specs.Inode.{inode_at, stream_at}
use Rattle.bfs_txn.specs.Told.{with_block}
use Rattle.bfs_stream.specs.Told.{contents}
use Rattle.bfs_tree.specs.Trees.{Node, Tree}
use Rattle.bfs_shift.specs.Stocked.{HasWords}

-- the tree, where a node has this stamp of the last change of its status
abbrev pub with_changed : Tree → ℕ → Node → ℤ → Tree
with_changed tree id n stamp = record tree { nodes = insert tree.nodes id (record n { changed = stamp }) }

-- Of the inode in a block the stamp of the last change of its status is this; all else is what it was.
pub record HasChangedSet (stamp : ℤ) (old new : List ℕ) : Type 0 where
  pub inode : inode_at new ≡ record (inode_at old) { status_change_time = stamp }
  pub stream : stream_at new ≡ stream_at old

-- The inode at a block has this stamp, and nothing else has changed.
pub record IsChangedSet (id : ℕ) (stamp : ℤ) (m : ℕ → Option (List ℕ)) (told : Option (ℕ → Option (List ℕ))) : Type 0 where
  pub bytes : List ℕ
  pub is : told ≡ Some (with_block id bytes m)
  pub set : HasChangedSet stamp (contents m id) bytes
  pub long : 1024 ≤ length (contents m id)
  pub before : HasWords (contents m id)
  pub after : HasWords bytes
