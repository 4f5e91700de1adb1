-- A node's status that was written.
use Rattle.std.specs.Prelude.{◌≡◌, ◌≤◌, ℕ, ◌/◌, ◌%◌, List, [], length, Option, Some}
use Rattle.std.specs.FinMap.{empty}
use Rattle.bfs_bytes.specs.Fields.{unsigned_at}
use Rattle.bfs_inode.specs.Inode.{inode_at, stream_at}
use Rattle.bfs_txn.specs.Told.{with_block}
use Rattle.bfs_stream.specs.Told.{contents}
use Rattle.bfs_tree.specs.Changes.{changed}
use Rattle.bfs_tree.specs.declared.call.Call.TheVariants.{SetMode}
use Rattle.bfs_tree.specs.declared.reply.Reply.TheVariants.{Done}
use Rattle.bfs_tree.specs.Trees.{Tree}
use Rattle.bfs_shift.specs.Stocked.{HasWords}
use Rattle.bfs_moves.specs.declared.status.Status.{Status}

-- the tree once a node has this status, as the plain tree says it
abbrev pub with_status : Tree → ℕ → Status → Tree
with_status tree id s = (changed 0 s.stamp (SetMode id s.mode s.uid s.gid) Done (record { tree = tree; holds = []; known = empty })).tree

-- Of the inode in a block, user, group and the stamp of the last change of its status are these, and so are the permissions in its mode; its
-- kind, and all other fields, are what they were.
pub record HasStatusSet (s : Status) (old new : List ℕ) : Type 0 where
  pub inode : inode_at new ≡ record (inode_at old) { mode = (inode_at new).mode; uid = s.uid; gid = s.gid; status_change_time = s.stamp }
  pub stream : stream_at new ≡ stream_at old
  pub kind : unsigned_at 4 new 20 / 4096 ≡ unsigned_at 4 old 20 / 4096
  pub mode : unsigned_at 4 new 20 % 4096 ≡ s.mode

-- The inode at a block has this status, and nothing else has changed.
pub record IsRestated (d : ℕ) (s : Status) (m : ℕ → Option (List ℕ)) (told : Option (ℕ → Option (List ℕ))) : Type 0 where
  pub bytes : List ℕ
  pub is : told ≡ Some (with_block d bytes m)
  pub set : HasStatusSet s (contents m d) bytes
  pub long : 1024 ≤ length (contents m d)
  pub before : HasWords (contents m d)
  pub after : HasWords bytes
