-- How many blocks a call is allowed to change.
use Rattle.std.specs.Prelude.{ℕ, ℤ, ◌+◌, ◌*◌, List, [], ◌∷◌, length, nat_lt, sum_by, Option, Some, None, if◌then◌else◌}
use Rattle.std.specs.Option.{option_map_or}
use Rattle.bfs_base.specs.declared.kind.KeyKind.TheVariants.{Text}
use Rattle.bfs_super.specs.Conditions.{natural}
use Rattle.bfs_pages.specs.Maps.{assoc}
use Rattle.bfs_stream.specs.Places.{fields}
use Rattle.bfs_tree.specs.declared.call.Call.{Call}
use Rattle.bfs_tree.specs.declared.call.Call.TheVariants as calls
use Rattle.bfs_tree.specs.Refusals.{replaced}
use Rattle.bfs_tree.specs.Trees.{Node, Tree, child}
use Rattle.bfs_sound.specs.Attributes.{attribute_directory}
use Rattle.bfs_sound.specs.Inodes.{stream_blocks, rows_of}
use Rattle.bfs_sound.specs.Listings.{index_rows}
use Rattle.bfs_sound.specs.Need.{Cost, bitmap_need, cost_of, left_with}
use Rattle.bfs_sound.specs.Owners.{Owner, with_streams, node_owners}
use Rattle.bfs_sound.specs.Volumes.{Volume, sizes}

module _ (v : Volume) where
  -- the owners of a node, and of the node of a child that is there
  abbrev pub owners_left : Option (ℕ × Node) → List Owner
  owners_left None = []
  owners_left (Some e) = node_owners v e

  -- the inode of an index, by its row in the index directory
  abbrev pub index_of : Option ℤ → List ℕ
  index_of None = []
  index_of (Some value) = natural value ∷ []

  -- the inodes that may be given up with an attribute of this name
  abbrev pub inodes_left : ℕ → List ℕ → List ℕ
  inodes_left id name = left_with v (attribute_directory v id) (assoc Text (rows_of v (attribute_directory v id)) name)

  -- the owners whose streams a call cuts or gives up
  abbrev pub left_owners : Tree → Call → List Owner
  left_owners tree (calls.Remove dir name) = owners_left (child tree dir name)
  left_owners tree (calls.Rename dir name to_dir to_name) = option_map_or (λ e. owners_left (replaced e.0 (child tree to_dir to_name))) (child tree dir name) []
  left_owners tree (calls.SetSize id size) = with_streams (if nat_lt size (natural (fields (sizes v.geometry) v.blocks id).size) then id ∷ [] else [])
  left_owners tree (calls.AttrWrite id name kind bytes) = with_streams (inodes_left id name)
  left_owners tree (calls.AttrRemove id name) = with_streams (inodes_left id name)
  left_owners tree (calls.IndexRemove name) = with_streams (index_of (assoc Text (index_rows v) name))
  left_owners tree _ = []

  -- the blocks of these streams, without their array blocks: how many those are only the arrays themselves say
  abbrev pub left_alone : List Owner → ℕ
  left_alone os = sum_by (λ o. if o.1 then 0 else length (stream_blocks v o.0)) os

-- Need for the log, counted as if each tree had one level: 28 blocks for each row that is put or taken, and all else as there.
abbrev pub allowed_cost : Volume → Cost → ℕ
allowed_cost v c = 28 * length c.rows + c.filling + c.bytes + c.arrays + bitmap_need v c + 8

-- what a call costs, where of a stream that is cut or given up the array blocks aren't counted
abbrev pub counted_cost : Volume → Tree → Call → Cost
counted_cost v tree call = record (cost_of v tree call) { left = left_alone v (left_owners v tree call) }

-- so many blocks a call may change: no more than the format's bound on a call's blocks
abbrev pub allowance : Volume → Tree → Call → ℕ
allowance v tree call = allowed_cost v (counted_cost v tree call)
