-- A node that was gone over, but for its attributes.
use Rattle.std.specs.Prelude.{◌≡◌, ℕ, List, [], Some, true, false}
use Rattle.bfs_bytes.specs.Fields.{run_in}
use Rattle.bfs_inode.specs.Refusals.{Names}
use Rattle.bfs_smalldata.specs.Items.{Item, items_of}
use Rattle.bfs_tree.specs.Names.{is_bad_name}
use Rattle.bfs_tree.specs.declared.call.Kind.TheVariants.{Dir}
use Rattle.bfs_sound.specs.Volumes.{Volume}
use Rattle.bfs_sound.specs.Inodes.{content}
use Rattle.bfs_finding.specs.NodeFaults.{area_of}
use Rattle.bfs_finding.specs.Ways.{says}
use Rattle.bfs_node_check.specs.Names.{HasOwnName}
use Rattle.bfs_names_walk.specs.Rows.{AreNames}
use Rattle.bfs_names_walk.specs.declared.row.NameRow.{NameRow}
use Rattle.bfs_node_walk.specs.Listed.{IsListing}

-- the rows of a node with this parent: those of a directory, and none of another node
pub record AreRowsOf (v : Volume) (id parent : ℕ) (rows : List NameRow) : Type 0 where
  pub names : says v id Dir ≡ true → AreNames (content v id) rows
  pub listing : says v id Dir ≡ true → IsListing v id parent
  pub none : says v id Dir ≡ false → rows ≡ []

-- a node says itself what the row that names it does: its name, which is no bad one, and its parent
pub record IsNamedBy (v : Volume) (id parent : ℕ) (row : List ℕ) : Type 0 where
  pub items : List Item
  pub area : items_of (area_of v id) ≡ Some items
  pub own : HasOwnName items row
  pub good : is_bad_name row ≡ false
  pub parent_is : Names (run_in (v.blocks id) 44) parent v.geometry.shift
