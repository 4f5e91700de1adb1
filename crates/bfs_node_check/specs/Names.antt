-- A node's own name, and when what is said of a node is true.
use Rattle.std.specs.Prelude.{◌≡◌, ℕ, List, Some, true}
use Rattle.bfs_smalldata.specs.Items.{Item}
use Rattle.bfs_smalldata.specs.Edits.{named}
use Rattle.bfs_sound.specs.Volumes.{Volume}
use Rattle.bfs_sound.specs.Attributes.{own_name, is_name_item}
use Rattle.bfs_finding.specs.Findings.{IsBroken}
use Rattle.bfs_node_check.specs.declared.fault.NodeFault.{NodeFault}
use Rattle.bfs_node_check.specs.declared.fault.NodeFault.TheVariants.{Wrong, NoMemory}

-- the item with a node's own name has these bytes
pub record HasOwnName (items : List Item) (name : List ℕ) : Type 0 where
  pub item : Item
  pub there : named own_name items ≡ Some item
  pub own : is_name_item item ≡ true
  pub bytes : item.bytes ≡ name

-- the finding is true of the volume
abbrev pub IsNodeFault : Volume → NodeFault → Type 0
IsNodeFault v (Wrong finding) = IsBroken v finding
IsNodeFault v NoMemory = Unit {0}
