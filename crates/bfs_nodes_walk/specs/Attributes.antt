-- The names of a node's attributes.
use Rattle.std.specs.Prelude.{◌≡◌, ℕ, List, Option, Some, false}
use Rattle.std.specs.List.{AllByRecursion}
use Rattle.bfs_node.specs.Page.{Row}
use Rattle.bfs_smalldata.specs.Items.{Item}
use Rattle.bfs_smalldata.specs.Edits.{named}
use Rattle.bfs_sound.specs.Volumes.{Volume}
use Rattle.bfs_sound.specs.Attributes.{is_name_item}
use Rattle.bfs_sound.specs.Inodes.{rows_of}
use Rattle.bfs_names_walk.specs.Rows.{as_rows}
use Rattle.bfs_names_walk.specs.declared.row.NameRow.{NameRow}
use Rattle.bfs_node_walk.specs.Listed.{proper}

-- an item with this name is there, which isn't the one with the node's own name
abbrev pub HasItem : List Item → List ℕ → Type 0
HasItem items name = (item : Item) × (named name items ≡ Some item) × (is_name_item item ≡ false)

-- no row but `.` and `..` has the name of such an item
abbrev pub AreOthers : List Item → List NameRow → Type 0
AreOthers items rows = AllByRecursion (λ (r : Row). ¬ HasItem items r.0) (proper (as_rows rows))

-- they are the rows of the attribute directory, or there is none, and they are none
abbrev pub AreRowsIn : Volume → Option ℕ → List NameRow → Type 0
AreRowsIn v found rows = proper (as_rows rows) ≡ rows_of v found
