-- Which nodes can be named.
use Rattle.std.specs.Prelude.{◌≢◌, ℕ, List, Option}
use Rattle.bfs_bitmap.specs.Runs.{Room}
use Rattle.bfs_tree.specs.Trees.{Node}
use Rattle.bfs_sound.specs.Nodes.{HasNode}
use Rattle.bfs_attr.specs.Bearers.{Bearer, volume_at}
use Rattle.bfs_attr.specs.Changed.{Holds}
use Rattle.bfs_set_name.specs.Renamed.{CanName}

-- What has to hold before a node gets a name holds of each node that stands and whose attributes are held, if it isn't the root.
abbrev pub NodesCanBeNamed : Type 0
NodesCanBeNamed = (b : Bearer) (v : Room) (m : ℕ → Option (List ℕ)) (n : Node) (name : List ℕ) → Holds b v m → HasNode (volume_at b.geometry m) b.id n → b.id ≢ b.geometry.root → CanName b v m name
