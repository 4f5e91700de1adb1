-- What a call that renames a node counts.
use Rattle.std.specs.Prelude.{◌≡◌, ◌≢◌, ◌+◌, ℕ, min, Option, Some, None}
use Rattle.std.specs.FinMap.{entries}
use Rattle.bfs_tree.specs.Answers.{rows_of_indices}
use Rattle.bfs_tree.specs.Trees.{Node, Tree, IsNode}
use Rattle.bfs_sound.specs.Volumes.{Volume}
use Rattle.bfs_calls.specs.Allowances.{left_alone, owners_left}
use Rattle.bfs_remove_node.specs.Counted.{listed_among}
use Rattle.bfs_remove_node.specs.Removed.{IsOf}
use Rattle.bfs_remove_node.specs.declared.child.Child.{Child}
use Rattle.bfs_rename.specs.declared.leaving.Leaving.{Leaving}

-- what was found is this node, or there is none
abbrev pub AreOf : Option (ℕ × Node) → Option Child → Type 0
AreOf None o = o ≡ None
AreOf (Some e) None = ⊥
AreOf (Some e) (Some c) = IsOf e c

-- a node that isn't the root has the id
abbrev pub IsProperNode : Tree → ℕ → Type 0
IsProperNode tree id = (n : Node) × IsNode tree id n × (id ≢ tree.root)

-- the rows that a node leaves: one of its directory, one of each built-in index, and one of each index that lists it by an attribute
abbrev pub rows_left : Tree → ℕ → Option (ℕ × Node) → ℕ
rows_left tree built None = 0
rows_left tree built (Some e) = 1 + built + listed_among tree e.0 (rows_of_indices (entries tree.indices))

-- so many rows are left, and so many blocks of streams, without their array blocks and no more than so many
pub record IsLeaving (v : Volume) (tree : Tree) (built most : ℕ) (o : Option (ℕ × Node)) (l : Leaving) : Type 0 where
  pub rows : l.rows ≡ rows_left tree built o
  pub blocks : l.blocks ≡ min (left_alone v (owners_left v o)) most
