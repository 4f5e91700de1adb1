-- The way from a node up to another.
use Rattle.std.specs.Prelude.{◌≡◌, ◌≢◌, ℕ, List, [], ◌∷◌}
use Rattle.bfs_tree.specs.Trees.{Node, Tree, IsNode}

-- Parents lead from a node up to another, past nodes with these names, of which none is the root.
abbrev pub Climbs : Tree → ℕ → List (List ℕ) → ℕ → Type 0
Climbs tree id [] top = id ≡ top
Climbs tree id (name ∷ names) top = (n : Node) × IsNode tree id n × (n.name ≡ name) × (id ≢ tree.root) × Climbs tree n.parent names top
