-- Two directories that were stamped.
use Rattle.std.specs.Prelude.{ℕ, ℤ}
use Rattle.bfs_tree.specs.Changes.{touched, with_node}
use Rattle.bfs_tree.specs.Trees.{Tree}

-- the tree, where the content of two directories, perhaps of one, has changed now
abbrev pub both_touched : Tree → ℕ → ℕ → ℤ → Tree
both_touched tree dir to_dir stamp = record tree { nodes = with_node (with_node tree.nodes dir (touched stamp)) to_dir (touched stamp) }
