-- What a step makes of the number of nodes.
use Rattle.std.specs.Prelude.{◌≡◌}
use Rattle.bfs_tree.specs.declared.reply.Entry.{Entry}
use Rattle.bfs_tree.specs.States.{State}
use Rattle.bfs_tree.specs.Steps.{Step}
use Rattle.bfs_count.specs.Counts.{nodes_of, replaces, counted}

-- what an entry makes of the number of nodes
abbrev pub NodesAreCounted : Type 0
NodesAreCounted = (s : State) (e : Entry) (t : State) → Step s e t → nodes_of t.tree ≡ counted (nodes_of s.tree) e.call e.reply (replaces s.tree e.call)
