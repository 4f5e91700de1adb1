-- The keys of files by size and by stamp, which were kept as the nodes were gone over.
use Rattle.std.specs.Prelude.{List, map, Option}
use Rattle.bfs_tour.specs.Tours.{Visit}
use Rattle.bfs_nodes_walk.specs.declared.facts.FileKeys.{FileKeys}
use Rattle.bfs_nodes_walk.specs.declared.facts.NodeFacts.{NodeFacts}
use Rattle.bfs_nodes_walk.specs.Facts.{keys_of}

-- the keys of nodes, in their order
abbrev pub keys_of_visits : List Visit → List (Option FileKeys)
keys_of_visits es = map (λ (e : Visit). keys_of e.1) es

-- the keys that were kept of nodes
abbrev pub kept_keys : List NodeFacts → List (Option FileKeys)
kept_keys facts = map (λ (f : NodeFacts). f.keys) facts
