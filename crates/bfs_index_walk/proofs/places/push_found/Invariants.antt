use Rattle.std.proofs.Common.{◌≡◌, ◌++◌, map, take}
use Rattle.bfs_index_walk.specs.Indices.{place_at}
use Rattle.bfs_index_walk.proofs.places.push_found.Given as goal

abbrev pub invariant-loop-i : goal.invariant-loop-i
invariant-loop-i l = l.places.items ≡ l.fn.places.items ++ map (λ i. place_at i.id) (take l.i l.found)
