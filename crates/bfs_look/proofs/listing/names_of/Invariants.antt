use Rattle.std.proofs.Common.{◌≡◌, ◌++◌, drop}
use Rattle.std.specs.List.{flat_map}
use Rattle.bfs_look.specs.Names.{proper_name}
use Rattle.bfs_look.proofs.listing.names_of.Given as goal

abbrev pub invariant-loop-row : goal.invariant-loop-row
invariant-loop-row l = l.names.items ++ flat_map proper_name (drop l.row-index l.rows) ≡ flat_map proper_name l.rows
