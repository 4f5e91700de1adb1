use Rattle.std.proofs.Common.{◌≡◌}
use Rattle.std.specs.List.{list_all}
use Rattle.bfs_known.specs.Known.{fits_at}
use Rattle.bfs_known.proofs.known.agrees.Given as goal

abbrev pub invariant-loop-place : goal.invariant-loop-place
invariant-loop-place l = list_all (fits_at l.id l.at l.bytes) l.place-iterator ≡ list_all (fits_at l.id l.at l.bytes) l.known.entries
