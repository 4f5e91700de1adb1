use Rattle.std.proofs.Common.{refl}
use Rattle.bfs_finding.proofs.laws.names_are_worked.Goals as goal

pub returns : goal.returns
returns c = record { own = refl; other = refl; none = refl; no_row = refl; row = refl }
