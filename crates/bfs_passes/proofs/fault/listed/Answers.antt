use Rattle.std.proofs.Common.{subst}
use Rattle.bfs_indices_check.specs.Listed.{IsTrueWith}
use Rattle.bfs_passes.proofs.Telling.{listed_told}
use Rattle.bfs_passes.proofs.fault.listed.Goals as goal

pub returns-in-Wrong-clause-told : goal.returns-in-Wrong-clause-told
returns-in-Wrong-clause-told c s v tree log standing t = listed_told s v tree log standing c.in-Wrong.finding (subst (IsTrueWith v tree) c.in-Wrong.is t)
