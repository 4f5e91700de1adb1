use Rattle.std.proofs.Common.{subst}
use Rattle.bfs_indices_check.specs.Listed.{IsMissing}
use Rattle.bfs_indices_check.proofs.Finds.{missing_true}
use Rattle.bfs_indices_check.proofs.pass.not_built.Goals as goal

pub returns-in-Wrong-clause-missing : goal.returns-in-Wrong-clause-missing
returns-in-Wrong-clause-missing c v tree found are some missing = missing_true v tree found c.in-Wrong.finding are some (subst (IsMissing found) c.in-Wrong.is missing)
