use Rattle.bfs_finding.proofs.Passes.{excludes}
use Rattle.bfs_finding.proofs.laws.finding_excludes.Goals as goal

pub returns : goal.returns
returns c = excludes
