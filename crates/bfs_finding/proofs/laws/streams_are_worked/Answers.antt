use Rattle.bfs_finding.proofs.Worked.{worked}
use Rattle.bfs_finding.proofs.laws.streams_are_worked.Goals as goal

pub returns : goal.returns
returns c = worked
