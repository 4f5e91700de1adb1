use Rattle.bfs_finding.proofs.Passes.{broken}
use Rattle.bfs_finding.proofs.Upright.{upright}
use Rattle.bfs_finding.proofs.laws.broken_excludes.Goals as goal

pub returns : goal.returns
returns c = λ v f tree x s. broken v tree (upright v tree s) f x
