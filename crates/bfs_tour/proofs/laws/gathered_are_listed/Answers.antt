use Rattle.bfs_tour.proofs.Paired.{gathered_listed}
use Rattle.bfs_tour.proofs.laws.gathered_are_listed.Goals as goal

pub returns : goal.returns
returns c = gathered_listed
