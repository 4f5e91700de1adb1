use Rattle.bfs_tour.proofs.Paired.{pairs_listed}
use Rattle.bfs_tour.proofs.laws.pairs_are_listed.Goals as goal

pub returns : goal.returns
returns c = pairs_listed
