use Rattle.bfs_tour.proofs.Going.{ends}
use Rattle.bfs_tour.proofs.laws.tour_ends.Goals as goal

pub returns : goal.returns
returns c = ends
