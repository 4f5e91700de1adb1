use Rattle.bfs_tour.proofs.Going.{begins}
use Rattle.bfs_tour.proofs.laws.tour_begins.Goals as goal

pub returns : goal.returns
returns c = begins
