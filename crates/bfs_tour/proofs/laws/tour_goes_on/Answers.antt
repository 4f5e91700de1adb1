use Rattle.bfs_tour.proofs.Going.{goes_on}
use Rattle.bfs_tour.proofs.laws.tour_goes_on.Goals as goal

pub returns : goal.returns
returns c = goes_on
