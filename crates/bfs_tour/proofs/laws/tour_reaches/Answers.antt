use Rattle.bfs_tour.proofs.Tours.{tour_reach}
use Rattle.bfs_tour.proofs.laws.tour_reaches.Goals as goal

pub returns : goal.returns
returns c = tour_reach
