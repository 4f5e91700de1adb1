use Rattle.bfs_tour.proofs.Tours.{tour_standing}
use Rattle.bfs_tour.proofs.laws.tour_stands.Goals as goal

pub returns : goal.returns
returns c = tour_standing
