use Rattle.bfs_index_walk.proofs.Standing.{toured}
use Rattle.bfs_index_walk.proofs.laws.walk_is_tour.Goals as goal

pub returns : goal.returns
returns c = toured c.tour_ends.ensures
