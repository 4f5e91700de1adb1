use Rattle.bfs_index_walk.proofs.Standing.{standing}
use Rattle.bfs_index_walk.proofs.laws.walk_stands.Goals as goal

pub returns : goal.returns
returns c v same = standing c.walk_is_tour.ensures c.tour_stands.ensures v c.args.claims.now c.blocks-2.ensures.inside same
