use Rattle.bfs_tour.proofs.Going.{round_ends}
use Rattle.bfs_tour.proofs.laws.round_ends.Goals as goal

pub returns : goal.returns
returns c = round_ends
