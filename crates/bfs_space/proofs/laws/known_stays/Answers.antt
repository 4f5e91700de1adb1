use Rattle.bfs_space.proofs.Known.{known_stays}
use Rattle.bfs_space.proofs.laws.known_stays.Goals as goal

pub returns : goal.returns
returns c = known_stays
