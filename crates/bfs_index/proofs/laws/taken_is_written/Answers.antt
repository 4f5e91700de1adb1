use Rattle.bfs_index.proofs.Rising.{taken_written}
use Rattle.bfs_index.proofs.laws.taken_is_written.Goals as goal

pub returns : goal.returns
returns c = taken_written
