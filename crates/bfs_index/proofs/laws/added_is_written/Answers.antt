use Rattle.bfs_index.proofs.Rising.{added_written}
use Rattle.bfs_index.proofs.laws.added_is_written.Goals as goal

pub returns : goal.returns
returns c = added_written
