use Rattle.bfs_index.proofs.Rising.{written_unique}
use Rattle.bfs_index.proofs.laws.written_is_unique.Goals as goal

pub returns : goal.returns
returns c = written_unique
