use Rattle.bfs_core.proofs.Halves.{written_half}
use Rattle.bfs_core.proofs.bytes.written_is_half.Goals as goal

pub returns : goal.returns
returns c = written_half
