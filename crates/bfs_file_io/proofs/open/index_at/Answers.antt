use Rattle.bfs_file_io.proofs.Counted.{index_sum}
use Rattle.bfs_file_io.proofs.open.index_at.Goals as goal

pub returns : goal.returns
returns c = index_sum c.args.size c.args.at c.args.done c.requires.some
