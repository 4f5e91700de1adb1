use Rattle.bfs_file_io.proofs.Counted.{skip_sum}
use Rattle.bfs_file_io.proofs.open.skip_at.Goals as goal

pub returns-clause-value : goal.returns-clause-value
returns-clause-value c = skip_sum c.args.size c.args.at c.args.done c.requires.some
