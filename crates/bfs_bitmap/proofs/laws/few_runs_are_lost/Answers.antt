use Rattle.bfs_bitmap.proofs.Counts.{few_runs_lost}
use Rattle.bfs_bitmap.proofs.laws.few_runs_are_lost.Goals as goal

pub returns : goal.returns
returns c = few_runs_lost
