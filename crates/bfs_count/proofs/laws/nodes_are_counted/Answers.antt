use Rattle.bfs_count.proofs.Nodes.{step-counts}
use Rattle.bfs_count.proofs.laws.nodes_are_counted.Goals as goal

pub returns : goal.returns
returns c = step-counts
