use Rattle.bfs_txn.proofs.Few.{few}
use Rattle.bfs_txn.proofs.laws.pairs_are_few.Goals as goal

pub returns : goal.returns
returns c = few
