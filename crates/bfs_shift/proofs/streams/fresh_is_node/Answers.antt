use Rattle.bfs_shift.proofs.Fresh.{fresh_node, fresh_blocks}
use Rattle.bfs_shift.proofs.streams.fresh_is_node.Goals as goal

pub returns : goal.returns
returns c = λ v id n f. (fresh_node v id n f, fresh_blocks v id n f)
