use Rattle.bfs_set_name.proofs.Rows.{can_be_named}
use Rattle.bfs_set_name.proofs.laws.nodes_can_be_named.Goals as goal

pub returns : goal.returns
returns c = λ b v m n name holds node below. can_be_named b v m n name holds node below
