use Rattle.bfs_index.proofs.Pairing.{plain_zero}
use Rattle.bfs_index.proofs.taking.plain_value.Goals as goal

pub returns-in_default : goal.returns-in_default
returns-in_default c = plain_zero
