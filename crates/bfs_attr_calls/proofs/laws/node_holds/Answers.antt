use Rattle.bfs_attr_calls.proofs.Holding.{node_holds}
use Rattle.bfs_attr_calls.proofs.laws.node_holds.Goals as goal

pub returns : goal.returns
returns c s v m tree lists loose id n valid work is = node_holds s v m tree lists loose id n valid work is
