use Rattle.bfs_attr_calls.proofs.Changed.{attributes_left}
use Rattle.bfs_attr_calls.proofs.laws.attributes_leave.Goals as goal

pub returns : goal.returns
returns c g v now m tree lists loose id n attributes told old new some work clear is rest stands kept are bytes name holds clear_now = attributes_left g v now m tree lists loose id n attributes told old new some work clear is rest stands kept are bytes name holds clear_now
