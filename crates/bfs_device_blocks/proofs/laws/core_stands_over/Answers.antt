use Rattle.bfs_device_blocks.proofs.Facing.{core_stands}
use Rattle.bfs_device_blocks.proofs.laws.core_stands_over.Goals as goal

pub returns : goal.returns
returns c = core_stands
