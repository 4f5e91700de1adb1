use Rattle.bfs_core.proofs.Devices.{writes_apart}
use Rattle.bfs_core.proofs.pairs.device_writes_apart.Goals as goal

pub returns : goal.returns
returns c = writes_apart
