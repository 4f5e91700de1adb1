use Rattle.bfs_core.proofs.Devices.{tells_of}
use Rattle.bfs_core.proofs.pairs.device_tells.Goals as goal

pub returns : goal.returns
returns c = tells_of
