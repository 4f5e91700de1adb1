use Rattle.bfs_core.proofs.Devices.{device_longer}
use Rattle.bfs_core.proofs.pairs.device_is_longer.Goals as goal

pub returns : goal.returns
returns c = device_longer
