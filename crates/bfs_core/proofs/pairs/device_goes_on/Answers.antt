use Rattle.bfs_core.proofs.Devices.{device_on}
use Rattle.bfs_core.proofs.pairs.device_goes_on.Goals as goal

pub returns : goal.returns
returns c = device_on
