use Rattle.bfs_core.proofs.Devices.{device_written}
use Rattle.bfs_core.proofs.pairs.device_is_written.Goals as goal

pub returns : goal.returns
returns c = device_written
