use Rattle.bfs_core.proofs.Onward.{same_newest}
use Rattle.bfs_device_blocks.proofs.laws.newest_stays.Goals as goal

pub returns : goal.returns
returns c = same_newest
