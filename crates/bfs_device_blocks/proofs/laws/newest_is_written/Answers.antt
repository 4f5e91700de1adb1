use Rattle.bfs_device_blocks.proofs.Facing.{written_newest}
use Rattle.bfs_device_blocks.proofs.laws.newest_is_written.Goals as goal

pub returns : goal.returns
returns c = written_newest
