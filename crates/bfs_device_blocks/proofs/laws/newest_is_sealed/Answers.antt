use Rattle.bfs_device_blocks.proofs.Facing.{sealed_newest}
use Rattle.bfs_device_blocks.proofs.laws.newest_is_sealed.Goals as goal

pub returns : goal.returns
returns c = λ t0 sp b t st gr core group k. sealed_newest t0 sp b t st gr core group k
