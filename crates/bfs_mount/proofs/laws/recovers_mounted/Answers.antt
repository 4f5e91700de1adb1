use Rattle.bfs_mount.proofs.Hindered as hindered
use Rattle.bfs_mount.proofs.laws.recovers_mounted.Goals as goal

pub returns : goal.returns
returns c = hindered.recovers_mounted
