use Rattle.bfs_mount.proofs.Bare as bare
use Rattle.bfs_mount.proofs.laws.mounts_bare.Goals as goal

pub returns : goal.returns
returns c = bare.mounts_bare
