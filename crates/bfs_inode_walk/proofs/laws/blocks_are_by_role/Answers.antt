use Rattle.bfs_inode_walk.proofs.Ways.{by_role}
use Rattle.bfs_inode_walk.proofs.laws.blocks_are_by_role.Goals as goal

pub returns : goal.returns
returns c = by_role
