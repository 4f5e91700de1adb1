use Rattle.bfs_inode_walk.proofs.Recorded.{record_is}
use Rattle.bfs_inode_walk.proofs.laws.record_is_node.Goals as goal

pub returns : goal.returns
returns c = record_is
