use Rattle.bfs_inode_walk.proofs.Blocks.{block_is}
use Rattle.bfs_inode_walk.proofs.block.check_block.Goals as goal

pub check_inode-requires-clause-block : goal.check_inode-requires-clause-block
check_inode-requires-clause-block c = block_is c.args.sup c.requires.valid c.args.bytes.now c.requires.length
