use Rattle.bfs_log.proofs.Replays.{replayed_size, replayed_super, replayed_blocks, replayed_rest}
use Rattle.bfs_log.proofs.laws.replayed_image.Goals as goal

pub returns-clause-size : goal.returns-clause-size
returns-clause-size c = replayed_size

pub returns-clause-superblock : goal.returns-clause-superblock
returns-clause-superblock c = replayed_super

pub returns-clause-blocks : goal.returns-clause-blocks
returns-clause-blocks c = replayed_blocks

pub returns-clause-rest : goal.returns-clause-rest
returns-clause-rest c = replayed_rest
