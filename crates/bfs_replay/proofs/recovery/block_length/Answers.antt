use Rattle.bfs_replay.proofs.Sizes.{sizes}
use Rattle.bfs_replay.proofs.recovery.block_length.Goals as goal

pub returns-clause-bound : goal.returns-clause-bound
returns-clause-bound c = (sizes c.args.sup.now c.requires).2
