use Rattle.bfs_log.proofs.Emptied.{superblock_is, result_valid, result_again}
use Rattle.bfs_log.proofs.laws.replayed_superblock.Goals as goal

pub returns-clause-superblock : goal.returns-clause-superblock
returns-clause-superblock c = superblock_is

pub returns-clause-valid : goal.returns-clause-valid
returns-clause-valid c = result_valid

pub returns-clause-again : goal.returns-clause-again
returns-clause-again c = result_again
