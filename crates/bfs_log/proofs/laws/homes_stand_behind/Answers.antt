use Rattle.bfs_log.proofs.Walks.{homes_read}
use Rattle.bfs_log.proofs.laws.homes_stand_behind.Goals as goal

pub returns : goal.returns
returns c = homes_read
