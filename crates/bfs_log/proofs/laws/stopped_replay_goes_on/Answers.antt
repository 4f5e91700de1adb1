use Rattle.bfs_log.proofs.Replays.{stopped}
use Rattle.bfs_log.proofs.laws.stopped_replay_goes_on.Goals as goal

pub returns : goal.returns
returns c = λ image result other log agree. stopped image other result log agree
