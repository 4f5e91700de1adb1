use Rattle.bfs_log.proofs.Replays.{replayed_one, replayed_empty, malformed_one, replayed_sound}
use Rattle.bfs_log.proofs.laws.replay_gives_one.Goals as goal

pub returns-clause-one : goal.returns-clause-one
returns-clause-one c = replayed_one

pub returns-clause-empty : goal.returns-clause-empty
returns-clause-empty c = replayed_empty

pub returns-clause-fault : goal.returns-clause-fault
returns-clause-fault c = malformed_one

pub returns-clause-sound : goal.returns-clause-sound
returns-clause-sound c = replayed_sound
