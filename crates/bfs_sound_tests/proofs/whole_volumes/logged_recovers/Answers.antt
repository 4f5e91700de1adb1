use Rattle.bfs_sound_tests.proofs.LoggedReplay.{logged_recovers}
use Rattle.bfs_sound_tests.proofs.whole_volumes.logged_recovers.Goals as goal

pub returns : goal.returns
returns c = logged_recovers
