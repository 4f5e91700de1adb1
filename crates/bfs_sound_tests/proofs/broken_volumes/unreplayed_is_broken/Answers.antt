use Rattle.bfs_sound_tests.proofs.LoggedReplay.{unreplayed_broken}
use Rattle.bfs_sound_tests.proofs.broken_volumes.unreplayed_is_broken.Goals as goal

pub returns : goal.returns
returns c = λ tree whole. unreplayed_broken tree whole
