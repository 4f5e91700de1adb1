use Rattle.bfs_sound_tests.proofs.LevelsKept.{levels_kept}
use Rattle.bfs_sound_tests.proofs.whole_volumes.levels_are_kept.Goals as goal

pub returns : goal.returns
returns c = levels_kept
