use Rattle.bfs_sound_tests.proofs.InnerNodes.{vacant_whole}
use Rattle.bfs_sound_tests.proofs.whole_volumes.vacant_is_whole.Goals as goal

pub returns : goal.returns
returns c = vacant_whole
