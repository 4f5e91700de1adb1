use Rattle.bfs_sound_tests.proofs.InnerNodes.{twin_whole}
use Rattle.bfs_sound_tests.proofs.whole_volumes.twin_is_whole.Goals as goal

pub returns : goal.returns
returns c = twin_whole
