use Rattle.bfs_sound_tests.proofs.InnerNodes.{keyless_whole}
use Rattle.bfs_sound_tests.proofs.whole_volumes.keyless_is_whole.Goals as goal

pub returns : goal.returns
returns c = keyless_whole
