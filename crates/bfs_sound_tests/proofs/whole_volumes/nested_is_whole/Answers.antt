use Rattle.bfs_sound_tests.proofs.NestedNodes.{nested_whole}
use Rattle.bfs_sound_tests.proofs.whole_volumes.nested_is_whole.Goals as goal

pub returns : goal.returns
returns c = nested_whole
