use Rattle.bfs_sound_tests.proofs.AttributeNodes.{attributes_whole}
use Rattle.bfs_sound_tests.proofs.whole_volumes.attributes_are_whole.Goals as goal

pub returns : goal.returns
returns c = attributes_whole
