use Rattle.bfs_sound_tests.proofs.LinkNodes.{links_whole}
use Rattle.bfs_sound_tests.proofs.whole_volumes.links_are_whole.Goals as goal

pub returns : goal.returns
returns c = links_whole
