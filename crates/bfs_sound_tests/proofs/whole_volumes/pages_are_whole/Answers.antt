use Rattle.bfs_sound_tests.proofs.PageNodes.{pages_whole}
use Rattle.bfs_sound_tests.proofs.whole_volumes.pages_are_whole.Goals as goal

pub returns : goal.returns
returns c = pages_whole
