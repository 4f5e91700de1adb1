use Rattle.bfs_sound_tests.proofs.FileNodes.{files_whole}
use Rattle.bfs_sound_tests.proofs.whole_volumes.files_are_whole.Goals as goal

pub returns : goal.returns
returns c = files_whole
