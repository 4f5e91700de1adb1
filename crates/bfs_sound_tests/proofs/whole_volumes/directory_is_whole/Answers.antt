use Rattle.bfs_sound_tests.proofs.DirectoryNodes.{directory_whole}
use Rattle.bfs_sound_tests.proofs.whole_volumes.directory_is_whole.Goals as goal

pub returns : goal.returns
returns c = directory_whole
