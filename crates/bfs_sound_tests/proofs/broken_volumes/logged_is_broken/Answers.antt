use Rattle.bfs_sound_tests.proofs.DirectoryBroken.{logged_broken}
use Rattle.bfs_sound_tests.proofs.broken_volumes.logged_is_broken.Goals as goal

pub returns : goal.returns
returns c = λ tree whole. logged_broken tree whole
