use Rattle.bfs_sound_tests.proofs.DirectoryBroken.{miscounted_broken}
use Rattle.bfs_sound_tests.proofs.broken_volumes.miscounted_is_broken.Goals as goal

pub returns : goal.returns
returns c = λ tree whole. miscounted_broken tree whole
