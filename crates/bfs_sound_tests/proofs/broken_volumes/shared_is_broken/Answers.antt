use Rattle.bfs_sound_tests.proofs.DirectoryBroken.{shared_broken}
use Rattle.bfs_sound_tests.proofs.broken_volumes.shared_is_broken.Goals as goal

pub returns : goal.returns
returns c = λ tree whole. shared_broken tree whole
