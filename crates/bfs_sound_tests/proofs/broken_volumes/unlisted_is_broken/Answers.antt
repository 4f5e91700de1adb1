use Rattle.bfs_sound_tests.proofs.DirectoryBroken.{unlisted_broken}
use Rattle.bfs_sound_tests.proofs.broken_volumes.unlisted_is_broken.Goals as goal

pub returns : goal.returns
returns c = λ tree whole. unlisted_broken tree whole
