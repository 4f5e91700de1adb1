use Rattle.bfs_sound_tests.proofs.DirectoryBroken.{overmarked_broken}
use Rattle.bfs_sound_tests.proofs.broken_volumes.overmarked_is_broken.Goals as goal

pub returns : goal.returns
returns c = λ tree whole. overmarked_broken tree whole
