use Rattle.bfs_sound_tests.proofs.UnreachedBroken.{unreached_broken}
use Rattle.bfs_sound_tests.proofs.broken_volumes.unreached_is_broken.Goals as goal

pub returns : goal.returns
returns c = λ tree whole. unreached_broken tree whole
