use Rattle.bfs_sound_tests.proofs.LinksBroken.{outside_broken}
use Rattle.bfs_sound_tests.proofs.broken_volumes.outside_is_broken.Goals as goal

pub returns : goal.returns
returns c = λ tree whole. outside_broken tree whole
