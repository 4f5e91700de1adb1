use Rattle.bfs_sound_tests.proofs.LinksBroken.{clashing_broken}
use Rattle.bfs_sound_tests.proofs.broken_volumes.clashing_is_broken.Goals as goal

pub returns : goal.returns
returns c = λ tree whole. clashing_broken tree whole
