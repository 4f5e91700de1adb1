use Rattle.bfs_sound_tests.proofs.PagesBroken.{mismeasured_broken}
use Rattle.bfs_sound_tests.proofs.broken_volumes.mismeasured_is_broken.Goals as goal

pub returns : goal.returns
returns c = λ tree whole. mismeasured_broken tree whole
