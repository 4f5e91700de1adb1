use Rattle.bfs_sound_tests.proofs.FilesBroken.{uneven_broken}
use Rattle.bfs_sound_tests.proofs.broken_volumes.uneven_is_broken.Goals as goal

pub returns : goal.returns
returns c = λ tree whole. uneven_broken tree whole
