use Rattle.bfs_sound_tests.proofs.LinksBroken.{repeated_broken}
use Rattle.bfs_sound_tests.proofs.broken_volumes.repeated_is_broken.Goals as goal

pub returns : goal.returns
returns c = λ tree whole. repeated_broken tree whole
