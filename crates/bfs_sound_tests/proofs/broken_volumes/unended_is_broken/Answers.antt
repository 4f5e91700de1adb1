use Rattle.bfs_sound_tests.proofs.LinksBroken.{unended_broken}
use Rattle.bfs_sound_tests.proofs.broken_volumes.unended_is_broken.Goals as goal

pub returns : goal.returns
returns c = λ tree whole. unended_broken tree whole
