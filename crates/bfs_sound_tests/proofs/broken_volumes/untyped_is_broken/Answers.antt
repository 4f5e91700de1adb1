use Rattle.bfs_sound_tests.proofs.LinksBroken.{untyped_broken}
use Rattle.bfs_sound_tests.proofs.broken_volumes.untyped_is_broken.Goals as goal

pub returns : goal.returns
returns c = λ tree whole. untyped_broken tree whole
