use Rattle.bfs_sound_tests.proofs.PagesBroken.{looped_broken}
use Rattle.bfs_sound_tests.proofs.broken_volumes.looped_is_broken.Goals as goal

pub returns : goal.returns
returns c = λ tree whole. looped_broken tree whole
