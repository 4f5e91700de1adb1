use Rattle.bfs_sound_tests.proofs.CirclesBroken.{entered_broken}
use Rattle.bfs_sound_tests.proofs.broken_volumes.entered_is_broken.Goals as goal

pub returns : goal.returns
returns c = λ tree whole. entered_broken tree whole
