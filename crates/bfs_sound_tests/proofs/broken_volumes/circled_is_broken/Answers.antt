use Rattle.bfs_sound_tests.proofs.CirclesBroken.{circled_broken}
use Rattle.bfs_sound_tests.proofs.broken_volumes.circled_is_broken.Goals as goal

pub returns : goal.returns
returns c = λ tree whole. circled_broken tree whole
