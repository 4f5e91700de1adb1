use Rattle.bfs_sound_tests.proofs.FilesBroken.{unfilled_broken}
use Rattle.bfs_sound_tests.proofs.broken_volumes.unfilled_is_broken.Goals as goal

pub returns : goal.returns
returns c = λ tree whole. unfilled_broken tree whole
