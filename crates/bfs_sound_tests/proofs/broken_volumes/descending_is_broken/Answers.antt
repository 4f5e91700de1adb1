use Rattle.bfs_sound_tests.proofs.FilesBroken.{descending_broken}
use Rattle.bfs_sound_tests.proofs.broken_volumes.descending_is_broken.Goals as goal

pub returns : goal.returns
returns c = λ tree whole. descending_broken tree whole
