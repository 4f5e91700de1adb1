use Rattle.bfs_sound_tests.proofs.FilesBroken.{unnamed_broken}
use Rattle.bfs_sound_tests.proofs.broken_volumes.unnamed_is_broken.Goals as goal

pub returns : goal.returns
returns c = λ tree whole. unnamed_broken tree whole
