use Rattle.bfs_sound_tests.proofs.NamesBroken.{astray_broken}
use Rattle.bfs_sound_tests.proofs.broken_volumes.astray_is_broken.Goals as goal

pub returns : goal.returns
returns c = λ tree whole. astray_broken tree whole
