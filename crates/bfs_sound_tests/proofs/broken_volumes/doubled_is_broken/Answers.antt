use Rattle.bfs_sound_tests.proofs.NestedBroken.{doubled_broken}
use Rattle.bfs_sound_tests.proofs.broken_volumes.doubled_is_broken.Goals as goal

pub returns : goal.returns
returns c = λ tree whole. doubled_broken tree whole
