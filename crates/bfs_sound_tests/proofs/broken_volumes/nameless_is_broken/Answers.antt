use Rattle.bfs_sound_tests.proofs.NamesBroken.{nameless_broken}
use Rattle.bfs_sound_tests.proofs.broken_volumes.nameless_is_broken.Goals as goal

pub returns : goal.returns
returns c = λ tree whole. nameless_broken tree whole
