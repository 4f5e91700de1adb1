use Rattle.bfs_sound_tests.proofs.NamesBroken.{renamed_broken}
use Rattle.bfs_sound_tests.proofs.broken_volumes.renamed_is_broken.Goals as goal

pub returns : goal.returns
returns c = λ tree whole. renamed_broken tree whole
