use Rattle.bfs_sound_tests.proofs.DirectoryBroken.{unmarked_broken}
use Rattle.bfs_sound_tests.proofs.broken_volumes.unmarked_is_broken.Goals as goal

pub returns : goal.returns
returns c = λ tree whole. unmarked_broken tree whole
