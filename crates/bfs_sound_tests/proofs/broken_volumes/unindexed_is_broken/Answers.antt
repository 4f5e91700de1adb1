use Rattle.bfs_sound_tests.proofs.DirectoryBroken.{unindexed_broken}
use Rattle.bfs_sound_tests.proofs.broken_volumes.unindexed_is_broken.Goals as goal

pub returns : goal.returns
returns c = λ tree whole. unindexed_broken tree whole
