use Rattle.bfs_sound_tests.proofs.DirectoryBroken.{truncated_broken}
use Rattle.bfs_sound_tests.proofs.broken_volumes.truncated_is_broken.Goals as goal

pub returns : goal.returns
returns c = λ tree whole. truncated_broken tree whole
