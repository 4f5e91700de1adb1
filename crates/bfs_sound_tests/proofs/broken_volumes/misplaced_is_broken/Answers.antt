use Rattle.bfs_sound_tests.proofs.NestedBroken.{misplaced_broken}
use Rattle.bfs_sound_tests.proofs.broken_volumes.misplaced_is_broken.Goals as goal

pub returns : goal.returns
returns c = λ tree whole. misplaced_broken tree whole
