use Rattle.bfs_sound_tests.proofs.ClaimsBroken.{claimed_broken}
use Rattle.bfs_sound_tests.proofs.broken_volumes.claimed_is_broken.Goals as goal

pub returns : goal.returns
returns c = λ tree whole. claimed_broken tree whole
