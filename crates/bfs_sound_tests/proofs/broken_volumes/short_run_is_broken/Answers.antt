use Rattle.bfs_sound_tests.proofs.LevelsKept.{short_run_broken}
use Rattle.bfs_sound_tests.proofs.broken_volumes.short_run_is_broken.Goals as goal

pub returns : goal.returns
returns c = λ h. short_run_broken h
