use Rattle.bfs_sound_tests.proofs.BareNodes.{bare_whole}
use Rattle.bfs_sound_tests.proofs.whole_volumes.bare_is_whole.Goals as goal

pub returns : goal.returns
returns c = bare_whole
