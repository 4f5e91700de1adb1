use Rattle.bfs_shift.proofs.Called.{status_is_sound}
use Rattle.bfs_shift.proofs.streams.status_is_sound.Goals as goal

pub returns : goal.returns
returns c = status_is_sound
