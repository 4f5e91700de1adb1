use Rattle.bfs_shift.proofs.Closed.{stocked_sound}
use Rattle.bfs_shift.proofs.changes.stocked_is_sound.Goals as goal

pub returns : goal.returns
returns c = stocked_sound
