use Rattle.bfs_shift.proofs.Closed.{sound_stocked, sound_agrees}
use Rattle.bfs_shift.proofs.changes.sound_is_stocked.Goals as goal

pub returns : goal.returns
returns c = (λ v tree sound. (sound_stocked v tree sound, sound_agrees v tree sound))
