use Rattle.bfs_shift.proofs.Counted.{counted_sound}
use Rattle.bfs_shift.proofs.changes.counted_is_sound.Goals as goal

pub returns : goal.returns
returns c = λ v tree lists used stocked agrees plain root indexed is. counted_sound v tree used lists stocked agrees plain root indexed is
