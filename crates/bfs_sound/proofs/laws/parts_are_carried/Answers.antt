use Rattle.bfs_sound.proofs.Carried.{parts_carried}
use Rattle.bfs_sound.proofs.laws.parts_are_carried.Goals as goal

pub returns : goal.returns
returns c = λ v new used tree nodes some same. parts_carried v new used tree nodes some same
