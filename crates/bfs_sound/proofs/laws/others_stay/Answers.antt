use Rattle.bfs_sound.proofs.Carried.{other_stays}
use Rattle.bfs_sound.proofs.laws.others_stay.Goals as goal

pub returns : goal.returns
returns c = other_stays
