use Rattle.bfs_sound.proofs.Carried.{whole_carried}
use Rattle.bfs_sound.proofs.laws.whole_is_carried.Goals as goal

pub returns : goal.returns
returns c = whole_carried
