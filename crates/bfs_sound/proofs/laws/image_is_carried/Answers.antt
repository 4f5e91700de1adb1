use Rattle.bfs_sound.proofs.Carried.{image_carried}
use Rattle.bfs_sound.proofs.laws.image_is_carried.Goals as goal

pub returns : goal.returns
returns c = image_carried
