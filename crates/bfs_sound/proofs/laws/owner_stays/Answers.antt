use Rattle.bfs_sound.proofs.Owning.{owner_as_it_is}
use Rattle.bfs_sound.proofs.laws.owner_stays.Goals as goal

pub returns : goal.returns
returns c = λ v new used o agree. owner_as_it_is v new used o agree
