use Rattle.bfs_tour.proofs.Tours.{round_unbroken}
use Rattle.bfs_tour.proofs.laws.round_is_unbroken.Goals as goal

pub returns : goal.returns
returns c = round_unbroken
