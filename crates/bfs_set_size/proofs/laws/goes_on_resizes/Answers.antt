use Rattle.bfs_set_size.proofs.Steps.{goes_on_resizes}
use Rattle.bfs_set_size.proofs.laws.goes_on_resizes.Goals as goal

pub returns : goal.returns
returns c = goes_on_resizes
